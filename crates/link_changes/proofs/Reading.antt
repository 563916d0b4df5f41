-- The indications in the control PDUs that a central sends, and in those that a peripheral takes.
use Rattle.std.proofs.Common.{◌≡◌, ℕ, ◌+◌, ◌%◌, ◌^◌, ◌<◌, Bool, true, false, if◌then◌else◌, Some, None, refl, ap, subst, arith}
use Rattle.data_pdu.specs.Layouts.{IsCtrl, makers, written}
use Rattle.data_pdu.specs.Reading.{ctrl_of}
use Rattle.data_pdu.specs.declared.ctrl.Ctrl.{Ctrl}
use Rattle.data_pdu.specs.declared.ctrl.Ctrl.TheVariants.{ChannelMapInd, ConnectionUpdateInd, ConnectionParamReq, EncReq, EncRsp, LengthReq, LengthRsp, PauseEncReq, PauseEncRsp, RejectExtInd, StartEncReq, StartEncRsp, TerminateInd, UnknownRsp}
use Rattle.data_pdu.specs.declared.ctrl.CtrlRead.TheVariants.{Known, Unknown}
use Rattle.data_pdu.proofs.Rows.{written_is_known}
use Rattle.wire_fields.specs.Field.{little_endian}
use Rattle.link_model.specs.procedure_values.Drafts.{ctrl_of_draft, ctrl_of_outgoing, indication_of, indication_of_draft, instant_at, no_offsets}
use Rattle.link_model.specs.procedure_values.Values.{IsParams, ParamValues}
use Rattle.link_model.specs.procedure_values.declared.drafts.Draft.{Draft}
use Rattle.link_model.specs.procedure_values.declared.drafts.Draft.TheVariants.{Cipher, FeatureReq as feature_req, FeatureRsp as feature_rsp, Grant, LengthReq as length_req, LengthRsp as length_rsp, Map, PeripheralFeatureReq as peripheral_feature_req, PhyInd, PhyReq as phy_req, PhyRsp as phy_rsp, Request, UnknownRsp as unknown_rsp, Update, VersionInd as version_draft}
use Rattle.link_model.specs.procedure_values.declared.drafts.Outgoing.{Outgoing}
use Rattle.link_model.specs.procedure_values.declared.drafts.Outgoing.TheVariants.{Disconnect, Nothing, Other, Rejection}
use Rattle.link_changes.specs.Noted.{indication_read}
use Rattle.link_changes.proofs.Readable.{IsGoodDraft, IsOwed}

-- ---- what is sent

instant_fits : (n : ℕ) → n % 2 ^ 16 < 256 ^ 2
instant_fits n = omega arith

update_ctrl : (p : ParamValues) → IsParams p → (instant : ℕ) → instant < 256 ^ 2
    → IsCtrl (ConnectionUpdateInd 1 0 p.interval p.latency p.timeout instant)
update_ctrl p is instant small =
    let interval = is.interval_to in
    let latency = is.latency_to in
    let timeout = is.timeout_to in record {
      fits = grind (arith, interval, latency, timeout, small);
      six_offsets = tt;
      range = is;
    }

read_if : (b : Bool) (ctrl : Ctrl) (opcode : ℕ) → indication_read (Known ctrl) ≡ None → indication_read (if b then Known ctrl else Unknown opcode) ≡ None
read_if true ctrl opcode is = is
read_if false ctrl opcode is = refl

request_read : (min max latency timeout reference : ℕ) → indication_read (ctrl_of (written (ConnectionParamReq min max latency timeout 0 reference no_offsets))) ≡ None
unfolding ctrl_of makers little_endian
request_read min max latency timeout reference = refl

length_req_read : (rx rx_time tx tx_time : ℕ) → indication_read (ctrl_of (written (LengthReq rx rx_time tx tx_time))) ≡ None
unfolding ctrl_of makers little_endian
length_req_read rx rx_time tx tx_time = read_if _ _ _ refl

length_rsp_read : (rx rx_time tx tx_time : ℕ) → indication_read (ctrl_of (written (LengthRsp rx rx_time tx tx_time))) ≡ None
unfolding ctrl_of makers little_endian
length_rsp_read rx rx_time tx tx_time = read_if _ _ _ refl

unknown_read : (opcode : ℕ) → indication_read (ctrl_of (written (UnknownRsp opcode))) ≡ None
unfolding ctrl_of makers little_endian
unknown_read opcode = refl

reject_read : (opcode code : ℕ) → indication_read (ctrl_of (written (RejectExtInd opcode code))) ≡ None
unfolding ctrl_of makers little_endian
reject_read opcode code = refl

terminate_read : (code : ℕ) → indication_read (ctrl_of (written (TerminateInd code))) ≡ None
unfolding ctrl_of makers little_endian
terminate_read code = refl

-- a PDU of an encryption is no indication
owed_read : (ctrl : Ctrl) → IsOwed ctrl → indication_read (ctrl_of (written ctrl)) ≡ None
unfolding ctrl_of makers little_endian
owed_read (EncReq rand ediv skd_m iv_m) is = refl
owed_read (EncRsp skd_s iv_s) is = refl
owed_read StartEncReq is = refl
owed_read StartEncRsp is = refl
owed_read PauseEncReq is = refl
owed_read PauseEncRsp is = refl
owed_read (RejectExtInd opcode code) is = reject_read opcode code
owed_read (TerminateInd code) is = terminate_read code
owed_read other is = absurd is

draft_read : (draft : Draft) (event skips : ℕ) → IsGoodDraft draft
    → indication_read (ctrl_of (written (ctrl_of_draft draft event skips))) ≡ indication_of_draft draft event skips
unfolding ctrl_of makers little_endian
draft_read (Update params) event skips is =
    ap indication_read (written_is_known _ (update_ctrl params is (instant_at event skips) (instant_fits _)))
draft_read (Grant params) event skips is =
    ap indication_read (written_is_known _ (update_ctrl params is (instant_at event skips) (instant_fits _)))
draft_read (Map map) event skips is =
    let small = is.data_channels_only in
    let counter = instant_fits (event + 6 + skips) in
    ap indication_read (written_is_known (ChannelMapInd map (instant_at event skips))
    (record { fits = grind (arith, small, counter); six_offsets = tt; range = is }))
draft_read (Cipher ctrl) event skips is = owed_read ctrl is
draft_read (Request min max latency timeout) event skips is = request_read min max latency timeout (event % 2 ^ 16)
draft_read (length_req rx tx) event skips is = length_req_read rx _ tx _
draft_read (length_rsp rx tx) event skips is = length_rsp_read rx _ tx _
draft_read (unknown_rsp opcode) event skips is = unknown_read opcode
draft_read phy_req event skips is = refl
draft_read phy_rsp event skips is = refl
draft_read PhyInd event skips is = refl
draft_read feature_req event skips is = refl
draft_read peripheral_feature_req event skips is = refl
draft_read feature_rsp event skips is = refl
draft_read version_draft event skips is = refl

pub sent_read : (outgoing : Outgoing) (event skips : ℕ) (ctrl : Ctrl) → ((draft : Draft) → outgoing ≡ Other draft → IsGoodDraft draft)
    → ctrl_of_outgoing outgoing event skips ≡ Some ctrl → indication_read (ctrl_of (written ctrl)) ≡ indication_of outgoing event skips
sent_read Nothing event skips ctrl good is = absurd (cc)
sent_read (Rejection rejection) event skips ctrl good is =
    let same : RejectExtInd rejection.opcode rejection.code.0 ≡ ctrl = cc in
    subst (λ (c : Ctrl). indication_read (ctrl_of (written c)) ≡ None) same (reject_read rejection.opcode rejection.code.0)
sent_read (Disconnect code) event skips ctrl good is =
    let same : TerminateInd code.0 ≡ ctrl = cc in
    subst (λ (c : Ctrl). indication_read (ctrl_of (written c)) ≡ None) same (terminate_read code.0)
sent_read (Other draft) event skips ctrl good is =
    let same : ctrl_of_draft draft event skips ≡ ctrl = cc in
    subst (λ (c : Ctrl). indication_read (ctrl_of (written c)) ≡ indication_of_draft draft event skips) same (draft_read draft event skips (good draft refl))
