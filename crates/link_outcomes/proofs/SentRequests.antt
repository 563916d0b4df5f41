-- Where the next control PDU of a peripheral is LL_CONNECTION_PARAM_REQ, its request is not acknowledged.
use Rattle.std.proofs.Common.{◌≡◌, ◌≤◌, ℕ, not, Bool, true, false, Option, Some, None, is_none, if◌then◌else◌, refl, ap, ◌∙◌, arith}
use Rattle.ble_base.specs.declared.roles.Role.TheVariants.{Peripheral as peripheral_role}
use Rattle.data_pdu.specs.Layouts.{makers, written}
use Rattle.data_pdu.specs.Reading.{ctrl_of}
use Rattle.data_pdu.specs.declared.ctrl.Ctrl.{Ctrl}
use Rattle.data_pdu.specs.declared.ctrl.Ctrl.TheVariants.{ConnectionUpdateInd, EncReq, EncRsp, LengthRsp, PauseEncReq, PauseEncRsp, RejectExtInd, StartEncReq, StartEncRsp, TerminateInd, UnknownRsp}
use Rattle.data_pdu.specs.declared.ctrl.CtrlRead.TheVariants.{Known, Unknown}
use Rattle.exclusive_stages.specs.Pdus.{is_kind}
use Rattle.exclusive_stages.specs.declared.pdus.Exclusive.{Exclusive}
use Rattle.exclusive_stages.specs.declared.pdus.Exclusive.TheVariants.{Request as request_kind}
use Rattle.instants.specs.Track.{event_of}
use Rattle.link_model.specs.control_model.Control.{Control}
use Rattle.link_model.specs.control_end.Answers.{next_ctrl}
use Rattle.link_model.specs.control_end.Held.{held_of}
use Rattle.link_model.specs.procedure_values.Drafts.{ctrl_of_draft, ctrl_of_outgoing}
use Rattle.link_model.specs.procedure_values.declared.drafts.Draft.{Draft}
use Rattle.link_model.specs.procedure_values.declared.drafts.Draft.TheVariants.{Cipher, FeatureReq, FeatureRsp, Grant, LengthReq, LengthRsp as length_rsp, Map, PeripheralFeatureReq, PhyInd, PhyReq, PhyRsp, Request, UnknownRsp as unknown_rsp, Update, VersionInd}
use Rattle.link_model.specs.procedure_values.declared.drafts.Outgoing.{Outgoing}
use Rattle.link_model.specs.procedure_values.declared.drafts.Outgoing.TheVariants.{Disconnect, Nothing, Other, Rejection}
use Rattle.link_model.specs.procedure_stages.Kinds.{role_of}
use Rattle.link_model.specs.procedure_stages.declared.stages.Progress.{Progress}
use Rattle.link_model.specs.procedure_stages.declared.stages.Progress.TheVariants.{Central as central, Peripheral as peripheral}
use Rattle.link_model.specs.procedures.Queue.{next_of}
use Rattle.link_model.specs.procedures.Table.{TableFacts}
use Rattle.link_model.proofs.Views.{is_ciphering}
use Rattle.link_model.proofs.table_laws.Outcomes.{own_room}
use Rattle.wire_fields.specs.Field.{little_endian}
use Rattle.link_outcomes.specs.Answered.{kind_begun}
use Rattle.link_outcomes.proofs.Taking.{late_in}
use Rattle.link_outcomes.proofs.Requests.{Fits, IsFirst, asks, first_of, number, one_if, room_low}
use Rattle.link_outcomes.proofs.Controls.{Holds}

-- ---- which PDU is read as the first of a request

-- the octets of a control PDU are those of LL_CONNECTION_PARAM_REQ
abbrev pub is_request : Ctrl → Bool
is_request ctrl = is_kind (kind_begun (ctrl_of (written ctrl))) request_kind

if_none : (b : Bool) (ctrl : Ctrl) (opcode : ℕ) → kind_begun (Known ctrl) ≡ None → kind_begun (if b then Known ctrl else Unknown opcode) ≡ None
if_none true ctrl opcode is = is
if_none false ctrl opcode is = refl

update_begins : (interval latency timeout instant : ℕ) → kind_begun (ctrl_of (written (ConnectionUpdateInd 1 0 interval latency timeout instant))) ≡ None
unfolding ctrl_of makers little_endian
update_begins interval latency timeout instant = if_none _ _ _ refl

length_begins : (rx rx_time tx tx_time : ℕ) → kind_begun (ctrl_of (written (LengthRsp rx rx_time tx tx_time))) ≡ None
unfolding ctrl_of makers little_endian
length_begins rx rx_time tx tx_time = if_none _ _ _ refl

unknown_begins : (opcode : ℕ) → kind_begun (ctrl_of (written (UnknownRsp opcode))) ≡ None
unfolding ctrl_of makers little_endian
unknown_begins opcode = refl

reject_begins : (opcode code : ℕ) → kind_begun (ctrl_of (written (RejectExtInd opcode code))) ≡ None
unfolding ctrl_of makers little_endian
reject_begins opcode code = refl

terminate_begins : (code : ℕ) → kind_begun (ctrl_of (written (TerminateInd code))) ≡ None
unfolding ctrl_of makers little_endian
terminate_begins code = refl

phy_rsp_begins : (event skips : ℕ) → kind_begun (ctrl_of (written (ctrl_of_draft PhyRsp event skips))) ≡ None
unfolding ctrl_of makers little_endian
phy_rsp_begins event skips = refl

phy_ind_begins : (event skips : ℕ) → kind_begun (ctrl_of (written (ctrl_of_draft PhyInd event skips))) ≡ None
unfolding ctrl_of makers little_endian
phy_ind_begins event skips = refl

feature_begins : (event skips : ℕ) → kind_begun (ctrl_of (written (ctrl_of_draft FeatureRsp event skips))) ≡ None
unfolding ctrl_of makers little_endian
feature_begins event skips = refl

version_begins : (event skips : ℕ) → kind_begun (ctrl_of (written (ctrl_of_draft VersionInd event skips))) ≡ None
unfolding ctrl_of makers little_endian
version_begins event skips = refl

none_said : (X : Type 0) (begun : Option Exclusive) → begun ≡ None → is_kind begun request_kind ≡ true → X
none_said X None none is = absurd cc
none_said X (Some kind) none is = absurd cc

enc_req_begins : (rand ediv skd_m iv_m : ℕ) → kind_begun (ctrl_of (written (EncReq rand ediv skd_m iv_m))) ≡ None
unfolding ctrl_of makers little_endian
enc_req_begins rand ediv skd_m iv_m = refl

enc_rsp_begins : (skd_s iv_s : ℕ) → kind_begun (ctrl_of (written (EncRsp skd_s iv_s))) ≡ None
unfolding ctrl_of makers little_endian
enc_rsp_begins skd_s iv_s = refl

start_req_begins : kind_begun (ctrl_of (written StartEncReq)) ≡ None
unfolding ctrl_of makers little_endian
start_req_begins = refl

start_rsp_begins : kind_begun (ctrl_of (written StartEncRsp)) ≡ None
unfolding ctrl_of makers little_endian
start_rsp_begins = refl

pause_req_begins : kind_begun (ctrl_of (written PauseEncReq)) ≡ None
unfolding ctrl_of makers little_endian
pause_req_begins = refl

pause_rsp_begins : kind_begun (ctrl_of (written PauseEncRsp)) ≡ None
unfolding ctrl_of makers little_endian
pause_rsp_begins = refl

-- a PDU of an encryption is none
cipher_asks : (ctrl : Ctrl) → is_request ctrl ≡ true → not (is_ciphering ctrl) ≡ true
cipher_asks (EncReq rand ediv skd_m iv_m) is = none_said _ _ (enc_req_begins rand ediv skd_m iv_m) is
cipher_asks (EncRsp skd_s iv_s) is = none_said _ _ (enc_rsp_begins skd_s iv_s) is
cipher_asks StartEncReq is = none_said _ _ start_req_begins is
cipher_asks StartEncRsp is = none_said _ _ start_rsp_begins is
cipher_asks PauseEncReq is = none_said _ _ pause_req_begins is
cipher_asks PauseEncRsp is = none_said _ _ pause_rsp_begins is
cipher_asks (RejectExtInd opcode code) is = none_said _ _ (reject_begins opcode code) is
cipher_asks (TerminateInd code) is = none_said _ _ (terminate_begins code) is
cipher_asks ctrl is = refl

draft_asks : (draft : Draft) (event skips : ℕ) → is_request (ctrl_of_draft draft event skips) ≡ true → asks draft ≡ true
draft_asks (Update params) event skips is = refl
draft_asks (Map map) event skips is = refl
draft_asks (Request min max latency timeout) event skips is = refl
draft_asks PhyReq event skips is = refl
draft_asks FeatureReq event skips is = refl
draft_asks PeripheralFeatureReq event skips is = refl
draft_asks (LengthReq rx tx) event skips is = refl
draft_asks (Cipher ctrl) event skips is = cipher_asks ctrl is
draft_asks (Grant params) event skips is = none_said _ _ (update_begins params.interval params.latency params.timeout _) is
draft_asks (length_rsp rx tx) event skips is = none_said _ _ (length_begins rx _ tx _) is
draft_asks (unknown_rsp opcode) event skips is = none_said _ _ (unknown_begins opcode) is
draft_asks PhyRsp event skips is = none_said _ _ (phy_rsp_begins event skips) is
draft_asks PhyInd event skips is = none_said _ _ (phy_ind_begins event skips) is
draft_asks FeatureRsp event skips is = none_said _ _ (feature_begins event skips) is
draft_asks VersionInd event skips is = none_said _ _ (version_begins event skips) is

-- ---- so an own procedure is unsent

in_room : (p : Progress) → role_of p ≡ peripheral_role → 1 ≤ own_room p → late_in p ≤ 0
in_room (central c) role one = absurd (cc)
in_room (peripheral p) role one = room_low p.own one

first_low : (f : TableFacts) (n : ℕ) (draft : Draft) → role_of f.progress ≡ peripheral_role → Fits n f → IsFirst f.queue.drafts draft → asks draft ≡ true
    → Fits 0 f
first_low f n draft role fits first is =
    let few = fits.few in
    let are = ap number first.are in
    let one = ap one_if is in
    record { few = few; low = in_room f.progress role (omega (arith, few, are, one)) }

out_low : (f : TableFacts) (n event skips : ℕ) (quiet : Bool) (ctrl : Ctrl) (out : Outgoing) → role_of f.progress ≡ peripheral_role → Fits n f
    → next_of f event quiet ≡ out → ctrl_of_outgoing out event skips ≡ Some ctrl → is_request ctrl ≡ true → Fits 0 f
out_low f n event skips quiet ctrl Nothing role fits next sent is = absurd cc
out_low f n event skips quiet ctrl (Rejection rejection) role fits next sent is =
    let same : RejectExtInd rejection.opcode rejection.code.0 ≡ ctrl = cc in
    none_said _ _ (reject_begins rejection.opcode rejection.code.0) (ap is_request same ∙ is)
out_low f n event skips quiet ctrl (Disconnect code) role fits next sent is =
    let same : TerminateInd code.0 ≡ ctrl = cc in
    none_said _ _ (terminate_begins code.0) (ap is_request same ∙ is)
out_low f n event skips quiet ctrl (Other draft) role fits next sent is =
    let same : ctrl_of_draft draft event skips ≡ ctrl = cc in
    first_low f n draft role fits (first_of f event quiet draft next) (draft_asks draft event skips (ap is_request same ∙ is))

pub request_low : (n : ℕ) (quiet : Bool) (c : Control) (ctrl : Ctrl) → Holds n c → next_ctrl quiet (held_of c) ≡ Some ctrl → is_request ctrl ≡ true → Holds 0 c
request_low n quiet c ctrl h next is = by (is_none c.ends) next
  where
    by : (goes : Bool) → (if goes then ctrl_of_outgoing (next_of c.table (event_of c.track) quiet) (event_of c.track) c.track.params.latency else None) ≡ Some ctrl
        → Holds 0 c
    by true sent =
        record {
          role = h.role;
          fits =
              out_low c.table n (event_of c.track) c.track.params.latency quiet ctrl (next_of c.table (event_of c.track) quiet) h.role h.fits refl sent is;
        }
    by false sent = absurd cc
