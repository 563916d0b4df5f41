-- An indication that a central sends is owed by its own procedure, where the peripheral is owed none.
use Rattle.std.proofs.Common.{◌≡◌, ℕ, ◌+◌, ◌≤◌, ◌==◌, ◌&&◌, not, Bool, true, false, List, [], ◌∷◌, Option, Some, None, is_some, if◌then◌else◌, refl, sym, ap, subst, ◌∙◌, arith}
use Rattle.std.specs.List.{All}
use Rattle.std.proofs.lemmas.List.Elements.{All-head}
use Rattle.arrayvec.specs.ArrayVec.{ArrayVec}
use Rattle.ble_base.specs.declared.notes.Note.TheVariants.{Sent}
use Rattle.ble_base.specs.declared.roles.Role.TheVariants.{Central as central_role}
use Rattle.collision_steps.specs.CentralPart.{central_of}
use Rattle.collision_steps.specs.Parts.{drafts_part, with_part}
use Rattle.data_pdu.specs.Layouts.{makers, written}
use Rattle.data_pdu.specs.Reading.{ctrl_of}
use Rattle.data_pdu.specs.declared.ctrl.Ctrl.{Ctrl}
use Rattle.data_pdu.specs.declared.ctrl.Ctrl.TheVariants.{ChannelMapInd, ConnectionParamReq, ConnectionUpdateInd, EncReq, EncRsp, LengthReq, LengthRsp, PauseEncReq, PauseEncRsp, RejectExtInd, StartEncReq, StartEncRsp, TerminateInd, UnknownRsp}
use Rattle.data_pdu.specs.declared.ctrl.CtrlRead.TheVariants.{Known, Unknown}
use Rattle.exclusive_stages.specs.Kinds.{central_kind}
use Rattle.exclusive_stages.specs.declared.pdus.Exclusive.{Exclusive}
use Rattle.exclusive_stages.specs.declared.pdus.Exclusive.TheVariants.{Map as map_kind, Phy as phy_kind, Update as update_kind}
use Rattle.exclusive_stages.specs.declared.pdus.Pdu.{Pdu as ExclusivePdu}
use Rattle.exclusive_stages.specs.declared.pdus.Pdu.TheVariants.{GrantInd, MapInd, PhyInd as phy_ind, UpdateInd}
use Rattle.exclusive_stages.specs.declared.stages.CentralStage.{CentralStage}
use Rattle.exclusive_stages.specs.declared.stages.CentralStage.TheVariants.{MapUnsent, PhyAnswered, UpdateUnsent}
use Rattle.instants.specs.Track.{event_of}
use Rattle.link_model.specs.Acknowledgement.{Pdu, is_acked}
use Rattle.link_model.specs.Controls.{goes_on, is_quiet_now, next_control, pdu_fixed, pdu_of_control}
use Rattle.link_model.specs.Data.{Data, is_control, is_empty, numbered, pdu_with}
use Rattle.link_model.specs.Facts.{Facts}
use Rattle.link_model.specs.Fixing.{data_cut, data_fixed_by, data_goes, facts_fixed, fixed_anew}
use Rattle.acl_banks.specs.declared.pieces.Piece.{Piece}
use Rattle.link_model.specs.Sending.{sent_notes, sent_notes_if}
use Rattle.link_model.specs.Setup.{Setup}
use Rattle.link_model.specs.procedure_values.Drafts.{ctrl_of_draft, ctrl_of_outgoing, instant_at, no_offsets}
use Rattle.link_model.specs.procedure_values.declared.drafts.Draft.{Draft}
use Rattle.link_model.specs.procedure_values.declared.drafts.Draft.TheVariants.{Cipher, FeatureReq as feature_req, FeatureRsp as feature_rsp, Grant, LengthReq as length_req, LengthRsp as length_rsp, Map, PeripheralFeatureReq as peripheral_feature_req, PhyInd, PhyReq as phy_req, PhyRsp as phy_rsp, Request, UnknownRsp as unknown_rsp, Update, VersionInd as version_draft}
use Rattle.link_model.specs.procedure_values.declared.drafts.Outgoing.{Outgoing}
use Rattle.link_model.specs.procedure_values.declared.drafts.Outgoing.TheVariants.{Disconnect, Nothing, Other, Rejection}
use Rattle.link_model.specs.procedure_stages.Exclusive.{pdu_of_draft}
use Rattle.link_model.specs.procedure_stages.Kinds.{role_of}
use Rattle.link_model.specs.procedure_stages.Queue.{waiting_in}
use Rattle.link_model.specs.procedures.Queue.{next_of}
use Rattle.link_model.specs.procedures.Table.{TableFacts}
use Rattle.link_model.proofs.Views.{is_ciphering}
use Rattle.wire_fields.specs.Field.{little_endian}
use Rattle.link_answers.specs.Owing.{Owes, indicates, is_indication_of, number, one_if, owing}
use Rattle.link_answers.proofs.OwingControls.{IsHead, head_of, is_central, view_queue}
use Rattle.link_answers.proofs.CipherQueues.{MayAllWait, MayWait}

-- ---- which PDU is read as an indication

-- what waits is such an indication
record IsOf (kind : Exclusive) (draft : Draft) : Type 0 where
  pdu : ExclusivePdu
  part : pdu_of_draft draft ≡ Some pdu
  is : is_indication_of kind pdu ≡ true

same_kind : (one other : Exclusive) → Some one ≡ Some other → one ≡ other
same_kind one other is = cc

none_said : (X : Type 0) (kind : Exclusive) → None ≡ Some kind → X
none_said X kind is = absurd cc

if_said : (b : Bool) (ctrl : Ctrl) (opcode : ℕ) (one kind : Exclusive) → indicates (Known ctrl) ≡ Some one
    → indicates (if b then Known ctrl else Unknown opcode) ≡ Some kind → one ≡ kind
if_said true ctrl opcode one kind says is = same_kind one kind (sym says ∙ is)
if_said false ctrl opcode one kind says is = absurd cc

if_none : (b : Bool) (ctrl : Ctrl) (opcode : ℕ) → indicates (Known ctrl) ≡ None → indicates (if b then Known ctrl else Unknown opcode) ≡ None
if_none true ctrl opcode is = is
if_none false ctrl opcode is = refl

update_says : (interval latency timeout instant : ℕ) (kind : Exclusive)
    → indicates (ctrl_of (written (ConnectionUpdateInd 1 0 interval latency timeout instant))) ≡ Some kind → update_kind ≡ kind
unfolding ctrl_of makers little_endian
update_says interval latency timeout instant kind is = if_said _ _ _ update_kind kind refl is

map_says : (map instant : ℕ) (kind : Exclusive) → indicates (ctrl_of (written (ChannelMapInd map instant))) ≡ Some kind → map_kind ≡ kind
unfolding ctrl_of makers little_endian
map_says map instant kind is = if_said _ _ _ map_kind kind refl is

request_says : (min max latency timeout reference : ℕ) → indicates (ctrl_of (written (ConnectionParamReq min max latency timeout 0 reference no_offsets))) ≡ None
unfolding ctrl_of makers little_endian
request_says min max latency timeout reference = refl

length_req_says : (rx rx_time tx tx_time : ℕ) → indicates (ctrl_of (written (LengthReq rx rx_time tx tx_time))) ≡ None
unfolding ctrl_of makers little_endian
length_req_says rx rx_time tx tx_time = if_none _ _ _ refl

length_rsp_says : (rx rx_time tx tx_time : ℕ) → indicates (ctrl_of (written (LengthRsp rx rx_time tx tx_time))) ≡ None
unfolding ctrl_of makers little_endian
length_rsp_says rx rx_time tx tx_time = if_none _ _ _ refl

unknown_says : (opcode : ℕ) → indicates (ctrl_of (written (UnknownRsp opcode))) ≡ None
unfolding ctrl_of makers little_endian
unknown_says opcode = refl

reject_says : (opcode code : ℕ) → indicates (ctrl_of (written (RejectExtInd opcode code))) ≡ None
unfolding ctrl_of makers little_endian
reject_says opcode code = refl

terminate_says : (code : ℕ) → indicates (ctrl_of (written (TerminateInd code))) ≡ None
unfolding ctrl_of makers little_endian
terminate_says code = refl

-- the PDUs of an encryption
cipher_says : (ctrl : Ctrl) → is_ciphering ctrl ≡ true → indicates (ctrl_of (written ctrl)) ≡ None
unfolding ctrl_of makers little_endian
cipher_says (EncReq rand ediv skd_m iv_m) is = refl
cipher_says (EncRsp skd_s iv_s) is = refl
cipher_says StartEncReq is = refl
cipher_says StartEncRsp is = refl
cipher_says PauseEncReq is = refl
cipher_says PauseEncRsp is = refl
cipher_says (RejectExtInd opcode code) is = reject_says opcode code
cipher_says (TerminateInd code) is = terminate_says code
cipher_says ctrl is = absurd cc

-- the PDUs that have no values
phy_req_says : (event skips : ℕ) → indicates (ctrl_of (written (ctrl_of_draft phy_req event skips))) ≡ None
unfolding ctrl_of makers little_endian
phy_req_says event skips = refl

phy_rsp_says : (event skips : ℕ) → indicates (ctrl_of (written (ctrl_of_draft phy_rsp event skips))) ≡ None
unfolding ctrl_of makers little_endian
phy_rsp_says event skips = refl

phy_ind_says : (event skips : ℕ) → indicates (ctrl_of (written (ctrl_of_draft PhyInd event skips))) ≡ Some phy_kind
unfolding ctrl_of makers little_endian
phy_ind_says event skips = refl

feature_req_says : (event skips : ℕ) → indicates (ctrl_of (written (ctrl_of_draft feature_req event skips))) ≡ None
unfolding ctrl_of makers little_endian
feature_req_says event skips = refl

peripheral_feature_req_says : (event skips : ℕ) → indicates (ctrl_of (written (ctrl_of_draft peripheral_feature_req event skips))) ≡ None
unfolding ctrl_of makers little_endian
peripheral_feature_req_says event skips = refl

feature_rsp_says : (event skips : ℕ) → indicates (ctrl_of (written (ctrl_of_draft feature_rsp event skips))) ≡ None
unfolding ctrl_of makers little_endian
feature_rsp_says event skips = refl

version_says : (event skips : ℕ) → indicates (ctrl_of (written (ctrl_of_draft version_draft event skips))) ≡ None
unfolding ctrl_of makers little_endian
version_says event skips = refl

module _ (event skips : ℕ) (kind : Exclusive) where
  abbrev Says : Draft → Type 0
  Says draft = indicates (ctrl_of (written (ctrl_of_draft draft event skips))) ≡ Some kind

  none_of : (draft : Draft) → indicates (ctrl_of (written (ctrl_of_draft draft event skips))) ≡ None → Says draft → IsOf kind draft
  none_of draft none is = none_said (IsOf kind draft) kind (sym none ∙ is)

  draft_says : (draft : Draft) → MayWait draft → Says draft → IsOf kind draft
  draft_says (Update params) may is =
      record {
        pdu = UpdateInd;
        part = refl;
        is = ap (λ (k : Exclusive). is_indication_of k UpdateInd) (sym (update_says params.interval params.latency params.timeout (instant_at event skips) kind is));
      }
  draft_says (Grant params) may is =
      record {
        pdu = GrantInd;
        part = refl;
        is = ap (λ (k : Exclusive). is_indication_of k GrantInd) (sym (update_says params.interval params.latency params.timeout (instant_at event skips) kind is));
      }
  draft_says (Map map) may is =
      record { pdu = MapInd; part = refl; is = ap (λ (k : Exclusive). is_indication_of k MapInd) (sym (map_says map (instant_at event skips) kind is)) }
  draft_says PhyInd may is =
      record {
        pdu = phy_ind;
        part = refl;
        is = ap (λ (k : Exclusive). is_indication_of k phy_ind) (sym (same_kind phy_kind kind (sym (phy_ind_says event skips) ∙ is)));
      }
  draft_says (Cipher ctrl) may is = none_of (Cipher ctrl) (cipher_says ctrl may) is
  draft_says (Request min max latency timeout) may is = none_of (Request min max latency timeout) (request_says min max latency timeout _) is
  draft_says (length_req rx tx) may is = none_of (length_req rx tx) (length_req_says rx _ tx _) is
  draft_says (length_rsp rx tx) may is = none_of (length_rsp rx tx) (length_rsp_says rx _ tx _) is
  draft_says (unknown_rsp opcode) may is = none_of (unknown_rsp opcode) (unknown_says opcode) is
  draft_says phy_req may is = none_of phy_req (phy_req_says event skips) is
  draft_says phy_rsp may is = none_of phy_rsp (phy_rsp_says event skips) is
  draft_says feature_req may is = none_of feature_req (feature_req_says event skips) is
  draft_says peripheral_feature_req may is = none_of peripheral_feature_req (peripheral_feature_req_says event skips) is
  draft_says feature_rsp may is = none_of feature_rsp (feature_rsp_says event skips) is
  draft_says version_draft may is = none_of version_draft (version_says event skips) is

-- ---- an own procedure that owes one is in progress

owes_one : (kind : Exclusive) (own : CentralStage) → 1 ≤ owing kind own → central_kind own ≡ Some kind
owes_one update_kind UpdateUnsent is = refl
owes_one update_kind own is = absurd (omega (arith, is))
owes_one map_kind MapUnsent is = refl
owes_one map_kind own is = absurd (omega (arith, is))
owes_one phy_kind PhyAnswered is = refl
owes_one phy_kind own is = absurd (omega (arith, is))
owes_one kind own is = absurd (omega (arith, is))

module _ (f : TableFacts) (role : role_of f.progress ≡ central_role) (kind : Exclusive) (owes : Owes kind (central_of f)) where
  waiting_runs : (draft : Draft) → IsHead f.queue draft → IsOf kind draft → central_kind (central_of f).own ≡ Some kind
  waiting_runs draft head of =
      let x = is_central f.progress role in
      let items = view_queue f x.0 x.1 ∙ ap drafts_part head.first ∙ ap (λ (o : Option ExclusivePdu). with_part o (drafts_part head.rest)) of.part in
      let few = subst (λ (pdus : List ExclusivePdu). number (is_indication_of kind) pdus ≤ owing kind (central_of f).own) items owes.few in
      let one = ap one_if of.is in
      owes_one kind (central_of f).own (omega (arith, few, one))

  out_runs : (may : MayAllWait f) (event skips : ℕ) (quiet : Bool) (ctrl : Ctrl) (out : Outgoing) → next_of f event quiet ≡ out
      → ctrl_of_outgoing out event skips ≡ Some ctrl → indicates (ctrl_of (written ctrl)) ≡ Some kind → central_kind (central_of f).own ≡ Some kind
  out_runs may event skips quiet ctrl Nothing next sent is = absurd cc
  out_runs may event skips quiet ctrl (Rejection rejection) next sent is =
      let same : RejectExtInd rejection.opcode rejection.code.0 ≡ ctrl = cc in
      none_said _ kind (sym (reject_says rejection.opcode rejection.code.0) ∙ ap (λ (c : Ctrl). indicates (ctrl_of (written c))) same ∙ is)
  out_runs may event skips quiet ctrl (Disconnect code) next sent is =
      let same : TerminateInd code.0 ≡ ctrl = cc in
      none_said _ kind (sym (terminate_says code.0) ∙ ap (λ (c : Ctrl). indicates (ctrl_of (written c))) same ∙ is)
  out_runs may event skips quiet ctrl (Other draft) next sent is =
      let same : ctrl_of_draft draft event skips ≡ ctrl = cc in
      let head = head_of f event quiet draft next in
      waiting_runs draft head
      (draft_says event skips kind draft (All-head MayWait draft head.rest (subst (All MayWait) head.first may))
      (ap (λ (c : Ctrl). indicates (ctrl_of (written c))) same ∙ is))

-- ---- what an end fixes and sends

piece_none : (piece : Option Piece) → is_control (pdu_with piece) ≡ false
piece_none None = refl
piece_none (Some piece) = by piece.start
  where
    by : (start : Bool) → is_control (record { llid = if start then 2 else 1; body = piece.body.items }) ≡ false
    by true = refl
    by false = refl

data_none : (waiting : ℕ) (quiet goes : Bool) (outgoing : Data) → is_control (data_fixed_by false waiting quiet goes outgoing).fixed ≡ false
data_none waiting quiet true outgoing = piece_none _
data_none waiting quiet false outgoing = refl

-- a PDU that is noted as sent
record IsThis (pdu : Pdu) (llid : ℕ) (body : List ℕ) : Type 0 where
  llid_is : pdu.llid ≡ llid
  body_is : pdu.body ≡ body

noted_pdu : (noted : Bool) (handle number : ℕ) (pdu : Pdu) (other count llid : ℕ) (body : List ℕ)
    → sent_notes_if noted handle number pdu ≡ Sent other count llid (record { items = body }) ∷ [] → IsThis pdu llid body
noted_pdu true handle number pdu other count llid body is =
    let one : Sent handle (number + 1) pdu.llid (record { items = pdu.body }) ≡ Sent other count llid (record { items = body }) = cc in
    let llids : pdu.llid ≡ llid = cc in
    let bodies : ◌≡◌ {A = ArrayVec ℕ} (record { items = pdu.body }) (record { items = body }) = cc in
    record { llid_is = llids; body_is = ap (λ (v : ArrayVec ℕ). v.items) bodies }
noted_pdu false handle number pdu other count llid body is = absurd cc

module _ (setup : Setup) (facts : Facts) (role : role_of facts.control.table.progress ≡ central_role) (may : MayAllWait facts.control.table)
    (none_fixed : is_control facts.outgoing.fixed ≡ false) (kind : Exclusive) (owes : Owes kind (central_of facts.control.table)) where
  next_runs : (ctrl : Ctrl) (goes : Bool) → (if goes then ctrl_of_outgoing (next_of facts.control.table (event_of facts.control.track) (is_quiet_now facts))
      (event_of facts.control.track) facts.control.track.params.latency else None) ≡ Some ctrl
      → indicates (ctrl_of (written ctrl)) ≡ Some kind → central_kind (central_of facts.control.table).own ≡ Some kind
  next_runs ctrl true sent is =
      out_runs facts.control.table role kind owes may (event_of facts.control.track) facts.control.track.params.latency (is_quiet_now facts) ctrl
      (next_of facts.control.table (event_of facts.control.track) (is_quiet_now facts)) refl sent is
  next_runs ctrl false sent is = absurd cc

  pub sent_runs : (handle count llid : ℕ) (body : List ℕ)
      → sent_notes setup (facts_fixed facts) ≡ Sent handle count llid (record { items = body }) ∷ [] → llid ≡ 3 → indicates (ctrl_of body) ≡ Some kind
      → central_kind (central_of facts.control.table).own ≡ Some kind
  sent_runs handle count llid body sent three is = by (next_control facts) refl
    where
      notes : sent_notes setup (fixed_anew facts) ≡ Sent handle count llid (record { items = body }) ∷ []
      notes = ap (sent_notes setup) (sym (ap (λ (b : Bool). if b then facts else fixed_anew facts) none_fixed)) ∙ sent

      pdu : IsThis (pdu_fixed (fixed_anew facts)) llid body
      pdu =
          noted_pdu (is_acked facts.acknowledgement && not (is_empty (pdu_fixed (fixed_anew facts)))) setup.link.handle
          (numbered facts.acknowledgement.sent) (pdu_fixed (fixed_anew facts)) handle count llid body notes

      by : (next : Option Ctrl) → next_control facts ≡ next → central_kind (central_of facts.control.table).own ≡ Some kind
      by None none =
          let fixed : pdu_fixed (fixed_anew facts)
          ≡ (data_fixed_by false (waiting_in facts.control.table.queue) (is_quiet_now facts) (data_goes facts) (data_cut facts)).fixed =
          (λ i. if is_some (none i) then pdu_of_control (none i)
          else (data_fixed_by (is_some (none i)) (waiting_in facts.control.table.queue) (is_quiet_now facts) (data_goes facts) (data_cut facts)).fixed) in
          let apart = ap is_control fixed ∙ data_none (waiting_in facts.control.table.queue) (is_quiet_now facts) (data_goes facts) (data_cut facts) in
          let control = ap (λ (n : ℕ). n == 3) (pdu.llid_is ∙ three) in
          absurd (let no : true ≡ false = sym control ∙ apart in cc)
      by (Some ctrl) next =
          let fixed : pdu_fixed (fixed_anew facts) ≡ pdu_of_control (Some ctrl) =
          (λ i. if is_some (next i) then pdu_of_control (next i)
          else (data_fixed_by (is_some (next i)) (waiting_in facts.control.table.queue) (is_quiet_now facts) (data_goes facts) (data_cut facts)).fixed) in
          let body_is : body ≡ written ctrl = sym pdu.body_is ∙ ap (λ (p : Pdu). p.body) fixed in
          next_runs ctrl (goes_on facts) next (ap (λ (octets : List ℕ). indicates (ctrl_of octets)) (sym body_is) ∙ is)
