-- A PDU that a peripheral takes means in its table what it means in a joint run of the procedures that exclude each other.
use Rattle.std.proofs.Common.{◌≡◌, ℕ, ◌==◌, Bool, true, false, if◌then◌else◌, [], ◌∷◌, ◌++◌, Option, Some, None, is_some, refl, sym, subst, eqb-true, not, List}
use Rattle.ble_base.specs.declared.error_codes.ErrCode.{ErrCode}
use Rattle.ble_base.specs.declared.roles.Role.TheVariants.{Peripheral as peripheral_role}
use Rattle.data_pdu.specs.declared.ctrl.Ctrl.{Ctrl}
use Rattle.data_pdu.specs.declared.ctrl.Ctrl.TheVariants.{EncReq, PauseEncReq, PauseEncRsp, RejectExtInd, StartEncRsp, TerminateInd, UnknownRsp as unknown_rsp}
use Rattle.data_pdu.specs.declared.ctrl.CtrlRead.TheVariants.{Known}
use Rattle.joint_controls.specs.enc_phase.declared.classes.PduClass.{PduClass}
use Rattle.joint_controls.specs.enc_phase.declared.classes.PduClass.TheVariants.{Other as other_class, Request as request_class}
use Rattle.joint_controls.specs.enc_phase.declared.facts.PhaseFacts.{PhaseFacts}
use Rattle.joint_controls.specs.enc_phase.declared.facts.PhaseFacts.TheVariants.{Clear, Secure}
use Rattle.joint_controls.specs.enc_phase.Taking.{ctrl_class, is_unknown}
use Rattle.exclusive_stages.specs.declared.pdus.Exclusive.{Exclusive}
use Rattle.exclusive_stages.specs.declared.pdus.Exclusive.TheVariants.{Map as MapOf, Update as UpdateOf}
use Rattle.exclusive_stages.specs.declared.pdus.Pdu.{Pdu}
use Rattle.exclusive_stages.specs.declared.pdus.Pdu.TheVariants.{GrantInd, MapInd, ParamReq, PhyInd as PhyIndPdu, PhyReq as PhyReqPdu, PhyRsp as PhyRspPdu, Refusal, RejectParam, RejectPhy, UpdateInd}
use Rattle.exclusive_stages.specs.declared.pdus.Reason.{Reason}
use Rattle.exclusive_stages.specs.declared.stages.PeerAtPeripheral.TheVariants.{Absent, MapTaken, PhyRspUnsent}
use Rattle.exclusive_stages.specs.declared.stages.PeripheralStage.{PeripheralStage}
use Rattle.exclusive_stages.specs.declared.stages.PeripheralStage.TheVariants.{Idle, PhySent, PhyUnsent, RequestAcknowledged, RequestGranted, RequestSent, RequestUnsent}
use Rattle.collision_steps.specs.procedure_stages.declared.stages.OwnPeripheral.{OwnPeripheral}
use Rattle.collision_steps.specs.procedure_stages.declared.stages.OwnPeripheral.TheVariants.{Exchange as exchange, Exclusive as exclusive}
use Rattle.collision_steps.specs.procedure_stages.declared.stages.Progress.{Progress}
use Rattle.collision_steps.specs.procedure_stages.declared.stages.Progress.TheVariants.{Central as central, Peripheral as peripheral}
use Rattle.collision_steps.specs.procedure_stages.Closing.{is_open}
use Rattle.collision_steps.specs.procedure_stages.Opcodes.{connection_param_req_opcode, first_opcode, is_opcode, opcode_at_peripheral, phy_req_opcode}
use Rattle.std.proofs.lemmas.Bool.{or_parts}
use Rattle.exclusive_stages.specs.Awaited.{awaits_phy_ind, central_answered, has_phy_of_central}
use Rattle.exclusive_stages.specs.Pdus.{is_timed}
use Rattle.instants.specs.declared.indications.Indication.{Indication}
use Rattle.collision_steps.specs.procedure_values.declared.drafts.Draft.{Draft}
use Rattle.collision_steps.specs.procedure_values.declared.drafts.Draft.TheVariants.{Cipher, FeatureReq, FeatureRsp, Grant, LengthReq, LengthRsp, Map, PeripheralFeatureReq, PhyInd, PhyReq, PhyRsp, Request, UnknownRsp, Update, VersionInd}
use Rattle.collision_steps.specs.procedure_values.declared.drafts.Outgoing.{Outgoing}
use Rattle.collision_steps.specs.procedure_values.declared.drafts.Outgoing.TheVariants.{Disconnect, Nothing, Other, Rejection}
use Rattle.collision_steps.specs.procedure_values.Drafts.{ctrl_of_draft}
use Rattle.collision_steps.specs.procedure_stages.Exclusive.{pdu_of_draft, peripheral_stage}
use Rattle.collision_steps.specs.procedures.Table.{TableFacts}
use Rattle.collisions.specs.declared.peripheral.Peripheral.{Peripheral as PeripheralPdus}
use Rattle.collisions.specs.declared.joint.End.{End}
use Rattle.collisions.specs.declared.joint.End.TheVariants.{Collided, Open}
use Rattle.collisions.specs.PeripheralTable
use Rattle.collisions.specs.JointRun.{is_pdu}
use Rattle.collision_steps.specs.Parts.{outgoing_part, param_request_opcode, phy_request_opcode, reason_part, rejection_part}
use Rattle.collision_steps.specs.PeripheralPart.{answer_to, peripheral_of, refusal_if, step_of_ctrl, step_of_read, view}
use Rattle.joint_controls.specs.phased_control.Taken.{seen_if}
use Rattle.joint_controls.specs.Ends.{IsSentAs}
use Rattle.joint_controls.specs.Joint.{is_terminate}
use Rattle.joint_collisions.specs.Facts.{fits_down, is_cipher_down, is_first_up}
use Rattle.joint_collisions.proofs.Meanings.{same_ctrl}
use Rattle.joint_collisions.proofs.Readings.{indication_in}

-- ---- what an indication does, before its Instant has passed or after it

pub timed_opens : (pdu : Pdu) (t : PeripheralPdus) → is_timed pdu ≡ true → (PeripheralTable.taken false pdu t).1 ≡ Open
    → (t.ahead ≡ None) × (is_some (PeripheralTable.taken false pdu t).0.ahead ≡ true)
timed_opens pdu t timed opened = by pdu t.ahead refl timed opened
  where
    follows : (ahead : Option Exclusive) (kind : Exclusive) (accepted : PeripheralPdus)
        → (PeripheralTable.followed (PeripheralTable.indication_end ahead false kind) kind accepted t).1 ≡ Open
        → (ahead ≡ None) × (is_some (PeripheralTable.followed (PeripheralTable.indication_end ahead false kind) kind accepted t).0.ahead ≡ true)
    follows None kind accepted opened = (refl, refl)
    follows (Some waiting) kind accepted opened = absurd (cc)

    map_by : (answered : Bool) (ahead : Option Exclusive) (reason : Reason)
        → (if answered then (t, Collided reason) else PeripheralTable.followed (PeripheralTable.indication_end ahead false MapOf) MapOf (record t { peer = MapTaken }) t).1 ≡ Open
        → (ahead ≡ None)
        × (is_some (if answered then (t, Collided reason) else PeripheralTable.followed (PeripheralTable.indication_end ahead false MapOf) MapOf (record t { peer = MapTaken }) t).0.ahead ≡ true)
    map_by true ahead reason opened = absurd (cc)
    map_by false ahead reason opened = follows ahead MapOf (record t { peer = MapTaken }) opened

    by : (pdu : Pdu) (ahead : Option Exclusive) → t.ahead ≡ ahead → is_timed pdu ≡ true → (PeripheralTable.taken false pdu t).1 ≡ Open
        → (t.ahead ≡ None) × (is_some (PeripheralTable.taken false pdu t).0.ahead ≡ true)
    by UpdateInd ahead is timed opened = follows t.ahead UpdateOf (PeripheralTable.update_accepted t) opened
    by GrantInd ahead is timed opened = follows t.ahead UpdateOf (PeripheralTable.update_accepted t) opened
    by MapInd ahead is timed opened = map_by (central_answered t.own) t.ahead _ opened
    by pdu ahead is timed opened = absurd (cc)

pub record Untimed (passed : Bool) (pdu : Pdu) (t : PeripheralPdus) : Type 0 where
  pub same : PeripheralTable.taken passed pdu t ≡ PeripheralTable.taken false pdu t
  pub ahead : (PeripheralTable.taken false pdu t).0.ahead ≡ t.ahead

abbrev phy_if : PeripheralPdus → Bool → Bool → Reason → PeripheralPdus × End
phy_if t answered closed reason =
    (if answered then (t, Collided reason)
    else ((if closed then record t { peer = PhyRspUnsent } else record t { peer = PhyRspUnsent; queue = record { items = t.queue.items ++ PhyRspPdu ∷ [] } }), Open))

pub untimed : (passed : Bool) (pdu : Pdu) (t : PeripheralPdus) → is_timed pdu ≡ false → Untimed passed pdu t
untimed passed UpdateInd t is = absurd (cc)
untimed passed GrantInd t is = absurd (cc)
untimed passed MapInd t is = absurd (cc)
untimed passed PhyReqPdu t is = record { same = refl; ahead = by (central_answered t.own) t.closed _ }
  where
    by : (answered closed : Bool) (reason : Reason) → (phy_if t answered closed reason).0.ahead ≡ t.ahead
    by true closed reason = refl
    by false true reason = refl
    by false false reason = refl
untimed passed PhyIndPdu t is = record { same = refl; ahead = by (has_phy_of_central t.peer) (awaits_phy_ind t.own) }
  where
    by : (has awaits : Bool) → (if has then record t { peer = Absent } else (if awaits then record t { own = Idle } else t)).ahead ≡ t.ahead
    by true awaits = refl
    by false true = refl
    by false false = refl
untimed passed pdu t is = record { same = refl; ahead = refl }

pub collided_either : (passed : Bool) (pdu : Pdu) (t : PeripheralPdus) (reason : Reason) → (PeripheralTable.taken false pdu t).1 ≡ Collided reason
    → (PeripheralTable.taken passed pdu t).1 ≡ Collided reason
collided_either false pdu t reason met = met
collided_either true pdu t reason met = by pdu met
  where
    follows : (ahead : Option Exclusive) (kind : Exclusive) (accepted : PeripheralPdus)
        → (PeripheralTable.followed (PeripheralTable.indication_end ahead false kind) kind accepted t).1 ≡ Collided reason
        → (PeripheralTable.followed (PeripheralTable.indication_end ahead true kind) kind accepted t).1 ≡ Collided reason
    follows None kind accepted met = absurd (cc)
    follows (Some waiting) kind accepted met = met

    map_by : (answered : Bool) (ahead : Option Exclusive) (met_by : Reason)
        → (if answered then (t, Collided met_by) else PeripheralTable.followed (PeripheralTable.indication_end ahead false MapOf) MapOf (record t { peer = MapTaken }) t).1 ≡ Collided reason
        → (if answered then (t, Collided met_by) else PeripheralTable.followed (PeripheralTable.indication_end ahead true MapOf) MapOf (record t { peer = MapTaken }) t).1 ≡ Collided reason
    map_by true ahead met_by met = met
    map_by false ahead met_by met = follows ahead MapOf (record t { peer = MapTaken }) met

    by : (pdu : Pdu) → (PeripheralTable.taken false pdu t).1 ≡ Collided reason → (PeripheralTable.taken true pdu t).1 ≡ Collided reason
    by UpdateInd met = follows t.ahead UpdateOf (PeripheralTable.update_accepted t) met
    by GrantInd met = follows t.ahead UpdateOf (PeripheralTable.update_accepted t) met
    by MapInd met = map_by (central_answered t.own) t.ahead _ met
    by pdu met = met

-- ---- a PDU means the same in a joint run of these procedures

pub data Means (answer : PeripheralPdus × End) (t : PeripheralPdus) : Option Pdu → Type 0 where
  means_none : answer ≡ (t, Open) → Means answer t None
  means_one : (pdu : Pdu) → answer ≡ PeripheralTable.taken false pdu t → Means answer t (Some pdu)

request_known : (phase : PhaseFacts) → is_unknown phase peripheral_role request_class ≡ false
request_known Clear = refl
request_known Secure = refl
request_known phase = refl

other_known : (phase : PhaseFacts) → is_unknown phase peripheral_role other_class ≡ false
other_known Clear = refl
other_known Secure = refl
other_known phase = refl

-- an LL_UNKNOWN_RSP that names none of their first PDUs does nothing to them
none_named : (b : Bool) (t : PeripheralPdus) → b ≡ false → answer_to (refusal_if b) t ≡ (t, Open)
none_named true t is = absurd (cc)
none_named false t is = refl

idle_refused : (t : PeripheralPdus) → t.own ≡ Idle → PeripheralTable.taken false Refusal t ≡ (t, Open)
idle_refused t is = by t.own is refl
  where
    by : (own : PeripheralStage) → own ≡ Idle → t.own ≡ own → ◌≡◌ {A = PeripheralPdus × End} (record t { own = PeripheralTable.own_after_refusal own }, Open) (t, Open)
    by Idle idle same = λ i. (record t { own = sym same i }, Open)
    by RequestUnsent idle same = absurd (cc)
    by RequestSent idle same = absurd (cc)
    by RequestAcknowledged idle same = absurd (cc)
    by RequestGranted idle same = absurd (cc)
    by PhyUnsent idle same = absurd (cc)
    by PhySent idle same = absurd (cc)

idle_named : (b : Bool) (t : PeripheralPdus) → t.own ≡ Idle → answer_to (refusal_if b) t ≡ (t, Open)
idle_named true t is = idle_refused t is
idle_named false t is = refl

record NamesNone (opcode : ℕ) : Type 0 where
  request : (connection_param_req_opcode == opcode) ≡ false
  phy : (phy_req_opcode == opcode) ≡ false

names_none : (opcode : ℕ) → not (is_first_up opcode) ≡ true → NamesNone opcode
names_none opcode h =
    let both = or_parts (connection_param_req_opcode == opcode) (phy_req_opcode == opcode) (not_true (is_first_up opcode) h) in
    record { request = both.0; phy = both.1 }
  where
    not_true : (b : Bool) → not b ≡ true → b ≡ false
    not_true true is = absurd (cc)
    not_true false is = refl

unknown_at : (own : OwnPeripheral) (opcode : ℕ) (t : PeripheralPdus) → t.own ≡ peripheral_stage own → NamesNone opcode
    → answer_to (refusal_if (is_opcode (opcode_at_peripheral own) opcode)) t ≡ (t, Open)
unknown_at (exclusive Idle) opcode t is n = refl
unknown_at (exclusive RequestUnsent) opcode t is n = refl
unknown_at (exclusive RequestSent) opcode t is n = none_named (connection_param_req_opcode == opcode) t n.request
unknown_at (exclusive RequestAcknowledged) opcode t is n = none_named (connection_param_req_opcode == opcode) t n.request
unknown_at (exclusive RequestGranted) opcode t is n = none_named (connection_param_req_opcode == opcode) t n.request
unknown_at (exclusive PhyUnsent) opcode t is n = refl
unknown_at (exclusive PhySent) opcode t is n = none_named (phy_req_opcode == opcode) t n.phy
unknown_at (exchange stage) opcode t is n = idle_named (is_opcode (opcode_at_peripheral (exchange stage)) opcode) t is

unknown_by : (p : Progress) (opcode : ℕ) (opened : Bool) (drafts : List Draft) → NamesNone opcode
    → answer_to (step_of_ctrl p (unknown_rsp opcode)) (view p opened drafts) ≡ (view p opened drafts, Open)
unknown_by (peripheral x) opcode opened drafts n = unknown_at x.own opcode (view (peripheral x) opened drafts) refl n
unknown_by (central x) opcode opened drafts n =
    idle_named (is_opcode (first_opcode (central x)) opcode) (view (central x) opened drafts) refl

module _ (f : TableFacts) (phase : PhaseFacts) where
  abbrev t : PeripheralPdus
  t = peripheral_of f

  abbrev read_of : Ctrl → PeripheralPdus × End
  read_of ctrl = answer_to (step_of_read f.progress (seen_if (is_unknown phase peripheral_role (ctrl_class ctrl)) (Known ctrl))) t

  abbrev MeansBy : Option Pdu → Ctrl → Type 0
  MeansBy pdu ctrl = is_terminate ctrl ≡ false → Means (read_of ctrl) t pdu

  no_step : (b : Bool) (ctrl : Ctrl) → step_of_ctrl f.progress ctrl ≡ None → answer_to (step_of_read f.progress (seen_if b (Known ctrl))) t ≡ (t, Open)
  no_step true ctrl none = refl
  no_step false ctrl none = rw none refl

  abbrev known_of : PduClass → Ctrl → PeripheralPdus × End
  known_of pdu ctrl = answer_to (step_of_read f.progress (seen_if (is_unknown phase peripheral_role pdu) (Known ctrl))) t

  known_means : (pdu : PduClass) (ctrl : Ctrl) → is_unknown phase peripheral_role pdu ≡ false → known_of pdu ctrl ≡ answer_to (step_of_ctrl f.progress ctrl) t
  known_means pdu ctrl known = rw known refl

  unknown_seen : (b : Bool) (opcode : ℕ) → not (is_first_up opcode) ≡ true
      → answer_to (step_of_read f.progress (seen_if b (Known (unknown_rsp opcode)))) t ≡ (t, Open)
  unknown_seen true opcode h = refl
  unknown_seen false opcode h = unknown_by f.progress opcode (is_open f.closing) f.queue.drafts (names_none opcode h)

  cipher_means : (ctrl : Ctrl) → is_cipher_down ctrl ≡ true → MeansBy None ctrl
  cipher_means (EncReq rand ediv skd_m iv_m) fits lasts = means_none (no_step _ (EncReq rand ediv skd_m iv_m) refl)
  cipher_means StartEncRsp fits lasts = means_none (no_step _ StartEncRsp refl)
  cipher_means PauseEncReq fits lasts = means_none (no_step _ PauseEncReq refl)
  cipher_means PauseEncRsp fits lasts = means_none (no_step _ PauseEncRsp refl)
  cipher_means (TerminateInd code) fits lasts = absurd (cc)
  cipher_means ctrl fits lasts = absurd (cc)

  abbrev RejectionMeans : ℕ → ErrCode → Type 0
  RejectionMeans opcode code = Means (read_of (RejectExtInd opcode code.0)) t (rejection_part (record { opcode = opcode; code = code }))

  rejection_means : (opcode : ℕ) (code : ErrCode) → is_some (rejection_part (record { opcode = opcode; code = code })) ≡ true → RejectionMeans opcode code
  rejection_means opcode code some = by (opcode == param_request_opcode) (opcode == phy_request_opcode) refl refl some
    where
      by : (param phy : Bool) → (opcode == param_request_opcode) ≡ param → (opcode == phy_request_opcode) ≡ phy
          → is_some (if param then Some (RejectParam (reason_part code)) else (if phy then Some (RejectPhy (reason_part code)) else None)) ≡ true
          → RejectionMeans opcode code
      by true phy is_param is_phy some =
          subst (λ (n : ℕ). RejectionMeans n code) (sym (eqb-true opcode param_request_opcode is_param))
          (means_one (RejectParam (reason_part code)) (known_means other_class (RejectExtInd param_request_opcode code.0) (other_known phase)))
      by false true is_param is_phy some =
          subst (λ (n : ℕ). RejectionMeans n code) (sym (eqb-true opcode phy_request_opcode is_phy))
          (means_one (RejectPhy (reason_part code)) (known_means other_class (RejectExtInd phy_request_opcode code.0) (other_known phase)))
      by false false is_param is_phy some = absurd (cc)

  draft_means : (draft : Draft) (event latency : ℕ) → fits_down (Other draft) ≡ true → MeansBy (pdu_of_draft draft) (ctrl_of_draft draft event latency)
  draft_means (Update params) event latency fits lasts = means_one UpdateInd (known_means other_class (ctrl_of_draft (Update params) event latency) (other_known phase))
  draft_means (Grant params) event latency fits lasts = means_one GrantInd (known_means other_class (ctrl_of_draft (Grant params) event latency) (other_known phase))
  draft_means (Map map) event latency fits lasts = means_one MapInd (known_means other_class (ctrl_of_draft (Map map) event latency) (other_known phase))
  draft_means (Request min max latency_asked timeout) event latency fits lasts =
      means_one ParamReq (no_step _ (ctrl_of_draft (Request min max latency_asked timeout) event latency) refl)
  draft_means PhyReq event latency fits lasts = means_one PhyReqPdu (known_means request_class (ctrl_of_draft PhyReq event latency) (request_known phase))
  draft_means PhyRsp event latency fits lasts = means_one PhyRspPdu (no_step _ (ctrl_of_draft PhyRsp event latency) refl)
  draft_means PhyInd event latency fits lasts = means_one PhyIndPdu (known_means other_class (ctrl_of_draft PhyInd event latency) (other_known phase))
  draft_means FeatureReq event latency fits lasts = means_none (no_step _ (ctrl_of_draft FeatureReq event latency) refl)
  draft_means PeripheralFeatureReq event latency fits lasts = means_none (no_step _ (ctrl_of_draft PeripheralFeatureReq event latency) refl)
  draft_means FeatureRsp event latency fits lasts = means_none (no_step _ (ctrl_of_draft FeatureRsp event latency) refl)
  draft_means VersionInd event latency fits lasts = means_none (no_step _ (ctrl_of_draft VersionInd event latency) refl)
  draft_means (LengthReq rx tx) event latency fits lasts = means_none (no_step _ (ctrl_of_draft (LengthReq rx tx) event latency) refl)
  draft_means (LengthRsp rx tx) event latency fits lasts = means_none (no_step _ (ctrl_of_draft (LengthRsp rx tx) event latency) refl)
  draft_means (UnknownRsp opcode) event latency fits lasts = means_none (unknown_seen _ opcode fits)
  draft_means (Cipher ctrl) event latency fits lasts = cipher_means ctrl fits lasts

  pub down_means : (outgoing : Outgoing) (ctrl : Ctrl) → IsSentAs outgoing ctrl → fits_down outgoing ≡ true → MeansBy (outgoing_part outgoing) ctrl
  down_means Nothing ctrl sent fits = absurd (let no = sent.is in cc)
  down_means (Rejection rejection) ctrl sent fits =
      subst (MeansBy (rejection_part rejection)) (same_ctrl (RejectExtInd rejection.opcode rejection.code.0) ctrl sent.is)
      (λ lasts. rejection_means rejection.opcode rejection.code fits)
  down_means (Disconnect code) ctrl sent fits = subst (MeansBy None) (same_ctrl (TerminateInd code.0) ctrl sent.is) (λ lasts. absurd (cc))
  down_means (Other draft) ctrl sent fits =
      subst (MeansBy (pdu_of_draft draft)) (same_ctrl (ctrl_of_draft draft sent.event sent.latency) ctrl sent.is) (draft_means draft sent.event sent.latency fits)

-- ---- the Instant in a PDU

pub record HasIndication (ctrl : Ctrl) : Type 0 where
  pub indication : Indication
  pub is : indication_in ctrl ≡ Some indication

abbrev HasBy : Option Pdu → Ctrl → Type 0
HasBy pdu ctrl = is_pdu is_timed pdu ≡ true → HasIndication ctrl

timed_draft : (draft : Draft) (event latency : ℕ) → HasBy (pdu_of_draft draft) (ctrl_of_draft draft event latency)
timed_draft (Update params) event latency timed = record { indication = _; is = refl }
timed_draft (Grant params) event latency timed = record { indication = _; is = refl }
timed_draft (Map map) event latency timed = record { indication = _; is = refl }
timed_draft draft event latency timed = absurd (cc)

pub timed_has : (outgoing : Outgoing) (ctrl : Ctrl) → IsSentAs outgoing ctrl → HasBy (outgoing_part outgoing) ctrl
timed_has Nothing ctrl sent timed = absurd (cc)
timed_has (Rejection rejection) ctrl sent timed = absurd (no (rejection.opcode == param_request_opcode) (rejection.opcode == phy_request_opcode) timed)
  where
    no : (a b : Bool) → is_pdu is_timed (if a then Some (RejectParam (reason_part rejection.code)) else (if b then Some (RejectPhy (reason_part rejection.code)) else None)) ≡ true → ⊥
    no true b h = absurd (cc)
    no false true h = absurd (cc)
    no false false h = absurd (cc)
timed_has (Disconnect code) ctrl sent timed = absurd (cc)
timed_has (Other draft) ctrl sent timed =
    subst (λ (c : Ctrl). HasIndication c) (same_ctrl (ctrl_of_draft draft sent.event sent.latency) ctrl sent.is) (timed_draft draft sent.event sent.latency timed)
