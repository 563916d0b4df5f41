-- A PDU that a central takes means in its table what it means in a joint run of the procedures that exclude each other.
use Rattle.std.proofs.Common.{◌≡◌, ℕ, ◌==◌, Bool, true, false, not, ◌||◌, if◌then◌else◌, Option, Some, None, refl, sym, subst, ◌∙◌, eqb-true}
use Rattle.std.proofs.lemmas.Bool.{or_parts}
use Rattle.ble_base.specs.declared.roles.Role.TheVariants.{Central as central_role}
use Rattle.data_pdu.specs.declared.ctrl.Ctrl.{Ctrl}
use Rattle.data_pdu.specs.declared.ctrl.Ctrl.TheVariants.{ConnectionParamReq, EncRsp, LengthReq as length_req, PauseEncRsp, PeripheralFeatureReq as peripheral_feature_req, PhyReq as phy_req, RejectExtInd, StartEncReq, StartEncRsp, TerminateInd, UnknownRsp as unknown_rsp, VersionInd as version_ind}
use Rattle.data_pdu.specs.declared.ctrl.CtrlRead.TheVariants.{Known}
use Rattle.joint_controls.specs.enc_phase.declared.classes.PduClass.{PduClass}
use Rattle.joint_controls.specs.enc_phase.declared.classes.PduClass.TheVariants.{Other as other_class, Refusal as refusal_class, Request as request_class}
use Rattle.joint_controls.specs.enc_phase.declared.facts.PhaseFacts.{PhaseFacts}
use Rattle.joint_controls.specs.enc_phase.declared.facts.PhaseFacts.TheVariants.{Clear, Secure}
use Rattle.joint_controls.specs.enc_phase.Taking.{ctrl_class, is_unknown}
use Rattle.exclusive_stages.specs.declared.pdus.Pdu.{Pdu}
use Rattle.exclusive_stages.specs.declared.pdus.Pdu.TheVariants.{GrantInd, MapInd, ParamReq, PhyInd as PhyIndPdu, PhyReq as PhyReqPdu, PhyRsp as PhyRspPdu, Refusal, UpdateInd}
use Rattle.exclusive_stages.specs.declared.stages.CentralStage.{CentralStage}
use Rattle.exclusive_stages.specs.declared.stages.CentralStage.TheVariants.{Idle, MapSent, MapUnsent, PhyAnswered, PhyIndicated, PhySent, PhyUnsent, UpdateSent, UpdateUnsent}
use Rattle.collision_steps.specs.procedure_values.declared.drafts.Draft.{Draft}
use Rattle.collision_steps.specs.procedure_values.declared.drafts.Draft.TheVariants.{Cipher, FeatureReq, FeatureRsp, Grant, LengthReq, LengthRsp, Map, PeripheralFeatureReq, PhyInd, PhyReq, PhyRsp, Request, UnknownRsp, Update, VersionInd}
use Rattle.collision_steps.specs.procedure_values.declared.drafts.Outgoing.{Outgoing}
use Rattle.collision_steps.specs.procedure_values.declared.drafts.Outgoing.TheVariants.{Disconnect, Nothing, Other, Rejection}
use Rattle.collision_steps.specs.procedure_values.Drafts.{ctrl_of_draft}
use Rattle.collision_steps.specs.procedure_values.Values.{are_valid}
use Rattle.collision_steps.specs.procedure_stages.declared.stages.Central.{Central}
use Rattle.collision_steps.specs.procedure_stages.declared.stages.Exchange.TheVariants.{FeaturesSent, FeaturesUnsent, LengthSent, LengthUnsent, VersionSent, VersionUnsent}
use Rattle.collision_steps.specs.procedure_stages.declared.stages.OwnCentral.{OwnCentral}
use Rattle.collision_steps.specs.procedure_stages.declared.stages.OwnCentral.TheVariants.{EncryptSent, EncryptUnsent, Exchange as exchange, Exclusive as exclusive}
use Rattle.collision_steps.specs.procedure_stages.declared.stages.Progress.{Progress}
use Rattle.collision_steps.specs.procedure_stages.declared.stages.Progress.TheVariants.{Central as central}
use Rattle.collision_steps.specs.procedure_stages.Exclusive.{central_stage, pdu_of_draft, pdu_of_outgoing}
use Rattle.collision_steps.specs.procedure_stages.Opcodes.{channel_map_ind_opcode, connection_update_ind_opcode, phy_req_opcode, is_opcode, later_opcode_at_central, opcode_at_central}
use Rattle.collision_steps.specs.procedures.Table.{TableFacts}
use Rattle.collisions.specs.declared.central.Central.{Central as CentralPdus}
use Rattle.collisions.specs.declared.joint.End.{End}
use Rattle.collisions.specs.declared.joint.End.TheVariants.{Open}
use Rattle.collisions.specs.CentralTable
use Rattle.collisions.specs.JointRun.{is_first, is_judgeable, is_pdu}
use Rattle.collision_steps.specs.CentralPart.{answer_to, central_of, refusal_if, step_of_ctrl, step_of_read}
use Rattle.collision_steps.proofs.CentralTaking.{over}
use Rattle.joint_controls.specs.phased_control.Taken.{seen_if}
use Rattle.joint_controls.specs.Ends.{IsSentAs}
use Rattle.joint_controls.specs.Joint.{is_terminate}
use Rattle.joint_collisions.specs.Facts.{fits_up, is_cipher_up, is_first_down}
use Rattle.joint_collisions.specs.Views.{first_part}
use Rattle.joint_collisions.proofs.Answers.{Means, means_none, means_one}

-- ---- what is known in each phase

pub request_known : (phase : PhaseFacts) → is_unknown phase central_role request_class ≡ false
request_known Clear = refl
request_known Secure = refl
request_known phase = refl

pub other_known : (phase : PhaseFacts) → is_unknown phase central_role other_class ≡ false
other_known Clear = refl
other_known Secure = refl
other_known phase = refl

pub same_ctrl : (a b : Ctrl) → ◌≡◌ {A = Option Ctrl} (Some a) (Some b) → a ≡ b
same_ctrl a b is = cc

-- ---- a rejection of LL_ENC_REQ does nothing to them

abbrev rejected_by : OwnCentral → ℕ → CentralPdus → CentralPdus × End
rejected_by own opcode t = answer_to (refusal_if (is_opcode (opcode_at_central own) opcode || is_opcode (later_opcode_at_central own) opcode)) t

idle_refused : (t : CentralPdus) → t.own ≡ Idle → CentralTable.taken false Refusal t ≡ (t, Open)
idle_refused t is = by t.own is refl
  where
    by : (own : CentralStage) → own ≡ Idle → t.own ≡ own → ◌≡◌ {A = CentralPdus × End} (record t { own = CentralTable.own_after_refusal own }, Open) (t, Open)
    by Idle idle same = λ i. (record t { own = sym same i }, Open)
    by UpdateUnsent idle same = absurd (cc)
    by UpdateSent idle same = absurd (cc)
    by MapUnsent idle same = absurd (cc)
    by MapSent idle same = absurd (cc)
    by PhyUnsent idle same = absurd (cc)
    by PhySent idle same = absurd (cc)
    by PhyAnswered idle same = absurd (cc)
    by PhyIndicated idle same = absurd (cc)

rejected_at_three : (own : OwnCentral) (t : CentralPdus) → t.own ≡ central_stage own → rejected_by own 3 t ≡ (t, Open)
rejected_at_three (exclusive Idle) t is = refl
rejected_at_three (exclusive UpdateUnsent) t is = refl
rejected_at_three (exclusive UpdateSent) t is = refl
rejected_at_three (exclusive MapUnsent) t is = refl
rejected_at_three (exclusive MapSent) t is = refl
rejected_at_three (exclusive PhyUnsent) t is = refl
rejected_at_three (exclusive PhySent) t is = refl
rejected_at_three (exclusive PhyAnswered) t is = refl
rejected_at_three (exclusive PhyIndicated) t is = refl
rejected_at_three (exchange FeaturesUnsent) t is = refl
rejected_at_three (exchange FeaturesSent) t is = refl
rejected_at_three (exchange VersionUnsent) t is = refl
rejected_at_three (exchange VersionSent) t is = refl
rejected_at_three (exchange LengthUnsent) t is = refl
rejected_at_three (exchange LengthSent) t is = refl
rejected_at_three EncryptUnsent t is = refl
rejected_at_three EncryptSent t is = idle_refused t is

-- an LL_UNKNOWN_RSP that names none of their first PDUs does nothing to them either
abbrev unknown_by : OwnCentral → ℕ → CentralPdus → CentralPdus × End
unknown_by own opcode t = answer_to (refusal_if (is_opcode (opcode_at_central own) opcode)) t

none_named : (b : Bool) (t : CentralPdus) → b ≡ false → answer_to (refusal_if b) t ≡ (t, Open)
none_named true t is = absurd (cc)
none_named false t is = refl

idle_named : (b : Bool) (t : CentralPdus) → t.own ≡ Idle → answer_to (refusal_if b) t ≡ (t, Open)
idle_named true t is = idle_refused t is
idle_named false t is = refl

record NamesNone (opcode : ℕ) : Type 0 where
  update : (connection_update_ind_opcode == opcode) ≡ false
  map : (channel_map_ind_opcode == opcode) ≡ false
  phy : (phy_req_opcode == opcode) ≡ false

names_none : (opcode : ℕ) → not (is_first_down opcode) ≡ true → NamesNone opcode
names_none opcode h =
    let one = or_parts (connection_update_ind_opcode == opcode) ((channel_map_ind_opcode == opcode) || (phy_req_opcode == opcode)) (not_true (is_first_down opcode) h) in
    let two = or_parts (channel_map_ind_opcode == opcode) (phy_req_opcode == opcode) one.1 in
    record { update = one.0; map = two.0; phy = two.1 }
  where
    not_true : (b : Bool) → not b ≡ true → b ≡ false
    not_true true is = absurd (cc)
    not_true false is = refl

unknown_at : (own : OwnCentral) (opcode : ℕ) (t : CentralPdus) → t.own ≡ central_stage own → NamesNone opcode → unknown_by own opcode t ≡ (t, Open)
unknown_at (exclusive Idle) opcode t is n = refl
unknown_at (exclusive UpdateUnsent) opcode t is n = refl
unknown_at (exclusive UpdateSent) opcode t is n = none_named (connection_update_ind_opcode == opcode) t n.update
unknown_at (exclusive MapUnsent) opcode t is n = refl
unknown_at (exclusive MapSent) opcode t is n = none_named (channel_map_ind_opcode == opcode) t n.map
unknown_at (exclusive PhyUnsent) opcode t is n = refl
unknown_at (exclusive PhySent) opcode t is n = none_named (phy_req_opcode == opcode) t n.phy
unknown_at (exclusive PhyAnswered) opcode t is n = none_named (phy_req_opcode == opcode) t n.phy
unknown_at (exclusive PhyIndicated) opcode t is n = none_named (phy_req_opcode == opcode) t n.phy
unknown_at (exchange stage) opcode t is n = idle_named (is_opcode (opcode_at_central (exchange stage)) opcode) t is
unknown_at EncryptUnsent opcode t is n = refl
unknown_at EncryptSent opcode t is n = idle_named (is_opcode (opcode_at_central EncryptSent) opcode) t is

view_own : (f : TableFacts) (x : Central) → f.progress ≡ central x → (central_of f).own ≡ central_stage x.own
view_own f x is = over (λ (g : TableFacts). (central_of g).own ≡ central_stage x.own) f x is refl

-- ---- by PDU

module _ (f : TableFacts) (x : Central) (is : f.progress ≡ central x) (phase : PhaseFacts) where
  abbrev t : CentralPdus
  t = central_of f

  abbrev read_of : Ctrl → CentralPdus × End
  read_of ctrl = answer_to (step_of_read f.progress (seen_if (is_unknown phase central_role (ctrl_class ctrl)) (Known ctrl))) t

  abbrev MeansBy : Option Pdu → Ctrl → Type 0
  MeansBy pdu ctrl = is_terminate ctrl ≡ false → Means (read_of ctrl) t pdu

  -- a PDU that is of no concern, known or not
  no_step : (b : Bool) (ctrl : Ctrl) → step_of_ctrl f.progress ctrl ≡ None → answer_to (step_of_read f.progress (seen_if b (Known ctrl))) t ≡ (t, Open)
  no_step true ctrl none = refl
  no_step false ctrl none = rw none refl

  rejected : (b : Bool) (opcode code : ℕ) → (3 == opcode) ≡ true → answer_to (step_of_read f.progress (seen_if b (Known (RejectExtInd opcode code)))) t ≡ (t, Open)
  rejected true opcode code three = refl
  rejected false opcode code three =
      let same = eqb-true 3 opcode three in
      let at : answer_to (step_of_ctrl f.progress (RejectExtInd 3 code)) t ≡ (t, Open) =
      subst (λ (p : Progress). answer_to (step_of_ctrl p (RejectExtInd 3 code)) t ≡ (t, Open)) (sym is) (rejected_at_three x.own t (view_own f x is)) in
      subst (λ (n : ℕ). answer_to (step_of_ctrl f.progress (RejectExtInd n code)) t ≡ (t, Open)) same at

  unknown_seen : (b : Bool) (opcode : ℕ) → not (is_first_down opcode) ≡ true
      → answer_to (step_of_read f.progress (seen_if b (Known (unknown_rsp opcode)))) t ≡ (t, Open)
  unknown_seen true opcode h = refl
  unknown_seen false opcode h =
      subst (λ (p : Progress). answer_to (step_of_ctrl p (unknown_rsp opcode)) t ≡ (t, Open)) (sym is)
      (unknown_at x.own opcode t (view_own f x is) (names_none opcode h))

  cipher_means : (ctrl : Ctrl) → is_cipher_up ctrl ≡ true → MeansBy None ctrl
  cipher_means (EncRsp skd_s iv_s) fits lasts = means_none (no_step _ (EncRsp skd_s iv_s) refl)
  cipher_means StartEncReq fits lasts = means_none (no_step _ StartEncReq refl)
  cipher_means StartEncRsp fits lasts = means_none (no_step _ StartEncRsp refl)
  cipher_means PauseEncRsp fits lasts = means_none (no_step _ PauseEncRsp refl)
  cipher_means (TerminateInd code) fits lasts = absurd (cc)
  cipher_means (RejectExtInd opcode code) fits lasts = means_none (rejected _ opcode code fits)
  cipher_means ctrl fits lasts = absurd (cc)

  abbrev known_of : PduClass → Ctrl → CentralPdus × End
  known_of pdu ctrl = answer_to (step_of_read f.progress (seen_if (is_unknown phase central_role pdu) (Known ctrl))) t

  known_means : (pdu : PduClass) (ctrl : Ctrl) → is_unknown phase central_role pdu ≡ false → known_of pdu ctrl ≡ answer_to (step_of_ctrl f.progress ctrl) t
  known_means pdu ctrl known = rw known refl

  draft_means : (draft : Draft) (event latency : ℕ) → fits_up (Other draft) ≡ true → MeansBy (pdu_of_draft draft) (ctrl_of_draft draft event latency)
  draft_means (Update params) event latency fits lasts = means_one false UpdateInd refl (no_step _ (ctrl_of_draft (Update params) event latency) refl)
  draft_means (Grant params) event latency fits lasts = means_one false GrantInd refl (no_step _ (ctrl_of_draft (Grant params) event latency) refl)
  draft_means (Map map) event latency fits lasts = means_one false MapInd refl (no_step _ (ctrl_of_draft (Map map) event latency) refl)
  draft_means (Request min max latency_asked timeout) event latency fits lasts =
      means_one (not (are_valid min max latency_asked timeout)) ParamReq (judged (not (are_valid min max latency_asked timeout)))
      (known_means request_class (ctrl_of_draft (Request min max latency_asked timeout) event latency) (request_known phase))
    where
      judged : (b : Bool) → is_judgeable b ParamReq ≡ true
      judged true = refl
      judged false = refl
  draft_means PhyReq event latency fits lasts = means_one false PhyReqPdu refl (known_means request_class (ctrl_of_draft PhyReq event latency) (request_known phase))
  draft_means PhyRsp event latency fits lasts = means_one false PhyRspPdu refl (known_means other_class (ctrl_of_draft PhyRsp event latency) (other_known phase))
  draft_means PhyInd event latency fits lasts = means_one false PhyIndPdu refl (no_step _ (ctrl_of_draft PhyInd event latency) refl)
  draft_means FeatureReq event latency fits lasts = means_none (no_step _ (ctrl_of_draft FeatureReq event latency) refl)
  draft_means PeripheralFeatureReq event latency fits lasts = means_none (no_step _ (ctrl_of_draft PeripheralFeatureReq event latency) refl)
  draft_means FeatureRsp event latency fits lasts = means_none (no_step _ (ctrl_of_draft FeatureRsp event latency) refl)
  draft_means VersionInd event latency fits lasts = means_none (no_step _ (ctrl_of_draft VersionInd event latency) refl)
  draft_means (LengthReq rx tx) event latency fits lasts = means_none (no_step _ (ctrl_of_draft (LengthReq rx tx) event latency) refl)
  draft_means (LengthRsp rx tx) event latency fits lasts = means_none (no_step _ (ctrl_of_draft (LengthRsp rx tx) event latency) refl)
  draft_means (UnknownRsp opcode) event latency fits lasts = means_none (unknown_seen _ opcode fits)
  draft_means (Cipher ctrl) event latency fits lasts = cipher_means ctrl fits lasts

  pub up_means : (outgoing : Outgoing) (ctrl : Ctrl) → IsSentAs outgoing ctrl → fits_up outgoing ≡ true → MeansBy (pdu_of_outgoing outgoing) ctrl
  up_means Nothing ctrl sent fits = absurd (let no = sent.is in cc)
  up_means (Rejection rejection) ctrl sent fits = absurd (cc)
  up_means (Disconnect code) ctrl sent fits =
      subst (MeansBy None) (same_ctrl (TerminateInd code.0) ctrl sent.is) (λ lasts. absurd (cc))
  up_means (Other draft) ctrl sent fits =
      subst (MeansBy (pdu_of_draft draft)) (same_ctrl (ctrl_of_draft draft sent.event sent.latency) ctrl sent.is) (draft_means draft sent.event sent.latency fits)

  -- ---- what the central kept

  pub first_means : (ctrl : Ctrl) → ctrl_class ctrl ≡ request_class → Means (answer_to (step_of_read f.progress (Known ctrl)) t) t (first_part ctrl)
  first_means (ConnectionParamReq min max latency timeout periodicity reference offsets) first =
      means_one (not (are_valid min max latency timeout)) ParamReq (judged (not (are_valid min max latency timeout))) refl
    where
      judged : (b : Bool) → is_judgeable b ParamReq ≡ true
      judged true = refl
      judged false = refl
  first_means (phy_req tx rx) first = means_one false PhyReqPdu refl refl
  first_means (version_ind version company sub) first = means_none refl
  first_means (peripheral_feature_req features) first = means_none refl
  first_means (length_req rx rx_time tx tx_time) first = means_none refl
  first_means (RejectExtInd opcode code) first = absurd (no (opcode == 3) first)
    where
      no : (b : Bool) → (if b then refusal_class else other_class) ≡ request_class → ⊥
      no true h = absurd (cc)
      no false h = absurd (cc)
  first_means ctrl first = absurd (cc)

-- ---- what a central keeps is the first PDU of a procedure

pub record KeepsAs (outgoing : Outgoing) (ctrl : Ctrl) : Type 0 where
  pub part : pdu_of_outgoing outgoing ≡ first_part ctrl
  pub first : (pdu : Pdu) → first_part ctrl ≡ Some pdu → is_first pdu ≡ true

abbrev KeepsBy : Outgoing → Ctrl → Type 0
KeepsBy outgoing ctrl = ctrl_class ctrl ≡ request_class → KeepsAs outgoing ctrl

none_kept : (outgoing : Outgoing) (ctrl : Ctrl) → pdu_of_outgoing outgoing ≡ None → first_part ctrl ≡ None → KeepsAs outgoing ctrl
none_kept outgoing ctrl part none =
    record { part = part ∙ sym none; first = λ pdu some. absurd (let both : ◌≡◌ {A = Option Pdu} None (Some pdu) = sym none ∙ some in cc) }

cipher_not_kept : (ctrl : Ctrl) → is_cipher_up ctrl ≡ true → KeepsBy (Other (Cipher ctrl)) ctrl
cipher_not_kept (EncRsp skd_s iv_s) fits first = absurd (cc)
cipher_not_kept StartEncReq fits first = absurd (cc)
cipher_not_kept StartEncRsp fits first = absurd (cc)
cipher_not_kept PauseEncRsp fits first = absurd (cc)
cipher_not_kept (TerminateInd code) fits first = absurd (cc)
cipher_not_kept (RejectExtInd opcode code) fits first = none_kept (Other (Cipher (RejectExtInd opcode code))) (RejectExtInd opcode code) refl refl
cipher_not_kept ctrl fits first = absurd (cc)

one_kept : (pdu : Pdu) → is_first pdu ≡ true → (other : Pdu) → ◌≡◌ {A = Option Pdu} (Some pdu) (Some other) → is_first other ≡ true
one_kept pdu first other same = subst (λ (o : Option Pdu). is_pdu is_first o ≡ true) same first

draft_kept : (draft : Draft) (event latency : ℕ) → fits_up (Other draft) ≡ true → KeepsBy (Other draft) (ctrl_of_draft draft event latency)
draft_kept (Update params) event latency fits first = absurd (cc)
draft_kept (Grant params) event latency fits first = absurd (cc)
draft_kept (Map map) event latency fits first = absurd (cc)
draft_kept (Request min max latency_asked timeout) event latency fits first = record { part = refl; first = one_kept ParamReq refl }
draft_kept PhyReq event latency fits first = record { part = refl; first = one_kept PhyReqPdu refl }
draft_kept PhyRsp event latency fits first = absurd (cc)
draft_kept PhyInd event latency fits first = absurd (cc)
draft_kept FeatureReq event latency fits first = absurd (cc)
draft_kept PeripheralFeatureReq event latency fits first = none_kept (Other PeripheralFeatureReq) (ctrl_of_draft PeripheralFeatureReq event latency) refl refl
draft_kept FeatureRsp event latency fits first = absurd (cc)
draft_kept VersionInd event latency fits first = none_kept (Other VersionInd) (ctrl_of_draft VersionInd event latency) refl refl
draft_kept (LengthReq rx tx) event latency fits first = none_kept (Other (LengthReq rx tx)) (ctrl_of_draft (LengthReq rx tx) event latency) refl refl
draft_kept (LengthRsp rx tx) event latency fits first = absurd (cc)
draft_kept (UnknownRsp opcode) event latency fits first = absurd (cc)
draft_kept (Cipher ctrl) event latency fits first = cipher_not_kept ctrl fits first

pub up_kept : (outgoing : Outgoing) (ctrl : Ctrl) → IsSentAs outgoing ctrl → fits_up outgoing ≡ true → KeepsBy outgoing ctrl
up_kept Nothing ctrl sent fits = absurd (let no = sent.is in cc)
up_kept (Rejection rejection) ctrl sent fits = absurd (cc)
up_kept (Disconnect code) ctrl sent fits = subst (KeepsBy (Disconnect code)) (same_ctrl (TerminateInd code.0) ctrl sent.is) (λ first. absurd (cc))
up_kept (Other draft) ctrl sent fits =
    subst (KeepsBy (Other draft)) (same_ctrl (ctrl_of_draft draft sent.event sent.latency) ctrl sent.is) (draft_kept draft sent.event sent.latency fits)
