-- A central that takes a PDU stays alone outside the phases Clear and Secure.
use Rattle.std.proofs.Common.{◌≡◌, ℕ, Bool, true, false, if◌then◌else◌, Option, Some, None, is_none, refl, sym, ap, subst, ◌∙◌}
use Rattle.ble_base.specs.ErrorCodes.{memory_capacity_exceeded, mic_failure}
use Rattle.ble_base.specs.declared.error_codes.ErrCode.{ErrCode}
use Rattle.ble_base.specs.declared.roles.Role.{Role}
use Rattle.ble_base.specs.declared.roles.Role.TheVariants.{Central as central_role}
use Rattle.data_pdu.specs.declared.ctrl.Ctrl.{Ctrl}
use Rattle.data_pdu.specs.declared.ctrl.Ctrl.TheVariants.{PauseEncRsp, StartEncReq, StartEncRsp}
use Rattle.data_pdu.specs.declared.ctrl.CtrlRead.{CtrlRead}
use Rattle.data_pdu.specs.declared.ctrl.CtrlRead.TheVariants.{Known}
use Rattle.joint_controls.specs.enc_phase.declared.classes.PduClass.{PduClass}
use Rattle.joint_controls.specs.enc_phase.declared.classes.PduClass.TheVariants.{EncRsp as enc_rsp_class, Other as other_class, Refusal as refusal_class, Request as request_class}
use Rattle.joint_controls.specs.enc_phase.declared.facts.PhaseFacts.{PhaseFacts}
use Rattle.joint_controls.specs.enc_phase.declared.facts.PhaseFacts.TheVariants.{Asked, Clear, HalfClear, HalfKeyed, Pausing, Secure}
use Rattle.joint_controls.specs.enc_phase.declared.facts.Transition.TheVariants.{Confirm, Refuse, Unlock}
use Rattle.joint_controls.specs.enc_phase.Phases.{is_asked, is_quiet, may_follow, phase_after}
use Rattle.joint_controls.specs.enc_phase.Taking.{allows, ctrl_class, is_unknown, phase_taking}
use Rattle.exclusive_stages.specs.declared.pdus.Pdu.{Pdu}
use Rattle.exclusive_stages.specs.declared.pdus.Pdu.TheVariants.{ParamReq, PhyReq, PhyRsp, Refusal}
use Rattle.collision_steps.specs.procedure_values.declared.drafts.Draft.{Draft}
use Rattle.collision_steps.specs.procedure_values.declared.drafts.Draft.TheVariants.{PhyReq as phy_req_draft, PhyRsp as phy_rsp_draft, Request as request_draft}
use Rattle.collision_steps.specs.procedure_values.declared.drafts.Outgoing.{Outgoing}
use Rattle.collision_steps.specs.procedure_values.declared.drafts.Outgoing.TheVariants.{Other}
use Rattle.collision_steps.specs.procedure_values.Drafts.{ctrl_of_draft}
use Rattle.collision_steps.specs.procedure_stages.declared.stages.Central.{Central}
use Rattle.collision_steps.specs.procedure_stages.declared.stages.Progress.TheVariants.{Central as central}
use Rattle.collision_steps.specs.procedure_stages.Exclusive.{pdu_of_draft, pdu_of_outgoing}
use Rattle.collision_steps.specs.procedure_stages.Kinds.{role_of}
use Rattle.joint_controls.specs.table_laws.Encrypting.{has_encryption}
use Rattle.collisions.specs.declared.central.Central.{Central as CentralPdus}
use Rattle.collisions.specs.declared.joint.End.{End}
use Rattle.collisions.specs.CentralTable
use Rattle.collision_steps.specs.CentralPart.{answer_to, central_of, step_of_read}
use Rattle.joint_controls.specs.control_model.Control.{Control, Takes, after}
use Rattle.joint_controls.specs.phased_control.Phased.{Phased, is_quiet_now}
use Rattle.joint_controls.specs.phased_control.Taken.{Response, Takes as takes_end, TakesData, answered_if_quiet, answered_kept, ciphered, ciphered_at, ciphered_at_central, does_keep, ended_with, handed_on, is_allowed, keeping, keeps_class, knowing, lacks_room_now, moved_to, phased_after, refused_by, role_now, seen_if, took_allowed, with_phase_taking}
use Rattle.joint_controls.specs.Ends.{IsSentAs}
use Rattle.joint_controls.specs.Joint.{is_terminate}
use Rattle.joint_controls.proofs.Keeping.{ciphered_keeps}
use Rattle.joint_collisions.specs.Facts.{fits_up}
use Rattle.joint_collisions.proofs.Alone.{AloneIf, IsAlone}
use Rattle.joint_collisions.proofs.AloneSteps.{AloneAt, owes_alone}
use Rattle.joint_collisions.proofs.Answers.{Means, ReadAs, means_none, means_one, read_as}
use Rattle.joint_collisions.proofs.CentralEnd.{going}
use Rattle.joint_collisions.proofs.CentralTakes.{keeping_of, not_stopping}
use Rattle.joint_collisions.proofs.Meanings.{same_ctrl, up_means}

-- ---- the class of a PDU that matters

abbrev class_of_pdu : Option Pdu → Option PduClass
class_of_pdu (Some ParamReq) = Some request_class
class_of_pdu (Some PhyReq) = Some request_class
class_of_pdu (Some PhyRsp) = Some other_class
class_of_pdu pdu = None

abbrev HasClass : Option Pdu → Ctrl → Type 0
HasClass pdu ctrl = (k : PduClass) → class_of_pdu pdu ≡ Some k → ctrl_class ctrl ≡ k

same_class : (a b : PduClass) → ◌≡◌ {A = Option PduClass} (Some a) (Some b) → a ≡ b
same_class a b is = cc

draft_class : (draft : Draft) (event latency : ℕ) → HasClass (pdu_of_draft draft) (ctrl_of_draft draft event latency)
draft_class (request_draft min max latency_asked timeout) event latency k is = same_class request_class k is
draft_class phy_req_draft event latency k is = same_class request_class k is
draft_class phy_rsp_draft event latency k is = same_class other_class k is
draft_class draft event latency k is = absurd (cc)

up_class : (outgoing : Outgoing) (ctrl : Ctrl) → IsSentAs outgoing ctrl → HasClass (pdu_of_outgoing outgoing) ctrl
up_class (Other draft) ctrl sent =
    subst (HasClass (pdu_of_draft draft)) (same_ctrl (ctrl_of_draft draft sent.event sent.latency) ctrl sent.is) (draft_class draft sent.event sent.latency)
up_class outgoing ctrl sent = λ k is. absurd (cc)

-- ---- phases

other_refused : (phase : PhaseFacts) → is_quiet phase ≡ false → allows phase central_role other_class ≡ false
other_refused Clear loud = absurd (cc)
other_refused Secure loud = absurd (cc)
other_refused (Asked after_pause enc_rsp kept) loud = refl
other_refused HalfKeyed loud = refl
other_refused (Pausing kept) loud = refl
other_refused (HalfClear kept) loud = refl

taking_quiet : (pdu : PduClass) (phase : PhaseFacts) → is_quiet phase ≡ true → is_quiet (phase_taking pdu phase) ≡ true
taking_quiet enc_rsp_class Clear quiet = refl
taking_quiet enc_rsp_class Secure quiet = refl
taking_quiet enc_rsp_class (Asked after_pause enc_rsp kept) quiet = absurd (cc)
taking_quiet enc_rsp_class HalfKeyed quiet = absurd (cc)
taking_quiet enc_rsp_class (Pausing kept) quiet = absurd (cc)
taking_quiet enc_rsp_class (HalfClear kept) quiet = absurd (cc)
taking_quiet request_class Clear quiet = refl
taking_quiet request_class Secure quiet = refl
taking_quiet request_class (Asked after_pause enc_rsp kept) quiet = absurd (cc)
taking_quiet request_class HalfKeyed quiet = absurd (cc)
taking_quiet request_class (Pausing kept) quiet = absurd (cc)
taking_quiet request_class (HalfClear kept) quiet = absurd (cc)
taking_quiet pdu phase quiet = quiet

record StaysQuiet (phase : PhaseFacts) : Type 0 where
  asked : is_asked phase ≡ false
  confirms : may_follow Confirm phase ≡ false
  unlocks : may_follow Unlock phase ≡ false
  refuses : is_quiet (phase_after Refuse phase) ≡ true

stays_quiet : (phase : PhaseFacts) → is_quiet phase ≡ true → StaysQuiet phase
stays_quiet Clear quiet = record { asked = refl; confirms = refl; unlocks = refl; refuses = refl }
stays_quiet Secure quiet = record { asked = refl; confirms = refl; unlocks = refl; refuses = refl }
stays_quiet (Asked after_pause enc_rsp kept) quiet = absurd (cc)
stays_quiet HalfKeyed quiet = absurd (cc)
stays_quiet (Pausing kept) quiet = absurd (cc)
stays_quiet (HalfClear kept) quiet = absurd (cc)

module _ (t : Phased) (quiet : is_quiet_now t ≡ true) where
  if_never : (b : Bool) (u : Phased) → b ≡ false → is_quiet_now (if b then u else t) ≡ true
  if_never true u is = absurd (cc)
  if_never false u is = quiet

  refused_quiet : (pdu : PduClass) → is_quiet_now (refused_by pdu t) ≡ true
  refused_quiet refusal_class = by (has_encryption t.control.table.progress)
    where
      by : (has : Bool) → is_quiet_now (if has then t else record t { phase = phase_after Refuse t.phase }) ≡ true
      by true = quiet
      by false = (stays_quiet t.phase quiet).refuses
  refused_quiet pdu = quiet

  at_central_quiet : (ctrl : Ctrl) → is_quiet_now (ciphered_at_central ctrl t) ≡ true
  at_central_quiet StartEncReq = if_never (is_asked t.phase) _ (stays_quiet t.phase quiet).asked
  at_central_quiet StartEncRsp = if_never (may_follow Confirm t.phase) (moved_to Confirm None t) (stays_quiet t.phase quiet).confirms
  at_central_quiet PauseEncRsp = if_never (may_follow Unlock t.phase) (moved_to Unlock (Some PauseEncRsp) t) (stays_quiet t.phase quiet).unlocks
  at_central_quiet ctrl = refused_quiet (ctrl_class ctrl)

-- ---- a PDU is taken

module _ (s : Phased) (x : Central) (is : s.control.table.progress ≡ central x) (lasts : s.control.ends ≡ None) (alone : AloneIf s) (outgoing : Outgoing) (ctrl : Ctrl)
    (slot : ℕ) (response : Response) (sent : IsSentAs outgoing ctrl) (fits : fits_up outgoing ≡ true) (live : is_terminate ctrl ≡ false) where
  abbrev read : CtrlRead
  read = Known ctrl

  own_role : role_of s.control.table.progress ≡ central_role
  own_role = rw is refl

  abbrev Alone : Phased → Type 0
  Alone t = t.control.ends ≡ None → AloneIf t

  abbrev unknown : Bool
  unknown = is_unknown s.phase (role_of s.control.table.progress) (ctrl_class ctrl)

  abbrev next : Control
  next = after (Takes (seen_if unknown read) slot (is_quiet_now s)) s.control

  abbrev old : CentralPdus
  old = central_of s.control.table

  abbrev answer : CentralPdus × End
  answer = answer_to (step_of_read s.control.table.progress (seen_if unknown read)) old

  read_next : ReadAs s.control next answer
  read_next = read_as s.control x is lasts (seen_if unknown read) slot (is_quiet_now s) (not_stopping unknown ctrl live)

  means : Means answer old (pdu_of_outgoing outgoing)
  means =
      subst (λ (role : Role). Means (answer_to (step_of_read s.control.table.progress (seen_if (is_unknown s.phase role (ctrl_class ctrl)) read)) old) old (pdu_of_outgoing outgoing))
      (sym own_role) (up_means s.control.table x is s.phase outgoing ctrl sent fits live)

  -- outside Clear and Secure nothing comes that would begin or answer one of these procedures
  module _ (loud : is_quiet_now s ≡ false) (allowed : is_allowed read s ≡ true) (unkept : does_keep read s ≡ false) where
    allowed_class : (k : PduClass) → class_of_pdu (pdu_of_outgoing outgoing) ≡ Some k → allows s.phase central_role k ≡ true
    allowed_class k of =
        subst (λ (role : Role). allows s.phase role k ≡ true) own_role
        (subst (λ (pdu : PduClass). allows s.phase (role_of s.control.table.progress) pdu ≡ true) (up_class outgoing ctrl sent k of) allowed)

    kept_class : class_of_pdu (pdu_of_outgoing outgoing) ≡ Some request_class → keeps_class request_class central_role false ≡ false
    kept_class of =
        subst (λ (quiet : Bool). keeps_class request_class central_role quiet ≡ false) loud
        (subst (λ (role : Role). keeps_class request_class role (is_quiet_now s) ≡ false) own_role
        (subst (λ (pdu : PduClass). keeps_class pdu (role_of s.control.table.progress) (is_quiet_now s) ≡ false) (up_class outgoing ctrl sent request_class of) unkept))

    taken_alone : (judged : Bool) (pdu : Pdu) → pdu_of_outgoing outgoing ≡ Some pdu → IsAlone (CentralTable.taken judged pdu old).0
    taken_alone judged ParamReq part = absurd (let no = kept_class (ap class_of_pdu part) in cc)
    taken_alone judged PhyReq part = absurd (let no = kept_class (ap class_of_pdu part) in cc)
    taken_alone judged PhyRsp part = absurd (let yes = allowed_class other_class (ap class_of_pdu part) in let no = other_refused s.phase loud in cc)
    taken_alone judged Refusal part =
        let a = alone loud in record { own = ap CentralTable.own_after_refusal a.own; peer = a.peer; queue = a.queue }
    taken_alone judged pdu part = alone loud

    answer_alone : (part : Option Pdu) → pdu_of_outgoing outgoing ≡ part → Means answer old part → IsAlone answer.0
    answer_alone None part (means_none same) = subst (λ (t : CentralPdus). IsAlone t) (sym (ap (λ (a : CentralPdus × End). a.0) same)) (alone loud)
    answer_alone (Some pdu) part (means_one judged _ judges same) =
        subst (λ (t : CentralPdus). IsAlone t) (sym (ap (λ (a : CentralPdus × End). a.0) same)) (taken_alone judged pdu part)

    next_alone : next.ends ≡ None → AloneAt next
    next_alone goes =
        record {
          role = read_next.same.role;
          alone = subst (λ (t : CentralPdus). IsAlone t) (sym (read_next.goes goes).1) (answer_alone (pdu_of_outgoing outgoing) refl means);
        }

  abbrev handed : Phased
  handed = with_phase_taking read (record (knowing read s) { control = next })

  abbrev ciphered_next : Phased
  ciphered_next = ciphered response read handed

  -- a phase that was Clear or Secure stays so
  quiet_then : is_quiet_now s ≡ true → next.ends ≡ None → is_quiet_now ciphered_next ≡ true
  quiet_then quiet goes =
      subst (λ (role : Role). is_quiet_now (ciphered_at role response ctrl handed) ≡ true) (sym read_next.same.role)
      (at_central_quiet handed (taking_quiet (ctrl_class ctrl) s.phase quiet) ctrl)

  loud_before : next.ends ≡ None → is_quiet_now ciphered_next ≡ false → is_quiet_now s ≡ false
  loud_before goes loud = by (is_quiet_now s) refl
    where
      by : (quiet : Bool) → is_quiet_now s ≡ quiet → quiet ≡ false
      by false e = refl
      by true e = absurd (let no = quiet_then e goes in cc)

  module _ (allowed : is_allowed read s ≡ true) (unkept : does_keep read s ≡ false) where
    ciphered_alone : next.ends ≡ None → AloneIf ciphered_next
    ciphered_alone goes loud = (ciphered_keeps AloneAt owes_alone response read handed (next_alone (loud_before goes loud) allowed unkept goes)).alone

    answered_phase : (kept : Option Ctrl) (t : Phased) → (answered_kept slot kept t).phase ≡ t.phase
    answered_phase None t = refl
    answered_phase (Some one) t = refl

    answered_alone : next.ends ≡ None → (quiet : Bool) → is_quiet_now ciphered_next ≡ quiet
        → AloneIf (if quiet then answered_kept slot ciphered_next.kept ciphered_next else ciphered_next)
    answered_alone goes true quiet loud =
        absurd (let same : is_quiet_now (answered_kept slot ciphered_next.kept ciphered_next) ≡ true = ap is_quiet (answered_phase ciphered_next.kept ciphered_next) ∙ quiet in cc)
    answered_alone goes false quiet loud = ciphered_alone goes loud

    handed_by : (ends : Option ErrCode) → next.ends ≡ ends → Alone (if is_none ends then answered_if_quiet slot ciphered_next else handed)
    handed_by None was goes = answered_alone was (is_quiet_now ciphered_next) refl
    handed_by (Some code) was goes = absurd (let both : ◌≡◌ {A = Option ErrCode} (Some code) None = sym was ∙ goes in cc)

    handed_alone : Alone (handed_on slot response read s)
    handed_alone = handed_by next.ends refl

  kept_alone : does_keep read s ≡ true → Alone (keeping read s)
  kept_alone does goes loud = alone (keeping_of (ctrl_class ctrl) (role_of s.control.table.progress) (is_quiet_now s) does).loud

  room_alone : (lacks : Bool) → Alone (handed_on slot response read s) → Alone (if lacks then ended_with memory_capacity_exceeded s else handed_on slot response read s)
  room_alone true h = λ goes. absurd (cc)
  room_alone false h = h

  allowed_alone : is_allowed read s ≡ true → (does : Bool) → does_keep read s ≡ does
      → Alone (if does then keeping read s else (if lacks_room_now read s then ended_with memory_capacity_exceeded s else handed_on slot response read s))
  allowed_alone allowed true does = kept_alone does
  allowed_alone allowed false does = room_alone (lacks_room_now read s) (handed_alone allowed does)

  took_by : (allowed : Bool) → is_allowed read s ≡ allowed → Alone (if allowed then took_allowed slot response read s else ended_with mic_failure s)
  took_by true allowed = allowed_alone allowed (does_keep read s) refl
  took_by false allowed = λ goes. absurd (cc)

  pub takes_alone : Alone (phased_after (takes_end read slot response) s)
  takes_alone = going Alone (takes_end read slot response) s lasts (took_by (is_allowed read s) refl)

pub data_alone : (s : Phased) → s.control.ends ≡ None → AloneIf s → (phased_after TakesData s).control.ends ≡ None → AloneIf (phased_after TakesData s)
data_alone s lasts alone = going (λ (t : Phased). t.control.ends ≡ None → AloneIf t) TakesData s lasts (by (allows s.phase (role_now s) _))
  where
    by : (allowed : Bool) → (if allowed then s else ended_with mic_failure s).control.ends ≡ None → AloneIf (if allowed then s else ended_with mic_failure s)
    by true goes = alone
    by false goes = absurd (cc)
