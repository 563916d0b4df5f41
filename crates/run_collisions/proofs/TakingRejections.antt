-- A peripheral takes the rejection of a procedure that excludes others: it is in Clear or Secure then, since any other phase
-- would end the link, so its procedures see the rejection as in those.
use Rattle.std.proofs.Common.{◌≡◌, ◌&&◌, not, ℕ, Bool, true, false, Option, Some, None, is_none, refl, sym, ap, ◌∙◌, if◌then◌else◌}
use Rattle.std.specs.Prelude.{nat_le}
use Rattle.ble_base.specs.ErrorCodes.{memory_capacity_exceeded, mic_failure}
use Rattle.ble_base.specs.declared.error_codes.ErrCode.{ErrCode}
use Rattle.ble_base.specs.declared.roles.Role.{Role}
use Rattle.ble_base.specs.declared.roles.Role.TheVariants.{Central, Peripheral}
use Rattle.data_pdu.specs.declared.ctrl.Ctrl.{Ctrl}
use Rattle.data_pdu.specs.declared.ctrl.Ctrl.TheVariants.{RejectExtInd}
use Rattle.data_pdu.specs.declared.ctrl.CtrlRead.{CtrlRead}
use Rattle.exclusive_stages.specs.declared.pdus.Exclusive.{Exclusive}
use Rattle.exclusive_stages.specs.declared.pdus.Exclusive.TheVariants.{Map, Phy, Request, Update}
use Rattle.link_pairs.specs.control_end.Answers.{nothing_taken, taken_of}
use Rattle.link_pairs.specs.control_end.declared.answers.Taken.{Taken}
use Rattle.link_pairs.specs.control_model.Control.{Takes, after}
use Rattle.link_pairs.specs.procedure_stages.Closing.{is_open}
use Rattle.link_pairs.specs.procedure_stages.Opcodes.{opcode_of_kind}
use Rattle.link_pairs.specs.procedure_stages.Queue.{waiting_in}
use Rattle.link_pairs.specs.link_model.enc_phase.declared.classes.PduClass.{PduClass}
use Rattle.link_pairs.specs.link_model.enc_phase.declared.classes.PduClass.TheVariants.{Other}
use Rattle.link_pairs.specs.link_model.enc_phase.declared.facts.PhaseFacts.{PhaseFacts}
use Rattle.link_pairs.specs.link_model.enc_phase.declared.facts.PhaseFacts.TheVariants.{Asked, Clear, HalfClear, HalfKeyed, Pausing, Secure}
use Rattle.link_pairs.specs.link_model.enc_phase.Phases.{is_quiet}
use Rattle.link_pairs.specs.link_model.enc_phase.Taking.{allows, is_unknown}
use Rattle.link_pairs.specs.link_model.keyed_control.declared.material.Response.{Response}
use Rattle.link_pairs.specs.link_model.phased_control.Phased.{Phased, is_open_now, is_quiet_now, with_step}
use Rattle.link_pairs.specs.link_model.phased_control.Taken.{Response as Drawn, answered_if_quiet, answered_kept, ciphered_at, class_of_read, ended_with, handed_on, is_answered_at, keeping, keeps_class, knowing, role_now, seen_as, seen_if, took, took_allowed, with_phase_taking}
use Rattle.link_pairs.specs.link_model.phased_end.Held.{HeldKeyed}
use Rattle.link_pairs.specs.link_model.phased_end.Moves.{lasts}
use Rattle.link_pairs.specs.link_model.phased_end.Taking as taking
use Rattle.link_pairs.proofs.TakerSends.{same_if}
use Rattle.link_pairs.proofs.link_model.Skipping.{no_inner}
use Rattle.run_collisions.proofs.Refusing.{rejection_read}

-- any phase but these two refuses it
quiet_by : (phase : PhaseFacts) (role : Role) → allows phase role Other ≡ true → is_quiet phase ≡ true
quiet_by Clear role is = refl
quiet_by Secure role is = refl
quiet_by (Asked after_pause enc_rsp kept) Central is = absurd (cc)
quiet_by (Asked after_pause enc_rsp kept) Peripheral is = absurd (cc)
quiet_by HalfKeyed Central is = absurd (cc)
quiet_by HalfKeyed Peripheral is = absurd (cc)
quiet_by (Pausing kept) Central is = absurd (cc)
quiet_by (Pausing kept) Peripheral is = absurd (cc)
quiet_by (HalfClear kept) Central is = absurd (cc)
quiet_by (HalfClear kept) Peripheral is = absurd (cc)

record IsSeen (phase : PhaseFacts) (role : Role) : Type 0 where
  allowed : allows phase role Other ≡ true
  known : is_unknown phase role Other ≡ false

seen_by : (phase : PhaseFacts) (role : Role) → is_quiet phase ≡ true → IsSeen phase role
seen_by Clear Central is = record { allowed = refl; known = refl }
seen_by Clear Peripheral is = record { allowed = refl; known = refl }
seen_by Secure Central is = record { allowed = refl; known = refl }
seen_by Secure Peripheral is = record { allowed = refl; known = refl }
seen_by (Asked after_pause enc_rsp kept) role is = absurd (cc)
seen_by HalfKeyed role is = absurd (cc)
seen_by (Pausing kept) role is = absurd (cc)
seen_by (HalfClear kept) role is = absurd (cc)

class_is : (q : Exclusive) (code : ErrCode) → class_of_read (rejection_read q code) ≡ Other
class_is Update code = refl
class_is Request code = refl
class_is Map code = refl
class_is Phy code = refl

-- it is not answered
none_answers : (role : Role) (opcode code : ℕ) (phase : PhaseFacts) → is_answered_at role (RejectExtInd opcode code) phase ≡ false
none_answers Central opcode code phase = refl
none_answers Peripheral opcode code phase = refl

-- ---- the procedures of the end

module _ (q : Exclusive) (code : ErrCode) (slot : ℕ) (response : Drawn) (s : Phased) where
  abbrev read : CtrlRead
  read = rejection_read q code

  abbrev ctrl : Ctrl
  ctrl = RejectExtInd (opcode_of_kind q) code.0

  -- it did not end the link as a PDU that is not allowed, so it was allowed
  pub quiet : ((took slot response read s).control.ends ≡ Some (record { 0 = mic_failure }) → ⊥) → is_quiet_now s ≡ true
  quiet stays =
      quiet_by s.phase (role_now s) (ap (allows s.phase (role_now s)) (sym (class_is q code)) ∙ by (allows s.phase (role_now s) (class_of_read read)) stays)
    where
      by : (b : Bool) → ((if b then took_allowed slot response read s else ended_with mic_failure s).control.ends ≡ Some (record { 0 = mic_failure }) → ⊥) → b ≡ true
      by true is = refl
      by false is = absurd (is refl)

  module _ (now : is_quiet_now s ≡ true) (none : s.kept ≡ None) where
    abbrev then_seen : Phased
    then_seen = with_phase_taking read (with_step (Takes (seen_as read s) slot (is_quiet_now s)) (knowing read s))

    ciphers_none : (q : Exclusive) (role : Role) (t : Phased) → ciphered_at role response (RejectExtInd (opcode_of_kind q) code.0) t ≡ t
    ciphers_none Update Central t = refl
    ciphers_none Request Central t = refl
    ciphers_none Map Central t = refl
    ciphers_none Phy Central t = refl
    ciphers_none q Peripheral t = refl

    handed_is : handed_on slot response read s ≡ then_seen
    handed_is =
        ap (λ (t : Phased). if is_none then_seen.control.ends then answered_if_quiet slot t else then_seen) (ciphers_none q (role_now then_seen) then_seen)
        ∙ ap (λ (kept : Option Ctrl). if is_none then_seen.control.ends
        then (if is_quiet_now then_seen then answered_kept slot kept then_seen else then_seen) else then_seen) none
        ∙ ap (λ (t : Phased). if is_none then_seen.control.ends then t else then_seen) (same_if (is_quiet_now then_seen) then_seen)
        ∙ same_if (is_none then_seen.control.ends) then_seen

    is_seen : IsSeen s.phase (role_now s)
    is_seen = seen_by s.phase (role_now s) now

    allowed : allows s.phase (role_now s) (class_of_read read) ≡ true
    allowed = ap (allows s.phase (role_now s)) (class_is q code) ∙ is_seen.allowed

    keeps_none : keeps_class (class_of_read read) (role_now s) (is_quiet_now s) ≡ false
    keeps_none = ap (λ (class : PduClass). keeps_class class (role_now s) (is_quiet_now s)) (class_is q code)

    has_room : (is_open_now s && (nat_le 16 (waiting_in s.control.table.queue) && is_answered_at (role_now s) ctrl s.phase)) ≡ false
    has_room =
        ap (λ (b : Bool). is_open_now s && (nat_le 16 (waiting_in s.control.table.queue) && b)) (none_answers (role_now s) (opcode_of_kind q) code.0 s.phase)
        ∙ no_inner (is_open_now s) (nat_le 16 (waiting_in s.control.table.queue))

    pub taken_so : (took slot response read s).control ≡ after (Takes read slot true) s.control
    taken_so =
        ap (λ (b : Bool). (if b then took_allowed slot response read s else ended_with mic_failure s).control) allowed
        ∙ ap (λ (b : Bool). (if b then keeping read s
        else (if is_open_now s && (nat_le 16 (waiting_in s.control.table.queue) && is_answered_at (role_now s) ctrl s.phase)
        then ended_with memory_capacity_exceeded s else handed_on slot response read s)).control) keeps_none
        ∙ ap (λ (b : Bool). (if b then ended_with memory_capacity_exceeded s else handed_on slot response read s).control) has_room
        ∙ ap (λ (t : Phased). t.control) handed_is
        ∙ (λ i. after (Takes (seen_if (is_unknown s.phase (role_now s) (class_is q code i)) read) slot (now i)) s.control)
        ∙ ap (λ (b : Bool). after (Takes (seen_if b read) slot true) s.control) is_seen.known

-- ---- what they give

module _ (q : Exclusive) (code : ErrCode) (slot : ℕ) (response : Response) (h : HeldKeyed) (goes : lasts h ≡ true) (now : is_quiet h.end.phase ≡ true)
    (none : h.kept ≡ None) where
  abbrev seen_read : CtrlRead
  seen_read = rejection_read q code

  seen_here : IsSeen h.end.phase h.end.role
  seen_here = seen_by h.end.phase h.end.role now

  handed_it : taking.is_handed seen_read h ≡ true
  handed_it =
      (λ i. goes i && (allows h.end.phase h.end.role (class_is q code i) && (not (keeps_class (class_is q code i) h.end.role (is_quiet h.end.phase))
      && not (is_open h.control.table.closing && (nat_le 16 (waiting_in h.control.table.queue)
      && none_answers h.end.role (opcode_of_kind q) code.0 h.end.phase i)))))
      ∙ (λ i. seen_here.allowed i && not (no_inner (is_open h.control.table.closing) (nat_le 16 (waiting_in h.control.table.queue)) i))

  answers_none : (q : Exclusive) (role : Role) (refused : Bool) (x : HeldKeyed)
      → taking.answering_at role refused response (RejectExtInd (opcode_of_kind q) code.0) x ≡ x
  answers_none Update Central refused x = refl
  answers_none Request Central refused x = refl
  answers_none Map Central refused x = refl
  answers_none Phy Central refused x = refl
  answers_none q Peripheral refused x = refl

  abbrev handed_so : HeldKeyed
  handed_so = taking.handing slot seen_read h

  kept_none : (if lasts handed_so then taking.kept_taken_if_quiet slot (taking.handed_answered slot response seen_read h) else nothing_taken) ≡ nothing_taken
  kept_none =
      ap (λ (x : HeldKeyed). if lasts handed_so then taking.kept_taken_if_quiet slot x else nothing_taken)
      (answers_none q handed_so.end.role (taking.is_refused (taking.handed_taken slot seen_read h).refused) handed_so)
      ∙ ap (λ (kept : Option Ctrl). if lasts handed_so
      then (if is_quiet handed_so.end.phase then taking.kept_taken slot kept handed_so else nothing_taken) else nothing_taken) none
      ∙ ap (λ (taken : Taken). if lasts handed_so then taken else nothing_taken) (same_if (is_quiet handed_so.end.phase) nothing_taken)
      ∙ same_if (lasts handed_so) nothing_taken

  taken_is : taking.handed_taken slot seen_read h ≡ taken_of seen_read slot true h.control
  taken_is =
      (λ i. taken_of (seen_if (is_unknown h.end.phase h.end.role (class_is q code i)) seen_read) slot (now i) h.control)
      ∙ ap (λ (b : Bool). taken_of (seen_if b seen_read) slot true h.control) seen_here.known

  pub gives : taking.taken_keyed slot response seen_read h ≡ record { taken = taken_of seen_read slot true h.control; kept = nothing_taken }
  gives =
      ap (λ (b : Bool). if b then taking.handed_keyed slot response seen_read h else taking.nothing_keyed) handed_it
      ∙ (λ i. record { taken = taken_is i; kept = kept_none i })
