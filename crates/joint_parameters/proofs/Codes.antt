-- No step of a central ends the link for an instant that has passed.
use Rattle.std.proofs.Common.{◌≡◌, ℕ, ◌==◌, Bool, true, false, if◌then◌else◌, List, [], ◌∷◌, Option, Some, None, is_none, refl, sym, subst}
use Rattle.ble_base.specs.ErrorCodes.{instant_passed, memory_capacity_exceeded, mic_failure}
use Rattle.ble_base.specs.declared.error_codes.ErrCode.{ErrCode}
use Rattle.ble_base.specs.declared.roles.Role.{Role}
use Rattle.ble_base.specs.declared.roles.Role.TheVariants.{Central, Peripheral}
use Rattle.data_pdu.specs.declared.ctrl.CtrlRead.{CtrlRead}
use Rattle.data_pdu.specs.declared.ctrl.CtrlRead.TheVariants.{Known, Unknown, Bare}
use Rattle.joint_controls.specs.enc_phase.declared.classes.PduClass.TheVariants.{Data}
use Rattle.joint_controls.specs.enc_phase.Taking.{allows}
use Rattle.instants.specs.declared.indications.Indication.{Indication}
use Rattle.instants.specs.declared.indications.Params.{Params}
use Rattle.joint_controls.specs.procedure_stages.Kinds.{role_of}
use Rattle.joint_controls.specs.control_model.Control.{Control, Step, after, after_all, moved}
use Rattle.joint_controls.specs.control_model.Control.{Answers as control_answers, Asks as control_asks, Disconnects as control_disconnects, Enters as control_enters, Owes, SeesAcknowledged as control_sees_acknowledged, Sends as control_sends, Takes as control_takes}
use Rattle.joint_controls.specs.phased_control.Phased.{Phased, first_phased}
use Rattle.joint_controls.specs.phased_control.Taken.{PhasedStep, Takes, TakesData, does_keep, is_allowed, lacks_room_now, phased_after, phased_after_all, phased_moved, role_now}
use Rattle.joint_controls.specs.phased_control.Steps.{code_if, control_steps, end_by_phase, ended_if}
use Rattle.joint_controls.proofs.phased_control.Moving.{moves_by_steps}
use Rattle.joint_controls.proofs.control_model.Moving.{same_role}
use Rattle.joint_parameters.proofs.Ends.{ends_all, is_taking}
use Rattle.joint_parameters.proofs.Outcomes.{IsOther, indication_by}
use Rattle.joint_parameters.proofs.Taking.{TakenAs, takes_as}
use Rattle.std.proofs.Common.{inl, inr}

abbrev pub IsOtherAt : Control → Type 0
IsOtherAt c = (role_of c.table.progress ≡ Central) × IsOther c.ends

other_by : (b : Bool) → (b ≡ true → false ≡ true) → b ≡ false
other_by true h = absurd (let no : false ≡ true = h refl in cc)
other_by false h = refl

other_code : (c d : Control) → TakenAs None c d → IsOther d.ends
other_code c d (inl over) = rw over.is (other_by (over.code.0 == instant_passed) over.over)
other_code c d (inr goes) = rw goes.lasts tt

none_at : (role : Role) (read : CtrlRead) → role ≡ Central → indication_by role read ≡ None
none_at Central (Known ctrl) is = refl
none_at Central (Unknown opcode) is = refl
none_at Central Bare is = refl
none_at Peripheral read is = absurd (cc)

taking_other : (c : Control) (read : CtrlRead) (slot : ℕ) (quiet : Bool) → role_of c.table.progress ≡ Central → c.ends ≡ None
    → IsOther (after (control_takes read slot quiet) c).ends
taking_other c read slot quiet at lasts =
    other_code c (after (control_takes read slot quiet) c)
    (subst (λ (i : Option Indication). TakenAs i c (after (control_takes read slot quiet) c)) (none_at (role_of c.table.progress) read at)
    (takes_as c read slot quiet lasts))

other_kept : (step : Step) (c : Control) → is_taking step ≡ false → IsOther c.ends → IsOther (after step c).ends
other_kept step c is other = subst IsOther (sym (ends_all (step ∷ []) c (is, tt))) other

other_step : (ends : Option ErrCode) (step : Step) (c : Control) → c.ends ≡ ends → IsOtherAt c → IsOther (after step c).ends
other_step (Some code) step c is at =
    subst (λ (e : Option ErrCode). IsOther (if is_none e then moved step c else c).ends) (sym is) at.1
other_step None (control_takes read slot quiet) c is at = taking_other c read slot quiet at.0 is
other_step None (control_enters slot quiet) c is at = other_kept (control_enters slot quiet) c refl at.1
other_step None (control_sends slot quiet) c is at = other_kept (control_sends slot quiet) c refl at.1
other_step None (control_asks ask) c is at = other_kept (control_asks ask) c refl at.1
other_step None (control_answers answer) c is at = other_kept (control_answers answer) c refl at.1
other_step None (control_disconnects reason) c is at = other_kept (control_disconnects reason) c refl at.1
other_step None control_sees_acknowledged c is at = other_kept control_sees_acknowledged c refl at.1
other_step None (Owes ctrl) c is at = other_kept (Owes ctrl) c refl at.1

other_steps : (steps : List Step) (c : Control) → IsOtherAt c → IsOtherAt (after_all steps c)
other_steps [] c at = at
other_steps (step ∷ steps) c at = other_steps steps (after step c) (same_role Central step c at.0, other_step c.ends step c refl at)

-- ---- with the phase

phase_other : (step : PhasedStep) (s : Phased) → IsOther (end_by_phase step s)
phase_other (Takes read slot response) s = by (is_allowed read s) (does_keep read s) (lacks_room_now read s)
  where
    by : (allowed keeps full : Bool)
        → IsOther (if allowed then (if keeps then None else code_if full memory_capacity_exceeded) else Some (record { 0 = mic_failure }))
    by false keeps full = refl
    by true true full = tt
    by true false true = refl
    by true false false = tt
phase_other TakesData s = by (allows s.phase (role_now s) Data)
  where
    by : (b : Bool) → IsOther (if b then None else Some (record { 0 = mic_failure }))
    by true = tt
    by false = refl
phase_other other s = tt

ended_other : (e : Option ErrCode) (c : Control) → IsOther e → IsOtherAt c → IsOtherAt (ended_if e c)
ended_other None c is at = at
ended_other (Some code) c is at = (at.0, is)

phased_other : (ends : Option ErrCode) (step : PhasedStep) (s : Phased) → s.control.ends ≡ ends → IsOtherAt s.control → IsOtherAt (phased_after step s).control
phased_other (Some code) step s is at =
    subst (λ (e : Option ErrCode). IsOtherAt (if is_none e then phased_moved step s else s).control) (sym is) at
phased_other None step s is at =
    subst IsOtherAt (sym (moves_by_steps step s is))
    (ended_other (end_by_phase step s) (after_all (control_steps step s) s.control) (phase_other step s) (other_steps (control_steps step s) s.control at))

all_other : (steps : List PhasedStep) (s : Phased) → IsOtherAt s.control → IsOtherAt (phased_after_all steps s).control
all_other [] s at = at
all_other (step ∷ steps) s at = all_other steps (phased_after step s) (phased_other s.control.ends step s refl at)

pub central_other : (max_rx : ℕ) (first : Params) (slot : ℕ) (steps : List PhasedStep) → IsOther (phased_after_all steps (first_phased Central max_rx first slot)).control.ends
central_other max_rx first slot steps = (all_other steps (first_phased Central max_rx first slot) (refl, tt)).1
