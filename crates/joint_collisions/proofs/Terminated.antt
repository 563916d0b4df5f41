-- LL_TERMINATE_IND ends no link by a collision, and neither does data.
use Rattle.std.proofs.Common.{◌≡◌, ℕ, Bool, true, false, if◌then◌else◌, Option, Some, None, is_none, refl, sym, ap, subst, ◌∙◌}
use Rattle.ble_base.specs.ErrorCodes.{memory_capacity_exceeded, mic_failure}
use Rattle.ble_base.specs.declared.roles.Role.{Role}
use Rattle.ble_base.specs.declared.roles.Role.TheVariants.{Central, Peripheral}
use Rattle.data_pdu.specs.declared.ctrl.Ctrl.{Ctrl}
use Rattle.data_pdu.specs.declared.ctrl.Ctrl.TheVariants.{TerminateInd}
use Rattle.data_pdu.specs.declared.ctrl.CtrlRead.{CtrlRead}
use Rattle.data_pdu.specs.declared.ctrl.CtrlRead.TheVariants.{Known}
use Rattle.joint_controls.specs.enc_phase.declared.classes.PduClass.TheVariants.{Terminate}
use Rattle.joint_controls.specs.enc_phase.declared.facts.PhaseFacts.{PhaseFacts}
use Rattle.joint_controls.specs.enc_phase.declared.facts.PhaseFacts.TheVariants.{Clear, Secure}
use Rattle.joint_controls.specs.enc_phase.Taking.{is_unknown}
use Rattle.collision_steps.specs.procedure_stages.declared.steps.Step.{Step as TableStep}
use Rattle.collision_steps.specs.procedure_stages.Kinds.{role_of}
use Rattle.collision_steps.specs.procedures.Taking.{took_step}
use Rattle.collision_steps.proofs.Stopping.{told}
use Rattle.joint_controls.specs.control_model.Control.{Control, Takes, after, indicated_by, taken}
use Rattle.joint_controls.specs.control_model.Waits.{EndsByCollision}
use Rattle.joint_controls.proofs.control_model.Calls.{open_step}
use Rattle.joint_controls.specs.phased_control.Phased.{Phased, is_quiet_now}
use Rattle.joint_controls.specs.phased_control.Taken.{Response, answered_if_quiet, answered_kept, ciphered, ciphered_at, does_keep, ended_with, goes_on, handed_on, is_allowed, keeping, knowing, lacks_room_now, role_now, seen_if, took, took_allowed, took_data, with_phase_taking}
use Rattle.joint_controls.proofs.Keeping.{choice}
use Rattle.joint_collisions.proofs.CentralTakes.{not_forged, not_room}

abbrev Never : Phased → Type 0
Never s = EndsByCollision s.control.ends → ⊥

lasting : (s : Phased) → s.control.ends ≡ None → Never s
lasting s lasts met = subst EndsByCollision lasts met

terminate_known : (phase : PhaseFacts) (role : Role) → is_unknown phase role Terminate ≡ false
terminate_known Clear Central = refl
terminate_known Clear Peripheral = refl
terminate_known Secure Central = refl
terminate_known Secure Peripheral = refl
terminate_known phase role = refl

module _ (s : Phased) (lasts : s.control.ends ≡ None) (free : is_quiet_now s ≡ true → s.kept ≡ None) (slot code : ℕ) (response : Response) where
  abbrev read : CtrlRead
  read = Known (TerminateInd code)

  abbrev next_by : Bool → Control
  next_by unknown = after (Takes (seen_if unknown read) slot (is_quiet_now s)) s.control

  abbrev handed_by : Bool → Phased
  handed_by unknown = with_phase_taking read (record (knowing read s) { control = next_by unknown })

  next_lasts : (next_by false).ends ≡ None
  next_lasts =
      open_step (λ (d : Control). d.ends ≡ None) (Takes read slot (is_quiet_now s)) s.control lasts
      (ap (λ (step : TableStep). (taken (took_step s.control.table read slot (is_quiet_now s)).0 step.ends (indicated_by step.effect) s.control).ends)
      (told s.control.table slot code (is_quiet_now s)) ∙ lasts)

  same : (role : Role) (t : Phased) → ciphered_at role response (TerminateInd code) t ≡ t
  same Central t = refl
  same Peripheral t = refl

  kept_none : (kept : Option Ctrl) (t : Phased) → kept ≡ None → t.control.ends ≡ None → (answered_kept slot kept t).control.ends ≡ None
  kept_none None t none goes = goes
  kept_none (Some ctrl) t none goes = absurd (cc)

  answered : (quiet : Bool) → is_quiet_now s ≡ quiet → (if quiet then answered_kept slot s.kept (handed_by false) else handed_by false).control.ends ≡ None
  answered true is = kept_none s.kept (handed_by false) (free is) next_lasts
  answered false is = next_lasts

  ciphered_never : Never (answered_if_quiet slot (ciphered response read (handed_by false)))
  ciphered_never =
      subst (λ (t : Phased). Never (answered_if_quiet slot t)) (sym (same (role_now (handed_by false)) (handed_by false)))
      (lasting (answered_if_quiet slot (handed_by false)) (answered (is_quiet_now s) refl))

  handed_never : (unknown : Bool) → unknown ≡ false → Never (goes_on slot response read (handed_by unknown))
  handed_never true is = absurd (cc)
  handed_never false is =
      choice Never (is_none (next_by false).ends) (answered_if_quiet slot (ciphered response read (handed_by false))) (handed_by false) ciphered_never
      (lasting (handed_by false) next_lasts)

  pub terminated_never : Never (took slot response read s)
  terminated_never =
      choice Never (is_allowed read s) (took_allowed slot response read s) (ended_with mic_failure s)
      (choice Never (does_keep read s) (keeping read s) (if lacks_room_now read s then ended_with memory_capacity_exceeded s else handed_on slot response read s) (lasting (keeping read s) lasts)
      (choice Never (lacks_room_now read s) (ended_with memory_capacity_exceeded s) (handed_on slot response read s) not_room
      (handed_never (is_unknown s.phase (role_of s.control.table.progress) Terminate) (terminate_known s.phase (role_of s.control.table.progress)))))
      not_forged

  -- ---- data

  pub data_never : Never (took_data s)
  data_never = choice Never _ s (ended_with mic_failure s) (lasting s lasts) not_forged
