-- No step of a joint run ends the link by a message integrity failure.
use Rattle.std.proofs.Common.{◌≡◌, ℕ, Bool, true, false, refl, ap, ◌∙◌, if◌then◌else◌}
use Rattle.std.proofs.lemmas.Bool.{and_parts, or_from}
use Rattle.ble_base.specs.declared.roles.Role.TheVariants.{Central as central_role, Peripheral as peripheral_role}
use Rattle.data_pdu.specs.declared.ctrl.Ctrl.{Ctrl}
use Rattle.phase_pairs.specs.enc_phase.declared.classes.PduClass.{PduClass}
use Rattle.phase_pairs.specs.enc_phase.declared.classes.PduClass.TheVariants.{Data as data_class}
use Rattle.phase_pairs.specs.enc_phase.Taking.{allows, ctrl_class}
use Rattle.phase_pairs.specs.declared.joint.PhaseLink.{PhaseLink}
use Rattle.joint_controls.specs.phased_control.Taken.{PhasedStep, Response, Enters, SeesAcknowledged, Sends, phased_after, role_now}
use Rattle.joint_controls.specs.Joint.{HostStep, Joint, JointStep, Way, AnswersRequest, AsksFor, CentralAcked, CentralEnters, CentralHost, CentralSends, CentralSendsData, CentralTakes, Clear, Control, Data, Ends, Fixed, HasKey, HasNoKey, OnAir, PeripheralAcked, PeripheralEnters, PeripheralFixes, PeripheralFixesData, PeripheralHost, PeripheralSends, PeripheralTakes, Shuts, Taken, act, central_takes, host_step, is_running, item_on_air, may, may_act, no_response, peripheral_takes}
use Rattle.joint_phases.specs.Agreement.{ends_by_integrity_failure, is_allowed_right, is_integrity_failure, is_taken_right}
use Rattle.joint_phases.specs.Classes.{class_down, class_up}
use Rattle.joint_phases.specs.Facts.{Facts}
use Rattle.joint_phases.proofs.Agreeing.{taken_right}
use Rattle.joint_phases.proofs.Forged.{Lasts, data_lasts, none_lasts, takes_lasts, takes_none}
use Rattle.joint_phases.proofs.JointCentral.{runs}
use Rattle.joint_phases.proofs.Steps.{Shows}

host_takes_none : (step : HostStep) → takes_none (host_step step) ≡ true
host_takes_none (AsksFor ask) = refl
host_takes_none (AnswersRequest answer) = refl
host_takes_none (Ends reason) = refl
host_takes_none HasKey = refl
host_takes_none HasNoKey = refl

-- both ends last
abbrev BothLast : Joint → Type 0
BothLast s = Lasts s.central × Lasts s.peripheral

module _ (s : Joint) (both : BothLast s) where
  central_steps : (step : PhasedStep) → takes_none step ≡ true → Lasts (phased_after step s.central)
  central_steps step none = none_lasts step s.central none both.0

  peripheral_steps : (step : PhasedStep) → takes_none step ≡ true → Lasts (phased_after step s.peripheral)
  peripheral_steps step none = none_lasts step s.peripheral none both.1

  up_lasts : (w : Way) (slot : ℕ) (class_of : Ctrl → PduClass) → role_now s.central ≡ central_role
      → is_allowed_right central_role s.central.phase class_of (item_on_air w) ≡ true → BothLast (central_takes w slot s)
  up_lasts (OnAir Data sealed) slot class_of role right =
      (data_lasts s.central ((λ i. allows s.central.phase (role i) data_class) ∙ (and_parts (allows s.central.phase central_role data_class) _ right).0) both.0, both.1)
  up_lasts (OnAir (Control outgoing ctrl) sealed) slot class_of role right = (
    takes_lasts s.central ctrl no_response slot both.0
        ((λ i. allows s.central.phase (role i) (ctrl_class ctrl)) ∙ (and_parts (allows s.central.phase central_role (ctrl_class ctrl)) _ right).0),
    both.1,
  )
  up_lasts Clear slot class_of role right = both
  up_lasts (Fixed item sealed) slot class_of role right = both
  up_lasts (Taken item) slot class_of role right = both

  down_lasts : (w : Way) (slot : ℕ) (response : Response) (class_of : Ctrl → PduClass) → role_now s.peripheral ≡ peripheral_role
      → is_allowed_right peripheral_role s.peripheral.phase class_of (item_on_air w) ≡ true → BothLast (peripheral_takes w slot response s)
  down_lasts (OnAir Data sealed) slot response class_of role right =
      (both.0, data_lasts s.peripheral ((λ i. allows s.peripheral.phase (role i) data_class) ∙ (and_parts (allows s.peripheral.phase peripheral_role data_class) _ right).0) both.1)
  down_lasts (OnAir (Control outgoing ctrl) sealed) slot response class_of role right = (
    both.0,
    takes_lasts s.peripheral ctrl response slot both.1
        ((λ i. allows s.peripheral.phase (role i) (ctrl_class ctrl)) ∙ (and_parts (allows s.peripheral.phase peripheral_role (ctrl_class ctrl)) _ right).0),
  )
  down_lasts Clear slot response class_of role right = both
  down_lasts (Fixed item sealed) slot response class_of role right = both
  down_lasts (Taken item) slot response class_of role right = both

  step_lasts : (step : JointStep) → role_now s.central ≡ central_role → role_now s.peripheral ≡ peripheral_role → is_taken_right step s ≡ true → BothLast (act step s)
  step_lasts (CentralEnters slot) c p right = (central_steps (Enters slot) refl, both.1)
  step_lasts (CentralHost step) c p right = (central_steps (host_step step) (host_takes_none step), both.1)
  step_lasts (CentralSends slot) c p right = (central_steps (Sends slot) refl, both.1)
  step_lasts CentralSendsData c p right = both
  step_lasts CentralAcked c p right = (central_steps SeesAcknowledged refl, both.1)
  step_lasts (CentralTakes slot) c p right = up_lasts s.up slot (class_up s.peripheral.knows_version) c right
  step_lasts (PeripheralEnters slot) c p right = (both.0, peripheral_steps (Enters slot) refl)
  step_lasts (PeripheralHost step) c p right = (both.0, peripheral_steps (host_step step) (host_takes_none step))
  step_lasts (PeripheralFixes slot) c p right = (both.0, peripheral_steps (Sends slot) refl)
  step_lasts PeripheralFixesData c p right = both
  step_lasts PeripheralSends c p right = both
  step_lasts PeripheralAcked c p right = (both.0, peripheral_steps SeesAcknowledged refl)
  step_lasts (PeripheralTakes slot response) c p right = down_lasts s.down slot response (class_down s.central.knows_version) p right
  step_lasts Shuts c p right = both

pub unforged : (s : Joint) (m : PhaseLink) → Shows s m → is_running s ≡ true → Facts s → (step : JointStep) → may_act step s ≡ true
    → ends_by_integrity_failure (act step s) ≡ false
unforged s m shows running facts step comes =
    let r = runs s running in
    let both : BothLast s = (ap is_integrity_failure r.central, ap is_integrity_failure r.peripheral) in
    let h = step_lasts s both step shows.shown.central.role shows.shown.peripheral.role (taken_right s m shows running facts step comes) in
    or_from _ _ h.0 h.1

-- a step that may not come is none
after_by : (s : Joint) (step : JointStep) (b : Bool) → may step s ≡ b → ends_by_integrity_failure s ≡ false
    → (b ≡ true → ends_by_integrity_failure (act step s) ≡ false) → ends_by_integrity_failure (if b then act step s else s) ≡ false
after_by s step true at now then_after = then_after refl
after_by s step false at now then_after = now

pub never_forged : (s : Joint) (m : PhaseLink) → (is_running s ≡ true → Shows s m) → is_running s ≡ true → Facts s → (step : JointStep)
    → ends_by_integrity_failure (if may step s then act step s else s) ≡ false
never_forged s m shows running facts step =
    let r = runs s running in
    after_by s step (may step s) refl (or_from _ _ (ap is_integrity_failure r.central) (ap is_integrity_failure r.peripheral))
    (λ comes. unforged s m (shows running) running facts step (and_parts (is_running s) (may_act step s) comes).1)
