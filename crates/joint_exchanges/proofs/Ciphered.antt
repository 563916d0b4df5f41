-- What the phase of an end makes of a PDU of the encryption keeps all that queueing such a PDU and a change of the phase
-- keep.
use Rattle.std.proofs.Common.{◌≡◌, Bool, true, false, if◌then◌else◌, Option, Some, None, refl, sym, subst}
use Rattle.ble_base.specs.declared.roles.Role.{Role}
use Rattle.ble_base.specs.declared.roles.Role.TheVariants.{Central, Peripheral}
use Rattle.data_pdu.specs.declared.ctrl.Ctrl.{Ctrl}
use Rattle.data_pdu.specs.declared.ctrl.Ctrl.TheVariants.{EncReq, PauseEncReq, PauseEncRsp, StartEncReq, StartEncRsp}
use Rattle.data_pdu.specs.declared.ctrl.CtrlRead.{CtrlRead}
use Rattle.data_pdu.specs.declared.ctrl.CtrlRead.TheVariants.{Bare, Known, Unknown}
use Rattle.joint_controls.specs.enc_phase.declared.classes.PduClass.{PduClass}
use Rattle.joint_controls.specs.enc_phase.declared.classes.PduClass.TheVariants.{Refusal}
use Rattle.joint_controls.specs.enc_phase.declared.facts.PhaseFacts.{PhaseFacts}
use Rattle.joint_controls.specs.enc_phase.declared.facts.Transition.{Transition}
use Rattle.joint_controls.specs.enc_phase.declared.facts.Transition.TheVariants.{Ask as AskTransition, Confirm, Pause, Unlock}
use Rattle.joint_controls.specs.enc_phase.Phases.{is_asked, may_follow, phase_after, phase_starting}
use Rattle.joint_controls.specs.enc_phase.Taking.{ctrl_class}
use Rattle.joint_controls.specs.table_laws.Encrypting.{has_encryption}
use Rattle.exchange_steps.specs.Steps.{step_of_given}
use Rattle.joint_controls.specs.phased_control.Phased.{Phased, is_open_now, with_owed}
use Rattle.joint_controls.specs.phased_control.Taken.{Response, ciphered, ciphered_at, ciphered_at_central, ciphered_at_peripheral, moved_if, moved_to, refused_by, response_ctrl, role_now}
use Rattle.joint_exchanges.specs.SentByRole.{is_cipher_of}

pub choice : {A : Type 0} (P : A → Type 0) (b : Bool) (x y : A) → P x → P y → P (if b then x else y)
choice P true x y hx hy = hx
choice P false x y hx hy = hy

pub record Steady (role : Role) (P : Phased → Type 0) : Type 0 where
  pub owes : (ctrl : Ctrl) (s : Phased) → is_cipher_of role ctrl ≡ true → step_of_given ctrl ≡ None → P s → P (with_owed ctrl s)
  pub phases : (phase : PhaseFacts) (s : Phased) → P s → P (record s { phase = phase })
  pub keys : role ≡ Peripheral → (asks : Bool) (s : Phased) → P s → P (record s { asks_key = asks })

abbrev IsOwed : Role → Option Ctrl → Type 0
IsOwed role None = Unit {0}
IsOwed role (Some ctrl) = (is_cipher_of role ctrl ≡ true) × (step_of_given ctrl ≡ None)

module _ (role : Role) (P : Phased → Type 0) (k : Steady role P) where
  moved_keeps : (transition : Transition) (owed : Option Ctrl) (s : Phased) → IsOwed role owed → P s → P (moved_to transition owed s)
  moved_keeps transition None s is h = k.phases _ s h
  moved_keeps transition (Some ctrl) s is h = k.owes ctrl (record s { phase = phase_after transition s.phase }) is.0 is.1 (k.phases _ s h)

  moved_if_keeps : (transition : Transition) (owed : Option Ctrl) (s : Phased) → IsOwed role owed → P s → P (moved_if transition owed s)
  moved_if_keeps transition owed s is h = choice P (may_follow transition s.phase) (moved_to transition owed s) s (moved_keeps transition owed s is h) h

  refused_keeps : (class : PduClass) (s : Phased) → P s → P (refused_by class s)
  refused_keeps Refusal s h = choice P (has_encryption s.control.table.progress) s _ h (k.phases _ s h)
  refused_keeps class s h = h

central_keeps : (P : Phased → Type 0) → Steady Central P → (ctrl : Ctrl) (s : Phased) → P s → P (ciphered_at_central ctrl s)
central_keeps P k StartEncReq s h =
    choice P (is_asked s.phase) (with_owed StartEncRsp (record s { phase = phase_starting s.phase })) s (k.owes StartEncRsp (record s { phase = phase_starting s.phase }) refl refl (k.phases _ s h)) h
central_keeps P k StartEncRsp s h = moved_if_keeps Central P k Confirm None s tt h
central_keeps P k PauseEncRsp s h = moved_if_keeps Central P k Unlock (Some PauseEncRsp) s (refl, refl) h
central_keeps P k ctrl s h = refused_keeps Central P k (ctrl_class ctrl) s h

peripheral_keeps : (P : Phased → Type 0) → Steady Peripheral P → (response : Response) (ctrl : Ctrl) (s : Phased) → P s → P (ciphered_at_peripheral response ctrl s)
peripheral_keeps P k response (EncReq rand ediv skd_m iv_m) s h =
    choice P (may_follow AskTransition s.phase) (moved_to AskTransition (Some (response_ctrl response)) (record s { asks_key = is_open_now s })) s
    (moved_keeps Peripheral P k AskTransition (Some (response_ctrl response)) (record s { asks_key = is_open_now s }) (refl, refl) (k.keys refl _ s h)) h
peripheral_keeps P k response PauseEncReq s h = moved_if_keeps Peripheral P k Pause (Some PauseEncRsp) s (refl, refl) h
peripheral_keeps P k response StartEncRsp s h = moved_if_keeps Peripheral P k Confirm (Some StartEncRsp) s (refl, refl) h
peripheral_keeps P k response PauseEncRsp s h = moved_if_keeps Peripheral P k Unlock None s tt h
peripheral_keeps P k response ctrl s h = h

at_keeps : (role : Role) (P : Phased → Type 0) → Steady role P → (response : Response) (ctrl : Ctrl) (s : Phased) → P s → P (ciphered_at role response ctrl s)
at_keeps Central P k response ctrl s h = central_keeps P k ctrl s h
at_keeps Peripheral P k response ctrl s h = peripheral_keeps P k response ctrl s h

pub ciphered_keeps : (role : Role) (P : Phased → Type 0) → Steady role P → (response : Response) (read : CtrlRead) (s : Phased) → role_now s ≡ role
    → P s → P (ciphered response read s)
ciphered_keeps role P k response (Known ctrl) s r h =
    subst (λ (x : Role). P (ciphered_at x response ctrl s)) (sym r) (at_keeps role P k response ctrl s h)
ciphered_keeps role P k response (Unknown opcode) s r h = h
ciphered_keeps role P k response Bare s r h = h
