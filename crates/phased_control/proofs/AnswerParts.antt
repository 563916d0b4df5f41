-- What becomes of the phase of an end, and of its question for a key, as a PDU of the peer is answered (Core 5.2, volume
-- 6 part B, section 5.1.3).
use Rattle.std.specs.Prelude.{Bool, if◌then◌else◌}
use Rattle.ble_base.specs.declared.roles.Role.{Role}
use Rattle.ble_base.specs.declared.roles.Role.TheVariants.{Central, Peripheral}
use Rattle.data_pdu.specs.declared.ctrl.Ctrl.{Ctrl}
use Rattle.data_pdu.specs.declared.ctrl.Ctrl.TheVariants.{EncReq, PauseEncReq, PauseEncRsp, StartEncReq, StartEncRsp}
use Rattle.data_pdu.specs.declared.ctrl.CtrlRead.{CtrlRead}
use Rattle.data_pdu.specs.declared.ctrl.CtrlRead.TheVariants.{Known}
use Rattle.enc_phase.specs.declared.classes.PduClass.{PduClass}
use Rattle.enc_phase.specs.declared.classes.PduClass.TheVariants.{Refusal}
use Rattle.enc_phase.specs.declared.facts.PhaseFacts.{PhaseFacts}
use Rattle.enc_phase.specs.declared.facts.Transition.TheVariants.{Ask as AskTransition, Confirm, Pause, Refuse, Unlock}
use Rattle.enc_phase.specs.Phases.{may_follow, phase_after, phase_starting}
use Rattle.enc_phase.specs.Taking.{ctrl_class}

-- ---- as a PDU is answered, after the procedures have seen it

-- a refusal counts where no encryption is in progress any more
abbrev pub refused_phase : PduClass → Bool → PhaseFacts → PhaseFacts
refused_phase Refusal encrypts phase = (if encrypts then phase else phase_after Refuse phase)
refused_phase pdu encrypts phase = phase

abbrev pub central_phase : Ctrl → Bool → PhaseFacts → PhaseFacts
central_phase StartEncReq encrypts phase = phase_starting phase
central_phase StartEncRsp encrypts phase = phase_after Confirm phase
central_phase PauseEncRsp encrypts phase = phase_after Unlock phase
central_phase ctrl encrypts phase = refused_phase (ctrl_class ctrl) encrypts phase

abbrev pub peripheral_phase : Ctrl → PhaseFacts → PhaseFacts
peripheral_phase (EncReq rand ediv skd_m iv_m) phase = phase_after AskTransition phase
peripheral_phase PauseEncReq phase = phase_after Pause phase
peripheral_phase StartEncRsp phase = phase_after Confirm phase
peripheral_phase PauseEncRsp phase = phase_after Unlock phase
peripheral_phase ctrl phase = phase

abbrev pub ctrl_phase : Role → Ctrl → Bool → PhaseFacts → PhaseFacts
ctrl_phase Central ctrl encrypts phase = central_phase ctrl encrypts phase
ctrl_phase Peripheral ctrl encrypts phase = peripheral_phase ctrl phase

abbrev pub phase_answering : Role → CtrlRead → Bool → PhaseFacts → PhaseFacts
phase_answering role (Known ctrl) encrypts phase = ctrl_phase role ctrl encrypts phase
phase_answering role read encrypts phase = phase

-- ---- whether the host of a peripheral is asked for a key then

abbrev pub ctrl_key : Role → Ctrl → PhaseFacts → Bool → Bool → Bool
ctrl_key Peripheral (EncReq rand ediv skd_m iv_m) phase is_open key =
    (if may_follow AskTransition phase then is_open else key)
ctrl_key role ctrl phase is_open key = key

abbrev pub key_answering : Role → CtrlRead → PhaseFacts → Bool → Bool → Bool
key_answering role (Known ctrl) phase is_open key = ctrl_key role ctrl phase is_open key
key_answering role read phase is_open key = key
