-- Which change of a phase a step of an end is, and which PDU of the encryption is owed with it (Core 5.2, volume 6 part
-- B, section 5.1.3).
use Rattle.std.specs.Prelude.{ℕ, Bool, true, ◌&&◌, List, [], ◌∷◌, ◌++◌, is_none, if◌then◌else◌}
use Rattle.ble_base.specs.declared.roles.Role.{Role}
use Rattle.ble_base.specs.declared.roles.Role.TheVariants.{Central, Peripheral}
use Rattle.data_pdu.specs.declared.ctrl.CtrlRead.{CtrlRead}
use Rattle.enc_phase.specs.declared.classes.PduClass.{PduClass}
use Rattle.enc_phase.specs.declared.classes.PduClass.TheVariants.{EncReq, EncRsp, PauseEncReq, PauseEncRsp, Refusal, StartEncReq, StartEncRsp}
use Rattle.enc_phase.specs.declared.facts.PhaseFacts.{PhaseFacts}
use Rattle.enc_phase.specs.declared.facts.PhaseFacts.TheVariants.{Clear}
use Rattle.enc_phase.specs.declared.facts.Transition.{Transition}
use Rattle.enc_phase.specs.declared.facts.Transition.TheVariants.{Ask, Confirm, Pause, Refuse, Unlock}
use Rattle.enc_phase.specs.Phases.{is_asked, may_follow, phase_after, phase_starting}
use Rattle.enc_phase.specs.Taking.{ctrl_class, phase_taking}
use Rattle.table_laws.specs.procedures.Beginning.{begin_step}
use Rattle.table_laws.specs.Encrypting.{has_encryption}
use Rattle.control_model.specs.Control.{Step, Owes}
use Rattle.phased_control.specs.Ciphers.{is_of_encryption}
use Rattle.phased_control.specs.Phased.{Phased, asks_again, is_encrypt, is_open_now, is_quiet_now, table_entered}
use Rattle.phased_control.specs.Steps.{seen_by_procedures}
use Rattle.phased_control.specs.Taken.{PhasedStep, Enters, GivesKey, LacksKey, SeesAcknowledged, Takes, class_of_read, does_keep, is_allowed, lacks_room_now, role_now}

-- ---- the changes

pub data Change : Type 0 where
  Stays : Change
  -- a PDU is taken, of which the phase keeps something in mind, or nothing
  Took : PduClass → Change
  -- a session begins
  Starts : Change
  Moves : Transition → Change

abbrev pub may_change : Change → PhaseFacts → Bool
may_change Starts phase = is_asked phase
may_change (Moves transition) phase = may_follow transition phase
may_change change phase = true

abbrev pub changed : Change → PhaseFacts → PhaseFacts
changed Stays phase = phase
changed (Took pdu) phase = phase_taking pdu phase
changed Starts phase = phase_starting phase
changed (Moves transition) phase = phase_after transition phase

-- ---- the PDU that is owed with a change

abbrev pub central_change_pdus : Change → List PduClass
central_change_pdus (Moves Ask) = EncReq ∷ []
central_change_pdus (Moves Pause) = PauseEncReq ∷ []
central_change_pdus (Moves Unlock) = PauseEncRsp ∷ []
central_change_pdus Starts = StartEncRsp ∷ []
central_change_pdus change = []

abbrev pub peripheral_change_pdus : Change → List PduClass
peripheral_change_pdus (Moves Ask) = EncRsp ∷ []
peripheral_change_pdus (Moves Refuse) = Refusal ∷ []
peripheral_change_pdus (Moves Confirm) = StartEncRsp ∷ []
peripheral_change_pdus (Moves Pause) = PauseEncRsp ∷ []
peripheral_change_pdus Starts = StartEncReq ∷ []
peripheral_change_pdus change = []

abbrev pub change_pdus : Role → Change → List PduClass
change_pdus Central change = central_change_pdus change
change_pdus Peripheral change = peripheral_change_pdus change

-- what steps queue of these PDUs
abbrev pub classes_if : Bool → PduClass → List PduClass
classes_if is pdu = (if is then pdu ∷ [] else [])

abbrev pub step_pdus : Step → List PduClass
step_pdus (Owes ctrl) = classes_if (is_of_encryption (ctrl_class ctrl)) (ctrl_class ctrl)
step_pdus step = []

abbrev pub all_step_pdus : List Step → List PduClass
all_step_pdus [] = []
all_step_pdus (step ∷ steps) = step_pdus step ++ all_step_pdus steps

-- ---- which change a step is

abbrev pub moves_if : Transition → PhaseFacts → Change
moves_if transition phase = (if may_follow transition phase then Moves transition else Stays)

abbrev pub starts_if : Bool → Change
starts_if is = (if is then Starts else Stays)

-- an encryption begins: in phase Secure it is paused first
abbrev pub first_change : PhaseFacts → Change
first_change Clear = Moves Ask
first_change phase = Moves Pause

-- a PDU is answered: a refusal counts where no encryption is in progress any more
abbrev pub central_change : PduClass → Bool → PhaseFacts → Change
central_change StartEncReq encrypts phase = starts_if (is_asked phase)
central_change StartEncRsp encrypts phase = moves_if Confirm phase
central_change PauseEncRsp encrypts phase = moves_if Unlock phase
central_change Refusal encrypts phase = (if encrypts then Stays else moves_if Refuse phase)
central_change pdu encrypts phase = Took pdu

abbrev pub peripheral_change : PduClass → PhaseFacts → Change
peripheral_change EncReq phase = moves_if Ask phase
peripheral_change PauseEncReq phase = moves_if Pause phase
peripheral_change StartEncRsp phase = moves_if Confirm phase
peripheral_change PauseEncRsp phase = moves_if Unlock phase
peripheral_change pdu phase = Took pdu

abbrev pub answer_change : Role → PduClass → Bool → PhaseFacts → Change
answer_change Central pdu encrypts phase = central_change pdu encrypts phase
answer_change Peripheral pdu encrypts phase = peripheral_change pdu phase

-- a PDU that ended the link as the procedures saw it is not answered
abbrev pub handed_change : CtrlRead → ℕ → Phased → Change
handed_change read slot s =
    (if is_none (seen_by_procedures read slot s).control.ends
    then answer_change (role_now s) (class_of_read read)
    (has_encryption (seen_by_procedures read slot s).control.table.progress) s.phase
    else Took (class_of_read read))

abbrev pub taken_change : CtrlRead → ℕ → Phased → Change
taken_change read slot s =
    (if is_allowed read s
    then (if does_keep read s then Took (class_of_read read)
    else (if lacks_room_now read s then Stays else handed_change read slot s))
    else Stays)

abbrev pub change_of : PhasedStep → Phased → Change
change_of (Enters slot) s =
    (if is_encrypt (begin_step (table_entered s) slot (is_quiet_now s)).1 then first_change s.phase else Stays)
change_of GivesKey s = starts_if (s.asks_key && is_open_now s)
change_of LacksKey s = (if s.asks_key && is_open_now s then moves_if Refuse s.phase else Stays)
change_of SeesAcknowledged s = (if asks_again s then Moves Ask else Stays)
change_of (Takes read slot response) s = taken_change read slot s
change_of step s = Stays
