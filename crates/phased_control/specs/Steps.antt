-- Which steps of procedures and parameters a step of one end is, and with which code its phase ends the link (Core 5.2,
-- volume 6 part B, section 5.1.3; the codes are our choice).
use Rattle.std.specs.Prelude.{ℕ, Bool, true, false, ◌&&◌, List, [], ◌∷◌, ◌++◌, Option, Some, None, is_none, if◌then◌else◌}
use Rattle.ble_base.specs.ErrorCodes.{memory_capacity_exceeded, mic_failure, pin_or_key_missing}
use Rattle.ble_base.specs.declared.error_codes.ErrCode.{ErrCode}
use Rattle.ble_base.specs.declared.roles.Role.{Role}
use Rattle.ble_base.specs.declared.roles.Role.TheVariants.{Central, Peripheral}
use Rattle.data_pdu.specs.declared.ctrl.Ctrl.{Ctrl}
use Rattle.data_pdu.specs.declared.ctrl.Ctrl.TheVariants.{EncReq, PauseEncReq, PauseEncRsp, RejectExtInd, StartEncReq, StartEncRsp, TerminateInd}
use Rattle.data_pdu.specs.declared.ctrl.CtrlRead.{CtrlRead}
use Rattle.data_pdu.specs.declared.ctrl.CtrlRead.TheVariants.{Known}
use Rattle.enc_phase.specs.declared.classes.PduClass.TheVariants.{Data}
use Rattle.enc_phase.specs.declared.facts.PhaseFacts.{PhaseFacts}
use Rattle.enc_phase.specs.declared.facts.PhaseFacts.TheVariants.{Clear}
use Rattle.enc_phase.specs.declared.facts.Transition.TheVariants.{Ask as AskTransition, Confirm, Pause, Refuse, Unlock}
use Rattle.enc_phase.specs.Phases.{is_asked, may_follow}
use Rattle.enc_phase.specs.Taking.{allows}
use Rattle.table_laws.specs.procedure_stages.Opcodes.{enc_req_opcode}
use Rattle.table_laws.specs.procedures.Beginning.{begin_step}
use Rattle.control_model.specs.Control.{Control, Step, Owes, ended}
use Rattle.control_model.specs.Control.{Answers as control_answers, Asks as control_asks, Disconnects as control_disconnects, Enters as control_enters, SeesAcknowledged as control_sees_acknowledged, Sends as control_sends, Takes as control_takes}
use Rattle.phased_control.specs.Phased.{Phased, ask_begun, asks_again, is_encrypt, is_open_now, is_quiet_now, request_of, table_entered, with_step}
use Rattle.phased_control.specs.Taken.{PhasedStep, Response, Answers, Asks, Disconnects, Enters, GivesKey, LacksKey, SeesAcknowledged, Sends, Takes, TakesData, ciphered, does_keep, is_allowed, knowing, lacks_room_now, phased_after, response_ctrl, role_now, seen_as, with_phase_taking}

-- ---- the PDU of the encryption that is owed

abbrev pub owed_steps : Option Ctrl → List Step
owed_steps None = []
owed_steps (Some ctrl) = Owes ctrl ∷ []

abbrev pub ctrl_if : Bool → Ctrl → Option Ctrl
ctrl_if is ctrl = (if is then Some ctrl else None)

-- as an encryption begins in a phase, with this request
abbrev pub first_owed : PhaseFacts → Option Ctrl → Option Ctrl
first_owed Clear request = request
first_owed phase request = Some PauseEncReq

abbrev pub first_owed_if : Bool → PhaseFacts → Option Ctrl → Option Ctrl
first_owed_if true phase request = first_owed phase request
first_owed_if false phase request = None

-- as an event is entered
abbrev pub owed_entering : ℕ → Phased → Option Ctrl
owed_entering slot s =
    first_owed_if (is_encrypt (begin_step (table_entered s) slot (is_quiet_now s)).1) s.phase
    (request_of (ask_begun (table_entered s) (is_quiet_now s)))

-- as the last PDU is acknowledged
abbrev pub owed_acknowledged : Phased → Option Ctrl
owed_acknowledged s = (if asks_again s then s.request else None)

-- as the host of a peripheral lacks a key
abbrev pub owed_without_key : PhaseFacts → Ctrl
owed_without_key phase =
    (if may_follow Refuse phase then RejectExtInd enc_req_opcode pin_or_key_missing
    else TerminateInd pin_or_key_missing)

-- as a PDU of the peer is answered in a phase
abbrev pub central_answer : Ctrl → PhaseFacts → Option Ctrl
central_answer StartEncReq phase = ctrl_if (is_asked phase) StartEncRsp
central_answer PauseEncRsp phase = ctrl_if (may_follow Unlock phase) PauseEncRsp
central_answer ctrl phase = None

abbrev pub peripheral_answer : Response → Ctrl → PhaseFacts → Option Ctrl
peripheral_answer response (EncReq rand ediv skd_m iv_m) phase =
    ctrl_if (may_follow AskTransition phase) (response_ctrl response)
peripheral_answer response PauseEncReq phase = ctrl_if (may_follow Pause phase) PauseEncRsp
peripheral_answer response StartEncRsp phase = ctrl_if (may_follow Confirm phase) StartEncRsp
peripheral_answer response ctrl phase = None

abbrev pub ctrl_answer : Role → Response → Ctrl → PhaseFacts → Option Ctrl
ctrl_answer Central response ctrl phase = central_answer ctrl phase
ctrl_answer Peripheral response ctrl phase = peripheral_answer response ctrl phase

abbrev pub read_answer : Role → Response → CtrlRead → PhaseFacts → Option Ctrl
read_answer role response (Known ctrl) phase = ctrl_answer role response ctrl phase
read_answer role response read phase = None

-- ---- the steps

-- a PDU that was kept is taken in phase Clear or Secure
abbrev pub kept_steps : ℕ → Option Ctrl → List Step
kept_steps slot None = []
kept_steps slot (Some ctrl) = control_takes (Known ctrl) slot true ∷ []

-- as the procedures and the phase have seen a PDU, before it is answered
abbrev pub seen_by_procedures : CtrlRead → ℕ → Phased → Phased
seen_by_procedures read slot s =
    with_phase_taking read (with_step (control_takes (seen_as read s) slot (is_quiet_now s)) (knowing read s))

-- the answer to a PDU, and the PDU that was kept until then
abbrev pub later_steps : ℕ → Response → CtrlRead → Phased → List Step
later_steps slot response read s =
    owed_steps (read_answer (role_now s) response read s.phase)
    ++ (if is_quiet_now (ciphered response read s) then kept_steps slot s.kept else [])

abbrev pub handed_steps : ℕ → Response → CtrlRead → Phased → List Step
handed_steps slot response read s =
    control_takes (seen_as read s) slot (is_quiet_now s)
    ∷ (if is_none (seen_by_procedures read slot s).control.ends
    then later_steps slot response read (seen_by_procedures read slot s)
    else [])

-- nothing where the phase forbids or keeps the PDU, or there is no room for the answer
abbrev pub taken_steps : ℕ → Response → CtrlRead → Phased → List Step
taken_steps slot response read s =
    (if is_allowed read s
    then (if does_keep read s then [] else (if lacks_room_now read s then [] else handed_steps slot response read s))
    else [])

abbrev pub control_steps : PhasedStep → Phased → List Step
control_steps (Enters slot) s = control_enters slot (is_quiet_now s) ∷ owed_steps (owed_entering slot s)
control_steps (Asks ask) s = control_asks ask ∷ []
control_steps (Answers answer) s = control_answers answer ∷ []
control_steps GivesKey s = owed_steps (ctrl_if (s.asks_key && is_open_now s) StartEncReq)
control_steps LacksKey s = owed_steps (ctrl_if (s.asks_key && is_open_now s) (owed_without_key s.phase))
control_steps (Disconnects reason) s = control_disconnects reason ∷ []
control_steps (Sends slot) s = control_sends slot (is_quiet_now s) ∷ []
control_steps SeesAcknowledged s = control_sees_acknowledged ∷ owed_steps (owed_acknowledged s)
control_steps (Takes read slot response) s = taken_steps slot response read s
control_steps TakesData s = []

-- those of all steps, one after another; nothing happens once the link ended
abbrev pub steps_now : PhasedStep → Phased → List Step
steps_now step s = (if is_none s.control.ends then control_steps step s else [])

abbrev pub all_control_steps : List PhasedStep → Phased → List Step
all_control_steps [] s = []
all_control_steps (step ∷ steps) s = steps_now step s ++ all_control_steps steps (phased_after step s)

-- ---- the end of the link by its phase

abbrev pub code_if : Bool → ℕ → Option ErrCode
code_if is code = (if is then Some (record { 0 = code }) else None)

-- a PDU that the phase forbids, and one whose answer has no room
abbrev pub end_by_phase : PhasedStep → Phased → Option ErrCode
end_by_phase (Takes read slot response) s =
    (if is_allowed read s
    then (if does_keep read s then None else code_if (lacks_room_now read s) memory_capacity_exceeded)
    else Some (record { 0 = mic_failure }))
end_by_phase TakesData s = (if allows s.phase (role_now s) Data then None else Some (record { 0 = mic_failure }))
end_by_phase step s = None

-- the procedures and the parameters stay as they were
abbrev pub ended_if : Option ErrCode → Control → Control
ended_if None c = c
ended_if (Some code) c = ended code c
