-- What a PDU of the peer does to the control part of one end, by its phase of encryption, and all steps of that end (Core
-- 5.2, volume 6 part B, section 5.1.3; what a phase forbids is our choice).
use Rattle.std.specs.Prelude.{ℕ, nat_le, Bool, true, false, not, ◌&&◌, ◌||◌, List, [], ◌∷◌, Option, Some, None, Result, is_none, if◌then◌else◌}
use Rattle.ble_base.specs.ErrorCodes.{memory_capacity_exceeded, mic_failure}
use Rattle.ble_base.specs.declared.error_codes.ErrCode.{ErrCode}
use Rattle.ble_base.specs.declared.roles.Role.{Role}
use Rattle.ble_base.specs.declared.roles.Role.TheVariants.{Central, Peripheral}
use Rattle.data_pdu.specs.declared.ctrl.Ctrl.{Ctrl}
use Rattle.data_pdu.specs.declared.ctrl.Ctrl.TheVariants.{EncReq, EncRsp, PauseEncReq, PauseEncRsp, StartEncReq, StartEncRsp, VersionInd}
use Rattle.data_pdu.specs.declared.ctrl.CtrlRead.{CtrlRead}
use Rattle.data_pdu.specs.declared.ctrl.CtrlRead.TheVariants.{Bare, Known, Unknown}
use Rattle.data_pdu.specs.Reading.{opcode_of}
use Rattle.enc_phase.specs.declared.classes.PduClass.{PduClass}
use Rattle.enc_phase.specs.declared.classes.PduClass.TheVariants.{Data, Empty, Other, Refusal, Request}
use Rattle.enc_phase.specs.declared.facts.PhaseFacts.{PhaseFacts}
use Rattle.enc_phase.specs.declared.facts.Transition.{Transition}
use Rattle.enc_phase.specs.declared.facts.Transition.TheVariants.{Ask as AskTransition, Confirm, Pause, Refuse, Unlock}
use Rattle.enc_phase.specs.Phases.{is_asked, may_follow, phase_after, phase_starting}
use Rattle.enc_phase.specs.Taking.{allows, ctrl_class, is_unknown, phase_taking}
use Rattle.table_laws.specs.procedure_stages.Kinds.{role_of}
use Rattle.table_laws.specs.procedure_stages.Queue.{waiting_in}
use Rattle.table_laws.specs.procedure_values.declared.asks.Ask.{Ask}
use Rattle.table_laws.specs.Encrypting.{has_encryption}
use Rattle.control_model.specs.Control.{Answers as control_answers, Asks as control_asks, Disconnects as control_disconnects, Sends as control_sends, Takes as control_takes, ended}
use Rattle.phased_control.specs.Phased.{Phased, acknowledged, entered, if_key_asked, is_open_now, is_quiet_now, key_given, key_lacking, with_owed, with_step}

-- ---- what the phase makes of a PDU before the procedures see it

abbrev pub role_now : Phased → Role
role_now s = role_of s.control.table.progress

-- a PDU that is not supported is one of other procedures; one without an octet counts as empty (our choice)
abbrev pub class_of_read : CtrlRead → PduClass
class_of_read (Known ctrl) = ctrl_class ctrl
class_of_read (Unknown opcode) = Other
class_of_read Bare = Empty

abbrev pub is_allowed : CtrlRead → Phased → Bool
is_allowed read s = allows s.phase (role_now s) (class_of_read read)

abbrev pub ended_with : ℕ → Phased → Phased
ended_with code s = record s { control = ended (record { 0 = code }) s.control }

-- outside Clear and Secure a central keeps the first PDU of a procedure of the peripheral
abbrev pub keeps_class : PduClass → Role → Bool → Bool
keeps_class Request Central quiet = not quiet
keeps_class pdu role quiet = false

abbrev pub does_keep : CtrlRead → Phased → Bool
does_keep read s = keeps_class (class_of_read read) (role_now s) (is_quiet_now s)

abbrev pub ctrl_in : CtrlRead → Option Ctrl
ctrl_in (Known ctrl) = Some ctrl
ctrl_in read = None

-- the phase remembers what matters of a PDU
abbrev pub with_phase_taking : CtrlRead → Phased → Phased
with_phase_taking read s = record s { phase = phase_taking (class_of_read read) s.phase }

abbrev pub keeping : CtrlRead → Phased → Phased
keeping read s = record (with_phase_taking read s) { kept = ctrl_in read }

-- the procedures see a PDU of the encryption that has no meaning at an end as one that is not supported: it is answered
-- with LL_UNKNOWN_RSP
abbrev pub seen_if : Bool → CtrlRead → CtrlRead
seen_if true (Known ctrl) = Unknown (opcode_of ctrl)
seen_if unknown read = read

abbrev pub seen_as : CtrlRead → Phased → CtrlRead
seen_as read s = seen_if (is_unknown s.phase (role_now s) (class_of_read read)) read

-- ---- which PDU of the encryption answers it

-- a transition is made, and then a PDU is owed
abbrev pub moved_to : Transition → Option Ctrl → Phased → Phased
moved_to transition None s = record s { phase = phase_after transition s.phase }
moved_to transition (Some ctrl) s = with_owed ctrl (record s { phase = phase_after transition s.phase })

abbrev pub moved_if : Transition → Option Ctrl → Phased → Phased
moved_if transition owed s = (if may_follow transition s.phase then moved_to transition owed s else s)

-- what a peripheral draws for its LL_ENC_RSP: its half of the session key diversifier and of the initialization vector
pub record Response : Type 0 where
  pub skd_s : ℕ
  pub iv_s : ℕ

abbrev pub response_ctrl : Response → Ctrl
response_ctrl response = EncRsp response.skd_s response.iv_s

-- a session begins
abbrev pub started : Phased → Phased
started s = (if is_asked s.phase then with_owed StartEncRsp (record s { phase = phase_starting s.phase }) else s)

-- a peripheral asks its host for the key, unless the link is to end
abbrev pub asked : Response → Phased → Phased
asked response s =
    (if may_follow AskTransition s.phase
    then moved_to AskTransition (Some (response_ctrl response)) (record s { asks_key = is_open_now s })
    else s)

-- a start is refused where the procedures read it so: its LL_ENC_REQ was sent
abbrev pub refused_by : PduClass → Phased → Phased
refused_by Refusal s =
    (if has_encryption s.control.table.progress then s else record s { phase = phase_after Refuse s.phase })
refused_by pdu s = s

abbrev pub ciphered_at_central : Ctrl → Phased → Phased
ciphered_at_central StartEncReq s = started s
ciphered_at_central StartEncRsp s = moved_if Confirm None s
ciphered_at_central PauseEncRsp s = moved_if Unlock (Some PauseEncRsp) s
ciphered_at_central ctrl s = refused_by (ctrl_class ctrl) s

abbrev pub ciphered_at_peripheral : Response → Ctrl → Phased → Phased
ciphered_at_peripheral response (EncReq rand ediv skd_m iv_m) s = asked response s
ciphered_at_peripheral response PauseEncReq s = moved_if Pause (Some PauseEncRsp) s
ciphered_at_peripheral response StartEncRsp s = moved_if Confirm (Some StartEncRsp) s
ciphered_at_peripheral response PauseEncRsp s = moved_if Unlock None s
ciphered_at_peripheral response ctrl s = s

abbrev pub ciphered_at : Role → Response → Ctrl → Phased → Phased
ciphered_at Central response ctrl s = ciphered_at_central ctrl s
ciphered_at Peripheral response ctrl s = ciphered_at_peripheral response ctrl s

abbrev pub ciphered : Response → CtrlRead → Phased → Phased
ciphered response (Known ctrl) s = ciphered_at (role_now s) response ctrl s
ciphered response read s = s

-- ---- room for that answer

-- the PDUs of the encryption that are answered at once
abbrev pub is_answered_at : Role → Ctrl → PhaseFacts → Bool
is_answered_at Central StartEncReq phase = is_asked phase
is_answered_at Central PauseEncRsp phase = may_follow Unlock phase
is_answered_at Peripheral (EncReq rand ediv skd_m iv_m) phase = may_follow AskTransition phase
is_answered_at Peripheral PauseEncReq phase = may_follow Pause phase
is_answered_at Peripheral StartEncRsp phase = may_follow Confirm phase
is_answered_at role ctrl phase = false

abbrev pub is_answered : CtrlRead → Phased → Bool
is_answered (Known ctrl) s = is_answered_at (role_now s) ctrl s.phase
is_answered read s = false

-- an answer is owed while sixteen or more control PDUs wait (our choice)
abbrev pub lacks_room_now : CtrlRead → Phased → Bool
lacks_room_now read s =
    is_open_now s && (nat_le 16 (waiting_in s.control.table.queue) && is_answered read s)

-- ---- the version of the peer is known once the procedures have seen it

abbrev pub is_version : CtrlRead → Bool
is_version (Known (VersionInd version company sub)) = true
is_version read = false

abbrev pub knowing : CtrlRead → Phased → Phased
knowing read s = record s { knows_version = s.knows_version || is_version read }

-- ---- what was kept is answered, once the phase is Clear or Secure again

abbrev pub answered_kept : ℕ → Option Ctrl → Phased → Phased
answered_kept slot None s = s
answered_kept slot (Some ctrl) s = with_step (control_takes (Known ctrl) slot true) (knowing (Known ctrl) (record s { kept = None }))

abbrev pub answered_if_quiet : ℕ → Phased → Phased
answered_if_quiet slot s = (if is_quiet_now s then answered_kept slot s.kept s else s)

-- ---- a control PDU is taken

-- after the procedures have seen it; a PDU that ended the link does nothing more
abbrev pub goes_on : ℕ → Response → CtrlRead → Phased → Phased
goes_on slot response read s =
    (if is_none s.control.ends then answered_if_quiet slot (ciphered response read s) else s)

abbrev pub handed_on : ℕ → Response → CtrlRead → Phased → Phased
handed_on slot response read s =
    goes_on slot response read (with_phase_taking read (with_step (control_takes (seen_as read s) slot (is_quiet_now s)) (knowing read s)))

abbrev pub took_allowed : ℕ → Response → CtrlRead → Phased → Phased
took_allowed slot response read s =
    (if does_keep read s then keeping read s
    else (if lacks_room_now read s then ended_with memory_capacity_exceeded s else handed_on slot response read s))

abbrev pub took : ℕ → Response → CtrlRead → Phased → Phased
took slot response read s =
    (if is_allowed read s then took_allowed slot response read s else ended_with mic_failure s)

-- data that a phase forbids ends the link too
abbrev pub took_data : Phased → Phased
took_data s = (if allows s.phase (role_now s) Data then s else ended_with mic_failure s)

-- ---- every step

pub data PhasedStep : Type 0 where
  -- an event is entered, and then one procedure may begin
  Enters : (slot : ℕ) → PhasedStep
  -- the host asks for a procedure, or answers a request of the peripheral
  Asks : Ask → PhasedStep
  Answers : Result Ask ErrCode → PhasedStep
  -- the host of a peripheral has a key, or none
  GivesKey : PhasedStep
  LacksKey : PhasedStep
  -- the host ends the link
  Disconnects : ErrCode → PhasedStep
  -- a control PDU is first sent, in the event entered last
  Sends : (slot : ℕ) → PhasedStep
  -- the last PDU is acknowledged
  SeesAcknowledged : PhasedStep
  -- a control PDU of the peer is taken, with what a peripheral would draw to answer LL_ENC_REQ
  Takes : CtrlRead → (slot : ℕ) → (response : Response) → PhasedStep
  TakesData : PhasedStep

abbrev pub phased_moved : PhasedStep → Phased → Phased
phased_moved (Enters slot) s = entered slot s
phased_moved (Asks ask) s = with_step (control_asks ask) s
phased_moved (Answers answer) s = with_step (control_answers answer) s
phased_moved GivesKey s = if_key_asked (key_given s) s
phased_moved LacksKey s = if_key_asked (key_lacking s) s
phased_moved (Disconnects reason) s = with_step (control_disconnects reason) s
phased_moved (Sends slot) s = with_step (control_sends slot (is_quiet_now s)) s
phased_moved SeesAcknowledged s = acknowledged s
phased_moved (Takes read slot response) s = took slot response read s
phased_moved TakesData s = took_data s

-- nothing happens once the link ended
abbrev pub phased_after : PhasedStep → Phased → Phased
phased_after step s = (if is_none s.control.ends then phased_moved step s else s)

abbrev pub phased_after_all : List PhasedStep → Phased → Phased
phased_after_all [] s = s
phased_after_all (step ∷ steps) s = phased_after_all steps (phased_after step s)
