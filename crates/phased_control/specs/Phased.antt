-- The control part of one end of a link with its phase of encryption, and what the phase decides of each step that is no
-- PDU of the peer (Core 5.2, volume 6 part B, section 5.1.3).
use Rattle.std.specs.Prelude.{ℕ, Bool, true, false, ◌&&◌, Option, Some, None, if◌then◌else◌, is_some}
use Rattle.ble_base.specs.ErrorCodes.{pin_or_key_missing}
use Rattle.ble_base.specs.declared.procedure_kinds.Kind.{Kind}
use Rattle.ble_base.specs.declared.procedure_kinds.Kind.TheVariants.{Encrypt}
use Rattle.ble_base.specs.declared.roles.Role.{Role}
use Rattle.data_pdu.specs.declared.ctrl.Ctrl.{Ctrl}
use Rattle.data_pdu.specs.declared.ctrl.Ctrl.TheVariants.{EncReq, PauseEncReq, PauseEncRsp, RejectExtInd, StartEncReq, TerminateInd}
use Rattle.enc_phase.specs.declared.facts.PhaseFacts.{PhaseFacts}
use Rattle.enc_phase.specs.declared.facts.PhaseFacts.TheVariants.{Clear}
use Rattle.enc_phase.specs.declared.facts.Transition.TheVariants.{Ask as AskTransition, Pause, Refuse}
use Rattle.enc_phase.specs.Phases.{is_quiet, may_follow, phase_after, phase_starting}
use Rattle.instants.specs.declared.indications.Params.{Params}
use Rattle.instants.specs.Track.{next_number}
use Rattle.table_laws.specs.procedure_values.declared.asks.Ask.{Ask}
use Rattle.table_laws.specs.procedure_values.declared.asks.Ask.TheVariants.{Encrypt as ask_encrypt}
use Rattle.table_laws.specs.procedure_values.declared.drafts.Draft.TheVariants.{Cipher}
use Rattle.table_laws.specs.procedure_values.declared.drafts.Outgoing.{Outgoing}
use Rattle.table_laws.specs.procedure_values.declared.drafts.Outgoing.TheVariants.{Other}
use Rattle.table_laws.specs.procedure_stages.Closing.{is_open}
use Rattle.table_laws.specs.procedure_stages.Opcodes.{enc_req_opcode}
use Rattle.table_laws.specs.procedures.Beginning.{ask_at, begin_step, place_to_begin}
use Rattle.table_laws.specs.procedures.Going.{entered_step}
use Rattle.table_laws.specs.procedures.Table.{TableFacts}
use Rattle.control_model.specs.Control.{Control, Step, Enters, SeesAcknowledged, Owes, after, first_control}

pub record Phased : Type 0 where
  -- its procedures and its parameters
  pub control : Control
  pub phase : PhaseFacts
  -- the first PDU of a procedure of the peripheral that a central keeps until the phase is Clear or Secure (our choice)
  pub kept : Option Ctrl
  -- the host of a peripheral was asked for a key, and has not answered
  pub asks_key : Bool
  -- LL_ENC_REQ of the encryption that the central runs, with the values that its host asked for
  pub request : Option Ctrl
  -- LL_VERSION_IND of the peer was taken
  pub knows_version : Bool

-- an end as the link begins: with this role, the most octets that it receives, its first parameters and first anchor
abbrev pub first_phased : Role → ℕ → Params → ℕ → Phased
first_phased role max_rx first slot =
    record {
      control = first_control role max_rx first slot;
      phase = Clear;
      kept = None;
      asks_key = false;
      request = None;
      knows_version = false;
    }

-- ---- steps of procedures and parameters, in this phase

abbrev pub with_step : Step → Phased → Phased
with_step step s = record s { control = after step s.control }

-- a PDU of the encryption is queued
abbrev pub with_owed : Ctrl → Phased → Phased
with_owed ctrl s = with_step (Owes ctrl) s

abbrev pub with_owed_if : Option Ctrl → Phased → Phased
with_owed_if None s = s
with_owed_if (Some ctrl) s = with_owed ctrl s

abbrev pub is_quiet_now : Phased → Bool
is_quiet_now s = is_quiet s.phase

-- no LL_TERMINATE_IND was queued or taken
abbrev pub is_open_now : Phased → Bool
is_open_now s = is_open s.control.table.closing

-- ---- an event is entered, and an encryption may begin (sections 5.1.3.1 and 5.1.3.2)

abbrev pub request_of : Option Ask → Option Ctrl
request_of (Some (ask_encrypt rand ediv ltk skd_m iv_m)) = Some (EncReq rand ediv skd_m iv_m)
request_of other = None

abbrev pub is_encrypt : Option Kind → Bool
is_encrypt (Some Encrypt) = true
is_encrypt other = false

-- the table as the event is entered, before a procedure begins
abbrev pub table_entered : Phased → TableFacts
table_entered s = (entered_step s.control.table (is_some (next_number s.control.track))).0

-- what begins, as the host asked for it
abbrev pub ask_begun : TableFacts → Bool → Option Ask
ask_begun f quiet = ask_at (place_to_begin f quiet) f.wanted

-- in phase Clear the central asks for encryption; in phase Secure it pauses it first
abbrev pub encrypting : PhaseFacts → Phased → Phased
encrypting Clear s = with_owed_if s.request (record s { phase = phase_after AskTransition s.phase })
encrypting phase s = with_owed PauseEncReq (record s { phase = phase_after Pause s.phase })

abbrev pub encrypting_if : Bool → Option Ctrl → Phased → Phased
encrypting_if true request s = encrypting s.phase (record s { request = request })
encrypting_if false request s = s

abbrev pub entered : ℕ → Phased → Phased
entered slot s =
    let table = table_entered s in
    encrypting_if (is_encrypt (begin_step table slot (is_quiet_now s)).1) (request_of (ask_begun table (is_quiet_now s)))
    (with_step (Enters slot (is_quiet_now s)) s)

-- ---- what is acknowledged: after its LL_PAUSE_ENC_RSP a central asks for encryption again (section 5.1.3.2)

abbrev pub is_pause_rsp : Outgoing → Bool
is_pause_rsp (Other (Cipher PauseEncRsp)) = true
is_pause_rsp other = false

abbrev pub asking_if : Bool → Phased → Phased
asking_if true s = with_owed_if s.request (record s { phase = phase_after AskTransition s.phase })
asking_if false s = s

-- only a central in phase HalfClear may ask then
abbrev pub asks_again : Phased → Bool
asks_again s = is_pause_rsp s.control.table.out && (may_follow AskTransition s.phase && (is_open_now s && is_some s.request))

abbrev pub acknowledged : Phased → Phased
acknowledged s = asking_if (asks_again s) (with_step SeesAcknowledged s)

-- ---- the host of a peripheral has a key or none (section 5.1.3.1)

-- with a key a session begins
abbrev pub key_given : Phased → Phased
key_given s = with_owed StartEncReq (record s { asks_key = false; phase = phase_starting s.phase })

-- a start is refused; after a pause the link ends
abbrev pub refused_if : Bool → Phased → Phased
refused_if true s =
    with_owed (RejectExtInd enc_req_opcode pin_or_key_missing)
    (record s { asks_key = false; phase = phase_after Refuse s.phase })
refused_if false s = with_owed (TerminateInd pin_or_key_missing) (record s { asks_key = false })

abbrev pub key_lacking : Phased → Phased
key_lacking s = refused_if (may_follow Refuse s.phase) s

-- the answer counts only while it is asked for and the link is not to end
abbrev pub if_key_asked : Phased → Phased → Phased
if_key_asked then_after s = (if s.asks_key && is_open_now s then then_after else s)
