-- How what an end holds moves by the parts of its steps (Core 5.2, volume 6 part B, section 5.1.3).
use Rattle.std.specs.Prelude.{ℕ, Bool, true, false, ◌&&◌, List, Option, Some, None}
use Rattle.ble_base.specs.ErrorCodes.{pin_or_key_missing}
use Rattle.data_pdu.specs.declared.ctrl.Ctrl.{Ctrl}
use Rattle.data_pdu.specs.declared.ctrl.Ctrl.TheVariants.{PauseEncReq, RejectExtInd, StartEncReq, TerminateInd}
use Rattle.enc_phase.specs.declared.facts.PhaseFacts.{PhaseFacts}
use Rattle.enc_phase.specs.declared.facts.PhaseFacts.TheVariants.{Clear}
use Rattle.enc_phase.specs.declared.facts.Transition.{Transition}
use Rattle.enc_phase.specs.declared.facts.Transition.TheVariants.{Ask as AskTransition, Pause, Refuse}
use Rattle.procedures.specs.procedure_stages.Closing.{is_open}
use Rattle.procedures.specs.procedure_stages.Opcodes.{enc_req_opcode}
use Rattle.procedures.specs.procedure_values.declared.asks.Ask.{Ask}
use Rattle.procedures.specs.procedure_values.declared.asks.Ask.TheVariants.{Encrypt}
use Rattle.control_part.specs.control_end.control_model.Control.{Owes}
use Rattle.control_part.specs.control_end.Answers.{goes_on}
use Rattle.control_part.specs.control_end.Held.{held_after as control_after}
use Rattle.keyed_control.specs.Keyed.{session_of}
use Rattle.keyed_control.specs.KeyedSteps.{end_started, with_asked}
use Rattle.keyed_control.specs.phased_control.Phased.{asks_again, request_of}
use Rattle.phased_end.specs.Changes.{end_moved}
use Rattle.phased_end.specs.Held.{HeldKeyed, phased_of}

-- this end has not ended the link
abbrev pub lasts : HeldKeyed → Bool
lasts h = goes_on h.control

-- a PDU of the encryption is queued
abbrev pub owing : Ctrl → HeldKeyed → HeldKeyed
owing ctrl h = record h { control = control_after (Owes ctrl) h.control }

abbrev pub owing_if : Option Ctrl → HeldKeyed → HeldKeyed
owing_if None h = h
owing_if (Some ctrl) h = owing ctrl h

-- a transition is made, where it can be
abbrev pub moving : Transition → HeldKeyed → HeldKeyed
moving transition h = record h { end = end_moved transition h.end }

-- ---- keys

-- the host of a peripheral is asked for a key, and the link is not to end
abbrev pub awaits_key : HeldKeyed → Bool
awaits_key h = lasts h && (h.asks_key && is_open h.control.table.closing)

abbrev pub with_key_given : List ℕ → HeldKeyed → HeldKeyed
with_key_given ltk h =
    let material = record h.material { ltk = ltk } in
    owing StartEncReq (record h { asks_key = false; material = material; end = end_started (session_of material) h.end })

abbrev pub with_key_refused : Bool → HeldKeyed → HeldKeyed
with_key_refused true h =
    owing (RejectExtInd enc_req_opcode pin_or_key_missing) (moving Refuse (record h { asks_key = false }))
with_key_refused false h = owing (TerminateInd pin_or_key_missing) (record h { asks_key = false })

-- ---- an encryption begins at a central, or goes on after a pause

-- the first encryption that a host wants
abbrev pub is_encryption : Ask → Bool
is_encryption (Encrypt rand ediv ltk skd_m iv_m) = true
is_encryption ask = false

-- in phase Clear the central asks for encryption; in phase Secure it pauses it first
abbrev pub encrypting_in : PhaseFacts → HeldKeyed → HeldKeyed
encrypting_in Clear h = owing_if h.request (moving AskTransition h)
encrypting_in phase h = owing PauseEncReq (moving Pause h)

abbrev pub with_encryption : Option Ask → HeldKeyed → HeldKeyed
with_encryption asked h =
    encrypting_in h.end.phase (record h { request = request_of asked; material = with_asked asked h.material })

-- its LL_PAUSE_ENC_RSP was sent, and is acknowledged now
abbrev pub asks_again_now : HeldKeyed → Bool
asks_again_now h = lasts h && asks_again (phased_of h)

abbrev pub with_request_again : HeldKeyed → HeldKeyed
with_request_again h = owing_if h.request (moving AskTransition h)
