-- The control PDUs of one end: which of them a body is, which one goes next, and what is longest (Core 5.2, volume 6
-- part B, sections 2.4.2 and 4.5.10).
use Rattle.std.specs.Prelude.{ℕ, ◌==◌, ◌&&◌, ◌||◌, nat_lt, Bool, false, not, List, [], ◌∷◌, Option, Some, None, is_none, if◌then◌else◌}
use Rattle.data_pdu.specs.declared.ctrl.Ctrl.{Ctrl}
use Rattle.data_pdu.specs.declared.ctrl.CtrlRead.{CtrlRead}
use Rattle.data_pdu.specs.Layouts.{written}
use Rattle.data_pdu.specs.Reading.{ctrl_of}
use Rattle.phased_end.specs.enc_phase.Phases.{is_quiet}
use Rattle.ble_base.specs.Limits.{first_payload_octets}
use Rattle.phased_end.specs.control_end.procedure_values.declared.lengths.Lengths.{Lengths}
use Rattle.phased_end.specs.control_end.procedure_values.Limits.{rx_of, tx_of}
use Rattle.phased_end.specs.control_end.Answers.{next_ctrl}
use Rattle.phased_end.specs.control_end.Held.{held_of}
use Rattle.link_model.specs.Acknowledgement.{Pdu, empty_pdu}
use Rattle.link_model.specs.Data.{is_control, is_empty}
use Rattle.link_model.specs.Facts.{Facts}

-- ---- which control PDU a body is

abbrev pub read_of : Pdu → CtrlRead
read_of pdu = ctrl_of pdu.body

-- LL_TERMINATE_IND is the control PDU with this opcode (section 2.4.2.3)
abbrev pub begins_with : ℕ → List ℕ → Bool
begins_with opcode [] = false
begins_with opcode (octet ∷ octets) = octet == opcode

abbrev pub is_terminate : Pdu → Bool
is_terminate pdu = is_control pdu && begins_with 0x02 pdu.body

-- a control PDU has an octet at least: one without any counts as empty (our choice)
abbrev pub is_procedure_pdu : Pdu → Bool
is_procedure_pdu pdu = is_control pdu && not (is_empty pdu)

-- ---- which control PDU goes next

-- phase Clear or Secure
abbrev pub is_quiet_now : Facts → Bool
is_quiet_now facts = is_quiet facts.encryption.phase

abbrev pub next_control : Facts → Option Ctrl
next_control facts = next_ctrl (is_quiet_now facts) (held_of facts.control)

abbrev pub pdu_of_control : Option Ctrl → Pdu
pdu_of_control None = empty_pdu
pdu_of_control (Some ctrl) = record { llid = 3; body = written ctrl }

-- the PDU that goes out where the last one is acknowledged: a control PDU is made as it goes (our choice)
abbrev pub pdu_fixed : Facts → Pdu
pdu_fixed facts = if facts.fixes_control then pdu_of_control (next_control facts) else facts.outgoing.fixed

-- ---- the longest payloads

-- one of the effective lengths is over 27 octets
abbrev pub is_long : Lengths → Bool
is_long lengths = nat_lt first_payload_octets (rx_of lengths) || nat_lt first_payload_octets (tx_of lengths)

abbrev pub are_equal : Lengths → Lengths → Bool
are_equal one other = (rx_of one == rx_of other) && (tx_of one == tx_of other)

-- ---- whether the end goes on

-- none of its procedures ended the link
abbrev pub goes_on : Facts → Bool
goes_on facts = is_none facts.control.ends
