-- What an end holds and notes as it sends its packet (Core 5.2, volume 6 part B, section 4.5.9).
use Rattle.std.specs.Prelude.{ℕ, ◌&&◌, not, Bool, false, List, if◌then◌else◌}
use Rattle.ble_base.specs.declared.notes.Note.{Note}
use Rattle.control_end.specs.Answers.{next_ctrl}
use Rattle.link_model.specs.phased_end.Answers.{quiet_now}
use Rattle.link_model.specs.phased_end.Held.{HeldKeyed, held_after}
use Rattle.link_model.specs.phased_end.keyed_control.KeyedSteps.{Sends}
use Rattle.link_model.specs.Acknowledgement.{Pdu, empty_pdu}
use Rattle.link_model.specs.Data.{is_data, is_empty}
use Rattle.link_model.specs.Events.{event_sent}
use Rattle.link_model.specs.Controls.{pdu_of_control}
use Rattle.link_model.specs.Payload.{end_sending, payload_made}
use Rattle.link_model.specs.Sending.{leaving_sent, seals_new, sent_notes_if}
use Rattle.link_end.specs.Held.{Held, count_if}

-- the PDU that goes out where the last one is acknowledged: a control PDU is made as it goes (our choice)
abbrev pub pdu_fixed : Held → Pdu
pdu_fixed held =
    if held.fixes_control then pdu_of_control (next_ctrl (quiet_now held.control) held.control.control) else held.fixed

-- ---- first the control PDU that is fixed leaves the queue

-- it does where the last PDU is acknowledged
abbrev pub takes_leave : Held → Bool
takes_leave held = held.is_acked && held.fixes_control

-- it counts as first sent from here on, or does not leave
abbrev pub held_gone_if : Bool → ℕ → Held → Held
held_gone_if goes slot held =
    record held {
      control = (if goes then held_after (Sends slot) held.control else held.control);
      fixed = (if goes then pdu_fixed held else held.fixed);
      fixes_control = (if goes then false else held.fixes_control);
    }

abbrev pub held_gone : ℕ → Held → Held
held_gone slot held = held_gone_if (takes_leave held) slot held

-- ---- then the end sends

-- the PDU of its packet: the last one again until that is acknowledged, and then the fixed one
abbrev pub pdu_out : Held → Pdu
pdu_out held = if held.is_acked then held.fixed else held.last

-- MD: a further PDU waited as the turn began (section 4.5.6)
abbrev pub more_out : Held → Bool
more_out held = if held.is_acked then held.more else held.more_again

-- the PDU that it sends first in this packet is not empty
abbrev pub numbers_next : Held → Bool
numbers_next held = held.is_acked && not (is_empty held.fixed)

-- it is data
abbrev pub carries_next : Held → Bool
carries_next held = held.is_acked && is_data held.fixed

-- the payload of its packet: it is made as the PDU is first sent, and the same octets are sent again
abbrev pub payload_out : Held → List ℕ
payload_out held = if held.is_acked then payload_made held.control.end held.fixed else held.payload

-- a new PDU that is not empty takes a counter, where it is sealed
abbrev pub control_sealed : Held → HeldKeyed
control_sealed held =
    record held.control { end = end_sending (seals_new held.is_acked held.fixed) held.control.end }

-- a new PDU is the last one then
abbrev pub with_next_sent : Held → Held
with_next_sent held =
    record held {
      control = control_sealed held;
      is_acked = false;
      last = pdu_out held;
      payload = payload_out held;
      fixed = (if held.is_acked then empty_pdu else held.fixed);
      more = (if held.is_acked then false else held.more);
      sent = count_if (numbers_next held) held.sent;
    }

-- and the first exchange of the event may have said that more waits
abbrev pub held_out : ℕ → Held → Held
held_out slot held =
    record (with_next_sent held) {
      event = event_sent slot (more_out held) held.event;
      leaving = leaving_sent held.leaving;
    }

-- a new PDU that is not empty is noted with its number
abbrev pub sent_notes : Held → List Note
sent_notes held = sent_notes_if (numbers_next held) held.setup.link.handle held.sent held.fixed
