-- What an end of a link holds (our choice).
use Rattle.std.specs.Prelude.{ℕ, ◌+◌, Bool, List, Option, Some, None, if◌then◌else◌}
use Rattle.ack_bit.specs.AckBits.{AckBits}
use Rattle.link_model.specs.phased_end.Held.{HeldKeyed, held_of as keyed_held}
use Rattle.link_model.specs.phased_end.keyed_control.declared.material.Response.{Response}
use Rattle.link_model.specs.Setup.{Setup}
use Rattle.link_model.specs.declared.events.ConnectionEvent.{ConnectionEvent}
use Rattle.link_model.specs.declared.events.Reception.{Reception}
use Rattle.link_model.specs.Acknowledgement.{Pdu, bits_of, is_acked}
use Rattle.link_model.specs.Data.{numbered}
use Rattle.link_model.specs.declared.state.KnownLengths.{KnownLengths}
use Rattle.link_model.specs.declared.state.Leaving.{Leaving}
use Rattle.link_model.specs.declared.state.PeerFacts.{PeerFacts}
use Rattle.link_model.specs.Facts.{Facts, keyed_of}

pub record Held : Type 0 where
  -- what it is set up with
  pub setup : Setup
  -- its procedures, its parameters and anchors, its phase of encryption with its keys, and the error with which it ended
  -- the link
  pub control : HeldKeyed
  -- what a peripheral would draw to answer LL_ENC_REQ
  pub response : Response
  pub peer : PeerFacts
  -- the event that was entered last, the longest payloads in it, and those that its host knows
  pub event : ConnectionEvent
  pub lengths : KnownLengths
  -- the two bits of acknowledgement, in place of the PDUs that they count
  pub bits : AckBits
  -- the PDU that it sent last is acknowledged
  pub is_acked : Bool
  -- the PDU that it sent last, with its payload as it was on the air, and the one that it sends next: the next control PDU, or this one
  pub last : Pdu
  pub payload : List ℕ
  pub fixed : Pdu
  pub fixes_control : Bool
  -- as that was fixed a further PDU waited after it, and one after the last PDU, where that is sent again
  pub more : Bool
  pub more_again : Bool
  -- how many PDUs that are not empty it sent, and how many it took
  pub sent : ℕ
  pub taken : ℕ
  -- the last good packet that it received
  pub last_good : Option Reception
  pub leaving : Leaving

-- what is held of these facts
abbrev pub held_of : Setup → Facts → Held
held_of setup facts =
    record {
      setup = setup;
      control = keyed_held (keyed_of facts);
      response = facts.encryption.response;
      peer = facts.peer;
      event = facts.event;
      lengths = facts.lengths;
      bits = bits_of facts.acknowledgement;
      is_acked = is_acked facts.acknowledgement;
      last = facts.acknowledgement.last;
      payload = facts.outgoing.payload;
      fixed = facts.outgoing.fixed;
      fixes_control = facts.fixes_control;
      more = facts.outgoing.more;
      more_again = facts.outgoing.more_again;
      sent = numbered facts.acknowledgement.sent;
      taken = numbered facts.acknowledgement.accepted;
      last_good = facts.last_good;
      leaving = facts.leaving;
    }

-- the slots up to the last good packet, each of which has at most one
abbrev pub heard_slots : Option Reception → ℕ
heard_slots None = 0
heard_slots (Some good) = good.slot + 1

-- one more is counted, or is not
abbrev pub count_if : Bool → ℕ → ℕ
count_if is_counted count = if is_counted then count + 1 else count
