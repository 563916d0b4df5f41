-- The nonempty PDUs of a link alone: an empty PDU carries no data, and only keeps the acknowledgement going (Core 5.2,
-- volume 6 part B, sections 2.4.1 and 4.5.9).
use Rattle.std.specs.Prelude.{◌≡◌, ℕ, ◌+◌, ◌-◌, ◌≤◌, Bool, false, not, Some, List, length, take, slice_get}
use Rattle.std.specs.List.{filter}
use Rattle.ack_bit.specs.AckLink.{End}

module _ {C : Type 0} (is_empty : C → Bool) where
  -- the PDUs that are not empty by this test
  abbrev pub nonempty : List C → List C
  nonempty pdus = filter (λ pdu. not (is_empty pdu)) pdus

  -- what r accepted of the nonempty PDUs of s: the first of those that s sent, at most one fewer, under the same
  -- numbers
  pub record IsReliableNonempty (s r : End C) : Type 0 where
    pub in_order : nonempty r.accepted ≡ take (length (nonempty r.accepted)) (nonempty s.sent)
    pub sent_only : length (nonempty r.accepted) ≤ length (nonempty s.sent)
    pub at_most_one_ahead : length (nonempty s.sent) ≤ length (nonempty r.accepted) + 1
    -- what is acknowledged was accepted, and the next PDU is sent only after the one before it is acknowledged
    pub acked_is_accepted : length (nonempty (take s.acked s.sent)) ≤ length (nonempty r.accepted)
    pub one_at_a_time : length (nonempty s.sent) ≤ length (nonempty (take s.acked s.sent)) + 1
    -- a PDU has one number at both ends
    pub numbers : (n : ℕ) (pdu : C)
        → slice_get (nonempty r.accepted) n ≡ Some pdu → slice_get (nonempty s.sent) n ≡ Some pdu
    -- where the PDU of the next packet is not empty, its number, from 1 on, is the count of those sent
    pub last : is_empty s.last ≡ false → slice_get (nonempty s.sent) (length (nonempty s.sent) - 1) ≡ Some s.last
