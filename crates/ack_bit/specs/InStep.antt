-- What holds between the two ends of a link at any moment (Core 5.2, volume 6 part B, section 4.5.9).
use Rattle.std.specs.Prelude.{◌≡◌, ◌-◌, ◌<◌, Some, length, slice_get}
use Rattle.ack_bit.specs.AckBits.{is_odd}
use Rattle.ack_bit.specs.AckLink.{End, IsReliable}

module _ {C : Type 0} where
  -- s has heard no acknowledgement of the PDU that it sent last: this holds of every end that has just sent
  abbrev pub IsOut : End C → Type 0
  IsOut s = s.acked < length s.sent

  -- what holds between an end s that sends and the other end r that accepts
  pub record IsInStep (s r : End C) : Type 0 where
    pub reliable : IsReliable s r
    -- the PDU of the next packet is the last of those sent, so its number, from 1 on, is their count
    pub last : slice_get s.sent (length s.sent - 1) ≡ Some s.last
    -- SN is the number of PDUs of s that are acknowledged, modulo 2
    pub sn : s.bits.sn ≡ is_odd s.acked
    -- NESN is the number of PDUs that r accepted, modulo 2
    pub nesn : r.bits.nesn ≡ is_odd (length r.accepted)

  -- the invariant of a link: it holds in both directions
  pub record AreInStep (a b : End C) : Type 0 where
    pub from_a : IsInStep a b
    pub from_b : IsInStep b a
