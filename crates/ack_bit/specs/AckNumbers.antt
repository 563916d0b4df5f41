-- What one end counts by its two bits (Core 5.2, volume 6 part B, section 4.5.9).
use Rattle.std.specs.Prelude.{ℕ, ◌+◌, Bool, ◌&&◌, List, [], ◌∷◌, if◌then◌else◌}
use Rattle.data_pdu.specs.declared.header.DataHeader.{DataHeader}
use Rattle.ack_bit.specs.AckBits.{AckBits, is_new, acknowledges, receive_of}

-- a packet as an end receives it: its header, and whether there is room for its PDU
pub record Arrival : Type 0 where
  pub header : DataHeader
  pub room : Bool

-- the bits of an end after it received these packets
abbrev pub bits_after : AckBits → List Arrival → AckBits
bits_after bits [] = bits
bits_after bits (p ∷ ps) = bits_after (receive_of bits p.header p.room) ps

-- the number of acknowledgements in them
abbrev pub ack_count : AckBits → List Arrival → ℕ
ack_count bits [] = 0
ack_count bits (p ∷ ps) =
    (if acknowledges bits p.header then 1 else 0) + ack_count (receive_of bits p.header p.room) ps

-- the number of PDUs that the end accepted from them: the new ones for which there was room
abbrev pub accept_count : AckBits → List Arrival → ℕ
accept_count bits [] = 0
accept_count bits (p ∷ ps) =
    (if is_new bits p.header && p.room then 1 else 0) + accept_count (receive_of bits p.header p.room) ps
