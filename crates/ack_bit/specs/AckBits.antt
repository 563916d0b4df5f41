-- The acknowledgement scheme of a link, for one end (Core 5.2, volume 6 part B, section 4.5.9).
use Rattle.std.specs.Prelude.{ℕ, ◌%◌, ◌==◌, Bool, false, not, ◌&&◌, if◌then◌else◌}
use Rattle.std.specs.Bool.{beq}
use Rattle.data_pdu.specs.declared.header.DataHeader.{DataHeader}
use Rattle.ack_bit.specs.declared.ack_end.AckSeen.{AckSeen}

-- the two bits that an end keeps: its transmitSeqNum and its nextExpectedSeqNum (section 4.5.9)
pub record AckBits : Type 0 where
  pub sn : Bool
  pub nesn : Bool

-- both are 0 as a link begins (section 4.5.9)
abbrev pub first_bits : AckBits
first_bits = record { sn = false; nesn = false }

-- the bit of a count: the count modulo 2
abbrev pub is_odd : ℕ → Bool
is_odd count = count % 2 == 1

-- the header of the packet that an end sends
abbrev pub header_of : AckBits → ℕ → Bool → ℕ → DataHeader
header_of bits llid md length = record { llid = llid; nesn = bits.nesn; sn = bits.sn; md = md; length = length }

-- the packet carries a new PDU: its SN is the number that the end expects (section 4.5.9)
abbrev pub is_new : AckBits → DataHeader → Bool
is_new bits header = beq header.sn bits.nesn

-- the packet acknowledges the PDU that the end sent last: its NESN is not the number of that PDU (section 4.5.9)
abbrev pub acknowledges : AckBits → DataHeader → Bool
acknowledges bits header = not (beq header.nesn bits.sn)

-- what a received packet says
abbrev pub seen_of : AckBits → DataHeader → AckSeen
seen_of bits header = record { fresh = is_new bits header; acked = acknowledges bits header }

-- an acknowledgement advances the number of the PDU that is sent; a new PDU advances the number that is expected, if
-- there is room for it (section 4.5.9)
abbrev pub receive_of : AckBits → DataHeader → Bool → AckBits
receive_of bits header room =
    record {
      sn = (if acknowledges bits header then not bits.sn else bits.sn);
      nesn = (if is_new bits header && room then not bits.nesn else bits.nesn);
    }
