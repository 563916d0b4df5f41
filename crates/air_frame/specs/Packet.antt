-- A packet on the air, without its preamble (Core 5.2, volume 6 part B, section 2.1).
use Rattle.std.specs.Prelude.{ℕ, ◌+◌, ◌-◌, ◌==◌, ◌&&◌, nat_le, Bool, IsTrue, List, ◌++◌, length, take, drop, slice_index}
use Rattle.std.specs.Int.{to_le_bytes, w32}
use Rattle.std.specs.Str.{bytes_eq}
use Rattle.frame_bits.specs.Crc.{crc, crc_octets}
use Rattle.frame_bits.specs.Whitening.{whitening_of}

-- the octets have the form of a PDU, as a test: a header of two octets, the second of which counts the octets after
-- the header (sections 2.3 and 2.4)
abbrev pub is_pdu : List ℕ → Bool
is_pdu pdu = nat_le 2 (length pdu) && nat_le (length pdu) 257 && (length pdu == 2 + slice_index pdu 1)

abbrev pub IsPdu : List ℕ → Type 0
IsPdu pdu = IsTrue (is_pdu pdu)

-- the access address: four octets, the least significant first (section 2.1.2)
abbrev pub access_octets : ℕ → List ℕ
access_octets access = to_le_bytes w32 access

-- a PDU, and after it its CRC (section 3.1.1)
abbrev pub with_crc : ℕ → List ℕ → List ℕ
with_crc init pdu = pdu ++ crc_octets (crc init pdu)

-- the packet of a PDU: the access address, and after it PDU and CRC, whitened (section 3.2)
abbrev pub on_air : ℕ → ℕ → ℕ → List ℕ → List ℕ
on_air channel access init pdu = access_octets access ++ whitening_of channel (with_crc init pdu)

-- the PDU in the octets of a packet: the octets between access address and CRC, with the whitening taken off
abbrev pub pdu_in : ℕ → List ℕ → List ℕ
pdu_in channel packet = take (length packet - 7) (whitening_of channel (drop 4 packet))

-- the octets are the packet of the PDU in them
abbrev pub is_packet : ℕ → ℕ → ℕ → List ℕ → Bool
is_packet channel access init octets =
    let pdu = pdu_in channel octets in
    is_pdu pdu && bytes_eq octets (on_air channel access init pdu)
