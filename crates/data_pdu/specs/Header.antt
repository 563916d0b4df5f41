-- The header of a data channel PDU (Core 5.2, volume 6 part B, section 2.4).
use Rattle.std.specs.Prelude.{ℕ, ◌+◌, ◌*◌, ◌%◌, ◌==◌, ◌||◌, Bool, List, [], ◌∷◌, slice_index, if◌then◌else◌}
use Rattle.ble_base.specs.Bits.{has_bit}
use Rattle.data_pdu.specs.declared.header.DataHeader.{DataHeader}

-- a flag as a bit
abbrev pub bit_of : Bool → ℕ
bit_of flag = (if flag then 1 else 0)

-- the two octets of a header: in the first LLID in bits 0 and 1, NESN in bit 2, SN in bit 3, MD in bit 4 and 0 in bits
-- 5 to 7, which are reserved; the second is the length (Core 5.2, volume 6 part B, section 2.4)
abbrev pub octets_of : DataHeader → List ℕ
octets_of h = (h.llid + 4 * bit_of h.nesn + 8 * bit_of h.sn + 16 * bit_of h.md) ∷ h.length ∷ []

-- the header in two octets, whatever the reserved bits are (Core 5.2, volume 6 part B, section 2.4)
abbrev pub header_in : List ℕ → DataHeader
header_in octets =
    (let first = slice_index octets 0 in
    record {
      llid = first % 4;
      nesn = has_bit first 2;
      sn = has_bit first 3;
      md = has_bit first 4;
      length = slice_index octets 1;
    })

-- whether the PDU of a header counts as empty: it is acknowledged and otherwise ignored. An empty PDU has LLID 1 and no
-- octet (Core 5.2, volume 6 part B, section 2.4); LLID 0, which is reserved, and LLID 2 or 3 without an octet count as
-- empty too (our choice)
abbrev pub counts_as_empty : DataHeader → Bool
counts_as_empty h = h.llid == 0 || h.length == 0
