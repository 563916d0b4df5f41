-- The blocks of a capture file (PCAP Next Generation Capture File Format, IETF draft draft-ietf-opsawg-pcapng). Numbers
-- have their least significant octet first, which the byte-order magic says.
use Rattle.std.specs.Prelude.{ℕ, ◌+◌, ◌-◌, ◌/◌, ◌%◌, List, [], ◌++◌, length, replicate}
use Rattle.std.specs.Int.{to_le_bytes, w16, w32}

-- a number of 16 bits, and the low 32 bits of a number
abbrev pub half : ℕ → List ℕ
half number = to_le_bytes w16 number

abbrev pub word : ℕ → List ℕ
word number = to_le_bytes w32 number

-- octets, and zeros after them up to a multiple of four (section 3.1)
abbrev pub padded : List ℕ → List ℕ
padded octets = octets ++ replicate ((4 - length octets % 4) % 4) 0

-- a block: its type, its length, its body, and its length again; the length counts all of these (section 3.1)
abbrev pub block : ℕ → List ℕ → List ℕ
block kind body = word kind ++ word (length body + 12) ++ body ++ word (length body + 12)

-- an option: its code, the length of its value, and its value, padded (section 3.5)
abbrev pub option_of : ℕ → List ℕ → List ℕ
option_of code value = half code ++ half (length value) ++ padded value

-- the end of the options: an option of code 0 without a value (section 3.5)
abbrev pub end_of_options : List ℕ
end_of_options = option_of 0 []

-- the Section Header Block: the byte-order magic, version 1.0, and a length of the section that is not given
-- (section 4.1)
abbrev pub section_header : List ℕ
section_header = block 0x0A0D0D0A (word 0x1A2B3C4D ++ half 1 ++ half 0 ++ replicate 8 0xFF)

-- an Interface Description Block: the link type, no limit of the length of a packet, and a name, option 2; times are in
-- microseconds where no option says otherwise (section 4.2)
abbrev pub interface : ℕ → List ℕ → List ℕ
interface link_type name = block 1 (half link_type ++ half 0 ++ word 0 ++ option_of 2 name ++ end_of_options)

-- an Enhanced Packet Block: the number of the interface, the high and the low 32 bits of the time, the length twice,
-- since nothing was left out, and the octets, padded (section 4.3)
abbrev pub packet_block : ℕ → ℕ → List ℕ → List ℕ
packet_block number time octets =
    block 6
    (word number ++ word (time / 0x1_0000_0000) ++ word time ++ word (length octets) ++ word (length octets)
    ++ padded octets)
