-- The packets that a host sends over H4, the UART transport (Core 5.2, volume 4 part A, section 2), and their layouts
-- (volume 4 part E, sections 5.4.1 for commands and 5.4.2 for ACL data).
use Rattle.std.specs.Prelude.{ℕ, ◌+◌, ◌/◌, ◌%◌, Bool, not, ◌||◌, ◌==◌, nat_le, if◌then◌else◌, List, [], ◌∷◌, length, take, Option, Some, None}
use Rattle.ble_base.specs.Limits.{payload_octets}
use Rattle.wire_fields.specs.Field.{number_of}
use Rattle.h4_frames.specs.declared.packet.HostPacket.{HostPacket}
use Rattle.h4_frames.specs.declared.packet.HostPacket.TheVariants.{Command, Acl}

-- the packet indicators that a host may send: 1 for a command, 2 for ACL data (volume 4 part A, section 2)
abbrev pub is_indicator : ℕ → Bool
is_indicator octet = (octet == 1) || (octet == 2)

-- the number of two octets, the low one first (volume 4 part E, section 5.2)
abbrev pub word_of : ℕ → ℕ → ℕ
word_of low high = number_of (low ∷ high ∷ [])

-- the handle: the low 12 bits of the first word of ACL data (volume 4 part E, section 5.4.2)
abbrev pub handle_of : ℕ → ℕ
handle_of word = word % 4096

-- the packet boundary flag, bits 12 and 13, is 01 for a continuation; any other value is a start (section 5.4.2)
abbrev pub is_start : ℕ → Bool
is_start word = not ((word / 4096) % 4 == 1)

-- a whole packet, and the number of its octets with the indicator
pub record SizedPacket : Type 0 where
  pub size : ℕ
  pub packet : HostPacket

-- a command, after its indicator: the opcode, the number of parameter octets, and these (section 5.4.1)
abbrev pub first_command : List ℕ → Option SizedPacket
first_command (low ∷ high ∷ count ∷ octets) =
    if nat_le count (length octets)
    then Some (record { size = 4 + count; packet = Command (word_of low high) (record { items = take count octets }) })
    else None
first_command _ = None

-- ACL data, after its indicator: handle and flags, the number of data octets, and these; at most 251 are kept (our
-- choice)
abbrev pub first_acl : List ℕ → Option SizedPacket
first_acl (low ∷ high ∷ count_low ∷ count_high ∷ octets) =
    let word = word_of low high in
    let count = word_of count_low count_high in
    if nat_le count (length octets)
    then Some (record {
      size = 5 + count;
      packet = Acl (handle_of word) (is_start word) count (record { items = take payload_octets (take count octets) });
    })
    else None
first_acl _ = None

-- the packet with which these octets begin, if they begin with an indicator and hold all of it
abbrev pub first_packet : List ℕ → Option SizedPacket
first_packet [] = None
first_packet (indicator ∷ octets) = if indicator == 1 then first_command octets else first_acl octets
