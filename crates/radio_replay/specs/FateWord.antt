-- The fate that a word spells (our choice).
use Rattle.std.specs.Prelude.{ℕ, ◌==◌, ◌&&◌, nat_le, List, [], ◌∷◌, length, Option, Some, None, if◌then◌else◌}
use Rattle.std.specs.List.{slice_split}
use Rattle.std.specs.Result.{result_ok}
use Rattle.hex.specs.Hex.{decode_of}
use Rattle.radio_replay.specs.declared.fates.Fate.{Fate}
use Rattle.radio_replay.specs.declared.fates.Fate.TheVariants.{Pass, Lost, Damage}
use Rattle.line_words.specs.Numbers.{number_in, in_range}
use Rattle.line_words.specs.Parts.{two_parts}
use Rattle.ble_base.specs.Limits.{air_packet_octets}
use Rattle.radio_replay.specs.Limits.{last_place}

-- the octets, if there are 1 to 264 of them
abbrev pub pattern_octets : Option (List ℕ) → Option (List ℕ)
pattern_octets None = None
pattern_octets (Some octets) =
    if nat_le 1 (length octets) && nat_le (length octets) air_packet_octets then Some octets else None

-- the pattern that two hexadecimal digits for each octet spell, in either case
abbrev pub pattern_in : List ℕ → Option (List ℕ)
pattern_in digits = pattern_octets (result_ok (decode_of digits))

-- the damage at this place with this pattern, if both were read
abbrev pub both_parts_damage : Option ℕ → Option (List ℕ) → Option Fate
both_parts_damage None pattern = None
both_parts_damage (Some place) None = None
both_parts_damage (Some place) (Some octets) = Some (Damage place (record { items = octets }))

-- a place from 0 to 263 and a pattern, if there are two parts
abbrev pub parts_damage : Option (List ℕ × List ℕ) → Option Fate
parts_damage None = None
parts_damage (Some parts) = both_parts_damage (in_range 0 last_place (number_in parts.0)) (pattern_in parts.1)

-- the place and the pattern, with a colon between them
abbrev pub damage_in : List ℕ → Option Fate
damage_in octets = parts_damage (two_parts (slice_split (λ octet. octet == 58) octets))

-- `.` for a packet that passes, `x` for one that is lost
abbrev pub sign_of : ℕ → Option Fate
sign_of octet = if octet == 46 then Some Pass else if octet == 120 then Some Lost else None

-- `.`, `x`, or `eP:HEX` for a damage from place P on
abbrev pub fate_in : List ℕ → Option Fate
fate_in [] = None
fate_in (letter ∷ []) = sign_of letter
fate_in (letter ∷ next ∷ octets) = if letter == 101 then damage_in (next ∷ octets) else None
