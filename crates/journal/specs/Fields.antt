-- The parts of an entry that words spell (our choice).
use Rattle.std.specs.Prelude.{ℕ, ◌==◌, ◌-◌, ◌^◌, Bool, List, [], ◌∷◌, Option, Some, None, if◌then◌else◌, codes, slice_index}
use Rattle.std.specs.List.{slice_split}
use Rattle.std.specs.Option.{option_map}
use Rattle.std.specs.Result.{result_ok}
use Rattle.std.specs.Str.{bytes_eq}
use Rattle.hex.specs.Hex.{decode_of, decode_sized}
use Rattle.ble_base.specs.declared.ErrCode.{ErrCode}
use Rattle.ble_base.specs.declared.roles.Side.{Side}
use Rattle.ble_base.specs.declared.roles.Side.TheVariants.{A, B}
use Rattle.ble_base.specs.declared.roles.Role.{Role}
use Rattle.ble_base.specs.declared.roles.Role.TheVariants.{Central, Peripheral}
use Rattle.ble_base.specs.declared.procedure_kinds.Kind.{Kind}
use Rattle.ble_base.specs.declared.procedure_kinds.Kind.TheVariants.{Update, Request, Map, Phy, Features, Version, Length, Encrypt}
use Rattle.ble_base.specs.declared.verdicts.Verdict.{Verdict}
use Rattle.ble_base.specs.declared.verdicts.Verdict.TheVariants.{Missed, Broken, Forged, Good}
use Rattle.line_words.specs.Numbers.{number_in, in_range}
use Rattle.line_words.specs.Parts.{two_parts}
use Rattle.line_words.specs.Signs.{sign_value}
use Rattle.journal.specs.declared.entries.Mark.{Mark}
use Rattle.journal.specs.declared.entries.Mark.TheVariants.{Pass, Lost, Damage}

-- the side of a letter
abbrev pub side_in : List ℕ → Option Side
side_in word = if bytes_eq word (codes "a") then Some A else if bytes_eq word (codes "b") then Some B else None

-- the role of a name
abbrev pub role_in : List ℕ → Option Role
role_in word =
    if bytes_eq word (codes "central") then Some Central
    else if bytes_eq word (codes "peripheral") then Some Peripheral
    else None

-- the control procedure of a name
abbrev pub kind_in : List ℕ → Option Kind
kind_in word =
    if bytes_eq word (codes "update") then Some Update
    else if bytes_eq word (codes "request") then Some Request
    else if bytes_eq word (codes "map") then Some Map
    else if bytes_eq word (codes "phy") then Some Phy
    else if bytes_eq word (codes "features") then Some Features
    else if bytes_eq word (codes "version") then Some Version
    else if bytes_eq word (codes "length") then Some Length
    else if bytes_eq word (codes "encrypt") then Some Encrypt
    else None

-- the verdict of a name
abbrev pub verdict_in : List ℕ → Option Verdict
verdict_in word =
    if bytes_eq word (codes "missed") then Some Missed
    else if bytes_eq word (codes "broken") then Some Broken
    else if bytes_eq word (codes "forged") then Some Forged
    else if bytes_eq word (codes "good") then Some Good
    else None

-- two radios, if both were read
abbrev pub two_radios : Option Bool → Option Bool → Option (Bool × Option Bool)
two_radios None b = None
two_radios (Some a) None = None
two_radios (Some a) (Some b) = Some (a, Some b)

-- one or two radios, a character for each
abbrev pub radios_in : List ℕ → Option (Bool × Option Bool)
radios_in [] = None
radios_in (a ∷ []) = option_map (λ on. (on, None)) (sign_value a)
radios_in (a ∷ b ∷ []) = two_radios (sign_value a) (sign_value b)
radios_in (a ∷ b ∷ c ∷ more) = None

-- the number of a word, of at most 64, 16 or 8 bits
abbrev pub u64_in : List ℕ → Option ℕ
u64_in word = in_range 0 (2 ^ 64 - 1) (number_in word)

abbrev pub u16_in : List ℕ → Option ℕ
u16_in word = in_range 0 (2 ^ 16 - 1) (number_in word)

abbrev pub u8_in : List ℕ → Option ℕ
u8_in word = in_range 0 (2 ^ 8 - 1) (number_in word)

abbrev pub code_of : List ℕ → ErrCode
code_of octets = record { 0 = slice_index octets 0 }

-- the error code of two hexadecimal digits
abbrev pub code_in : List ℕ → Option ErrCode
code_in word = option_map code_of (result_ok (decode_sized word 1))

-- the octets of hexadecimal digits; none for a dash
abbrev pub octets_in : List ℕ → Option (List ℕ)
octets_in word = if bytes_eq word (codes "-") then Some [] else result_ok (decode_of word)

-- a damage at this place with this pattern, if both were read
abbrev pub damage_mark : Option ℕ → Option (List ℕ) → Option Mark
damage_mark None pattern = None
damage_mark (Some at) None = None
damage_mark (Some at) (Some pattern) = Some (Damage at pattern)

-- a place and a pattern, if there are two parts
abbrev pub parts_mark : Option (List ℕ × List ℕ) → Option Mark
parts_mark None = None
parts_mark (Some parts) = damage_mark (u16_in parts.0) (octets_in parts.1)

-- the place and the pattern, with a colon between them
abbrev pub damage_in : List ℕ → Option Mark
damage_in octets = parts_mark (two_parts (slice_split (λ octet. octet == 58) octets))

-- `.` for a packet that passed, `x` for one that was lost
abbrev pub plain_mark : ℕ → Option Mark
plain_mark octet = if octet == 46 then Some Pass else if octet == 120 then Some Lost else None

-- `.`, `x`, or `eP:HEX` for a damage from place P on
abbrev pub mark_in : List ℕ → Option Mark
mark_in [] = None
mark_in (letter ∷ []) = plain_mark letter
mark_in (letter ∷ next ∷ octets) = if letter == 101 then damage_in (next ∷ octets) else None
