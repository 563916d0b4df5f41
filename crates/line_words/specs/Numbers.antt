-- The decimal numbers that words spell (our choice).
use Rattle.std.specs.Prelude.{ℕ, ◌==◌, ◌&&◌, ◌||◌, slice_index, nat_lt, nat_le, List, length, Option, Some, None, if◌then◌else◌}
use Rattle.std.specs.Str.{all_ascii_digits}
use Rattle.std.specs.Str.Parse.{digits_value_after}

-- the number that these decimal digits continue
abbrev pub number_from : ℕ → List ℕ → Option ℕ
number_from number word = if all_ascii_digits word then Some (digits_value_after 10 number word) else None

-- the number that a word of decimal digits spells, with no sign and no zero before other digits
abbrev pub number_in : List ℕ → Option ℕ
number_in word =
    if length word == 0 || (nat_lt 1 (length word) && slice_index word 0 == 48) then None else number_from 0 word

-- the number, if it is from `least` to `most`
abbrev pub in_range : ℕ → ℕ → Option ℕ → Option ℕ
in_range least most None = None
in_range least most (Some number) = if nat_le least number && nat_le number most then Some number else None
