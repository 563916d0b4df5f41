-- The first line of octets (our choice).
use Rattle.std.specs.Prelude.{ℕ, ◌+◌, ◌==◌, List, take, drop, Option}
use Rattle.std.specs.List.{position_from}
use Rattle.std.specs.Option.{option_map}
use Rattle.line_words.specs.Text.{newline}

-- the octets up to and with their first newline, and those after it, if there is a newline
abbrev pub first_line : List ℕ → Option (List ℕ × List ℕ)
first_line octets =
    option_map (λ at. (take (at + 1) octets, drop (at + 1) octets)) (position_from (λ octet. octet == newline) 0 octets)
