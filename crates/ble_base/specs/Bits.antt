-- A bit of a number, for masks, maps and headers.
use Rattle.std.specs.Prelude.{ℕ, ◌==◌, Bool}
use Rattle.std.specs.Int.{bit_at}

-- whether the bit at this place is 1; place 0 is the least significant
abbrev pub has_bit : ℕ → ℕ → Bool
has_bit bits place = bit_at bits place == 1
