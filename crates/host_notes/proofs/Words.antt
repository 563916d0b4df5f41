-- A word that wrapped round, in two octets.
use Rattle.std.proofs.Common.{◌≡◌, ℕ, ◌%◌, ◌/◌, [], ◌∷◌, arith}
use Rattle.wire_fields.specs.Field.{little_endian}

-- the two low octets of a number that wrapped round
pub wrapped : (n : ℕ) → little_endian 2 (n % 65536) ≡ little_endian 2 n
unfolding little_endian
wrapped n =
    let low : n % 65536 % 256 ≡ n % 256 = omega arith in
    let high : n % 65536 / 256 % 256 ≡ n / 256 % 256 = omega arith in
    λ i. low i ∷ high i ∷ []
