-- Bits that are 1, counted; and the places at which a bit differs from the next one.
use Rattle.std.proofs.Common.{◌≡◌, ℕ, zero, suc, ◌/◌, ◌^◌, ◌<◌, arith}
use Rattle.std.proofs.Math.Nat.{pow-suc}
use Rattle.std.proofs.lemmas.Nat.{ones_le_self}
use Rattle.std.specs.Int.Count.{ones as count_ones, ones_step}
use Rattle.scan_init.specs.Access.{bit_count, ones_among}

ones_are_counted : (places bits : ℕ) → bits < 2 ^ places → count_ones bits ≡ ones_among places bits
ones_are_counted zero bits h = omega (arith, ones_le_self bits)
ones_are_counted (suc places) bits h =
    let rest = ones_are_counted places (bits / 2) (omega (arith, pow-suc 2 places)) in
    omega (arith, ones_step bits, rest)

pub bits_are_counted : (bits : ℕ) → bits < 2 ^ 32 → count_ones bits ≡ bit_count bits
unfolding bit_count
bits_are_counted bits h = ones_are_counted 32 bits h
