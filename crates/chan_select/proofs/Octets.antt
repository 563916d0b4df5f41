-- The octet that std's `reverse_bits` gives, bit by bit.
use Rattle.std.proofs.Common.{◌≡◌, ℕ, ◌/◌, arith, ap, ◌∙◌}
use Rattle.std.proofs.Math.Nat.{div-div-eq-div-mul}
use Rattle.std.specs.Int.{reverse_bits, reverse_bits_onto, w8}
use Rattle.chan_select.specs.PseudoRandom.{reversed_octet}

pub reverse_bits-octet : (n : ℕ) → reverse_bits w8 n ≡ reversed_octet n
unfolding reverse_bits_onto reversed_octet
reverse_bits-octet n =
    let two : n / 2 / 2 ≡ n / 4 = div-div-eq-div-mul n 2 2 in
    let three : n / 2 / 2 / 2 ≡ n / 8 = ap (λ m. m / 2) two ∙ div-div-eq-div-mul n 4 2 in
    let four : n / 2 / 2 / 2 / 2 ≡ n / 16 = ap (λ m. m / 2) three ∙ div-div-eq-div-mul n 8 2 in
    let five : n / 2 / 2 / 2 / 2 / 2 ≡ n / 32 = ap (λ m. m / 2) four ∙ div-div-eq-div-mul n 16 2 in
    let six : n / 2 / 2 / 2 / 2 / 2 / 2 ≡ n / 64 = ap (λ m. m / 2) five ∙ div-div-eq-div-mul n 32 2 in
    let seven : n / 2 / 2 / 2 / 2 / 2 / 2 / 2 ≡ n / 128 = ap (λ m. m / 2) six ∙ div-div-eq-div-mul n 64 2 in
    rw (seven, six, five, four, three, two) (omega arith)
