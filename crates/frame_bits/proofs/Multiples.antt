-- Multiples of the generator, and the remainders added to them.
use Rattle.std.proofs.Common.{◌≡◌, ℕ, zero, suc, ◌+◌, ◌*◌, ◌^◌, ◌<◌, List, [], ◌∷◌, length, bit_xor, inl, inr, refl, ap, sym, ◌∙◌, arith, one-mul, zero-mul, pow-suc}
use Rattle.std.specs.Int.{bit_at}
use Rattle.std.specs.List.{All}
use lib.Bits.{xor_assoc, xor_comm, xor_lt}
use Rattle.std.proofs.lemmas.List.Elements.{All-cons, All-head, All-nil, All-tail}
use Rattle.std.proofs.lemmas.Nat.{pow-add, pow_pos}
use Rattle.std.proofs.lemmas.Nat.Bits.{bit_at-lt}
use Rattle.frame_bits.specs.Crc.{generator, multiple, remainder}
use Rattle.frame_bits.proofs.Remainders.{bit_cases, remainder-longer, remainder-lt, remainder-small, remainder-up, remainder-xor, same_from_xor, xor_twice}

generator_gone : (n : ℕ) → remainder (suc n) (generator * 2 ^ n) ≡ 0
unfolding remainder
generator_gone n =
    let one_more : suc n ≡ 1 + n = omega arith in
    ap (λ k. remainder k (generator * 2 ^ n)) one_more ∙ remainder-up 1 n generator
    ∙ ap (remainder n) (zero-mul (2 ^ n)) ∙ remainder-small n 0 (omega arith)

part_gone : (n c : ℕ) → c < 2 → remainder (suc n) (c * (generator * 2 ^ n)) ≡ 0
part_gone n c small =
    elim (bit_cases c small) [
      | inl none ↦ rw (none, zero-mul) (remainder-small (suc n) 0 (omega arith))
      | inr one ↦ rw (one, one-mul) (generator_gone n)
    ]

part-lt : (n c : ℕ) → c < 2 → c * (generator * 2 ^ n) < 2 ^ (24 + suc n)
part-lt n c small =
    let power : 2 ^ (24 + suc n) ≡ 2 ^ 25 * 2 ^ n = ap (λ k. 2 ^ k) (omega arith) ∙ pow-add 2 25 n in
    elim (bit_cases c small) [
      | inl none ↦ rw (none, zero-mul) (pow_pos (24 + suc n))
      | inr one ↦ rw (one, one-mul) (omega (arith, power, pow_pos n))
    ]

multiple-lt : (quotient : List ℕ) → All (λ c. c < 2) quotient → multiple quotient < 2 ^ (24 + length quotient)
multiple-lt [] all = omega arith
multiple-lt (c ∷ cs) all =
    let n = length cs in
    let rest : multiple cs < 2 ^ (24 + n) = multiple-lt cs (All-tail (λ k. k < 2) c cs all) in
    let power : 2 ^ (24 + suc n) ≡ 2 * 2 ^ (24 + n) = ap (λ k. 2 ^ k) (omega arith) ∙ pow-add 2 1 (24 + n) in
    xor_lt (24 + suc n) (c * (generator * 2 ^ n)) (multiple cs) (part-lt n c (All-head (λ k. k < 2) c cs all)) (omega arith)

multiple_gone : (quotient : List ℕ) → All (λ c. c < 2) quotient → remainder (length quotient) (multiple quotient) ≡ 0
unfolding remainder
multiple_gone [] all = refl
multiple_gone (c ∷ cs) all =
    let n = length cs in
    let tail = All-tail (λ k. k < 2) c cs all in
    let one_more : suc n ≡ 1 + n = omega arith in
    let rest : remainder (suc n) (multiple cs) ≡ 0 =
    ap (λ k. remainder k (multiple cs)) one_more ∙ remainder-longer 1 n (multiple cs) (multiple-lt cs tail) ∙ multiple_gone cs tail in
    remainder-xor (suc n) (c * (generator * 2 ^ n)) (multiple cs)
    ∙ (λ i. bit_xor (part_gone n c (All-head (λ k. k < 2) c cs all) i) (rest i))

-- whatever is added to a multiple is what is left
pub remainder_only : (quotient : List ℕ) (r : ℕ) → All (λ c. c < 2) quotient → r < 2 ^ 24
    → remainder (length quotient) (bit_xor (multiple quotient) r) ≡ r
remainder_only quotient r all small =
    remainder-xor (length quotient) (multiple quotient) r
    ∙ (λ i. bit_xor (multiple_gone quotient all i) (remainder-small (length quotient) r small i))

pub quotient_of : (n p : ℕ) → (quotient : List ℕ) × (length quotient ≡ n) × All (λ c. c < 2) quotient × (bit_xor (multiple quotient) (remainder n p) ≡ p)
unfolding remainder
quotient_of zero p = ([], refl, All-nil (λ c. c < 2), refl)
quotient_of (suc n) p =
    let c = bit_at p (24 + n) in
    let part = c * (generator * 2 ^ n) in
    let rest = quotient_of n (bit_xor p part) in
    let cs = rest.0 in
    let sum : bit_xor (multiple (c ∷ cs)) (remainder n (bit_xor p part)) ≡ p =
    ap (λ k. bit_xor (bit_xor (c * (generator * 2 ^ k)) (multiple cs)) (remainder n (bit_xor p part))) rest.1
    ∙ xor_assoc part (multiple cs) (remainder n (bit_xor p part)) ∙ ap (bit_xor part) rest.3
    ∙ xor_comm part (bit_xor p part) ∙ xor_twice p part in
    (c ∷ cs, ap suc rest.1, All-cons (λ k. k < 2) c cs (bit_at-lt p (24 + n)) rest.2, sum)

-- a power of x has no part in the generator
pub power_kept : (m c : ℕ) → c < 2 ^ 24 → remainder m (c * 2 ^ m) ≡ 0 → c ≡ 0
unfolding remainder
power_kept zero c small none = omega arith
power_kept (suc m) c small none =
    let one_more : suc m ≡ 1 + m = omega arith in
    let twice : c * 2 ^ suc m ≡ c * 2 * 2 ^ m = ap (λ k. c * k) (pow-suc 2 m) ∙ omega arith in
    let left : remainder m (remainder 1 (c * 2) * 2 ^ m) ≡ 0 =
    sym (remainder-up 1 m (c * 2)) ∙ ap (λ k. remainder k (c * 2 * 2 ^ m)) (sym one_more)
    ∙ ap (remainder (suc m)) (sym twice) ∙ none in
    let nothing : remainder 1 (c * 2) ≡ 0 = power_kept m (remainder 1 (c * 2)) (remainder-lt 1 (c * 2) (omega arith)) left in
    let same : c * 2 ≡ bit_at (c * 2) 24 * generator = same_from_xor (c * 2) (bit_at (c * 2) 24 * generator) nothing in
    elim (bit_cases (bit_at (c * 2) 24) (bit_at-lt (c * 2) 24)) [
      | inl zero_bit ↦ let e : c * 2 ≡ 0 * generator = same ∙ ap (λ b. b * generator) zero_bit in omega arith
      | inr one_bit ↦ let e : c * 2 ≡ 1 * generator = same ∙ ap (λ b. b * generator) one_bit in absurd (omega arith)
    ]
