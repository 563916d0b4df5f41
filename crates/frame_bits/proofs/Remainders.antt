-- Remainders of polynomials over GF(2).
use Rattle.std.proofs.Common.{◌≡◌, ℕ, zero, suc, ◌+◌, ◌*◌, ◌/◌, ◌%◌, ◌^◌, ◌<◌, ◌≤◌, bit_xor, refl, ap, sym, subst, ◌∙◌, inl, inr, ◌⊎◌, arith, add-zero, zero-add, suc-add, zero-mul, one-mul}
use Rattle.std.specs.Int.{bit_at}
use lib.Bits.{xor_assoc, xor_self, xor_comm, xor_lt, xor_block, xor_zero_r}
use Rattle.std.proofs.Math.Nat.{pow-le-pow_right}
use Rattle.std.proofs.lemmas.Nat.{pow_pos, pow-add, shr_split, shr_below, mod_below}
use Rattle.std.proofs.lemmas.Nat.Bits.{bit_at_xor, bit_at-lt, bit_at_above, bit_at_cat_high}
use Rattle.frame_bits.specs.Crc.{generator, remainder}

-- ---- addition

pub xor-up : (a b k : ℕ) → bit_xor (a * 2 ^ k) (b * 2 ^ k) ≡ bit_xor a b * 2 ^ k
xor-up a b k =
    (λ i. bit_xor (sym (add-zero (a * 2 ^ k)) i) (sym (add-zero (b * 2 ^ k)) i))
    ∙ xor_block k a b 0 0 (pow_pos k) (pow_pos k) ∙ add-zero (bit_xor a b * 2 ^ k)

pub xor_swap : (a b c d : ℕ) → bit_xor (bit_xor a b) (bit_xor c d) ≡ bit_xor (bit_xor a c) (bit_xor b d)
xor_swap a b c d =
    xor_assoc a b (bit_xor c d)
    ∙ ap (bit_xor a) (sym (xor_assoc b c d) ∙ ap (λ n. bit_xor n d) (xor_comm b c) ∙ xor_assoc c b d)
    ∙ sym (xor_assoc a c (bit_xor b d))

-- what is added twice is gone
pub xor_twice : (a b : ℕ) → bit_xor (bit_xor a b) b ≡ a
xor_twice a b = xor_assoc a b b ∙ ap (bit_xor a) (xor_self b) ∙ xor_zero_r a

pub same_from_xor : (a b : ℕ) → bit_xor a b ≡ 0 → a ≡ b
same_from_xor a b e = sym (xor_twice a b) ∙ ap (λ n. bit_xor n b) e

-- two numbers with no bit in common
pub xor_apart : (a r k : ℕ) → r < 2 ^ k → bit_xor (a * 2 ^ k) r ≡ a * 2 ^ k + r
xor_apart a r k small =
    let none : r ≡ 0 * 2 ^ k + r = omega arith in
    (λ i. bit_xor (sym (add-zero (a * 2 ^ k)) i) (none i)) ∙ xor_block k a 0 0 r (pow_pos k) small
    ∙ ap (λ n. n * 2 ^ k + r) (xor_zero_r a)

pub bit_cases : (b : ℕ) → b < 2 → (b ≡ 0) ⊎ (b ≡ 1)
bit_cases zero h = inl refl
bit_cases (suc zero) h = inr refl
bit_cases (suc (suc b)) h = absurd (omega arith)

-- a polynomial with one coefficient and with another
xor_times : (x y m : ℕ) → x < 2 → y < 2 → bit_xor (x * m) (y * m) ≡ (x + y) % 2 * m
xor_times zero zero m hx hy = simp zero-mul
xor_times zero (suc zero) m hx hy = simp (zero-mul, one-mul)
xor_times (suc zero) zero m hx hy = simp (zero-mul, one-mul) (xor_zero_r m)
xor_times (suc zero) (suc zero) m hx hy = simp (zero-mul, one-mul) (xor_self m)
xor_times (suc (suc x)) y m hx hy = absurd (omega arith)
xor_times zero (suc (suc y)) m hx hy = absurd (omega arith)
xor_times (suc zero) (suc (suc y)) m hx hy = absurd (omega arith)

-- ---- remainders

pub remainder-xor : (n a b : ℕ) → remainder n (bit_xor a b) ≡ bit_xor (remainder n a) (remainder n b)
unfolding remainder
remainder-xor zero a b = refl
remainder-xor (suc n) a b =
    let part = generator * 2 ^ n in
    let x = bit_at a (24 + n) in
    let y = bit_at b (24 + n) in
    ap (λ m. remainder n (bit_xor (bit_xor a b) m))
    (ap (λ m. m * part) (bit_at_xor a b (24 + n)) ∙ sym (xor_times x y part (bit_at-lt a (24 + n)) (bit_at-lt b (24 + n))))
    ∙ ap (remainder n) (xor_swap a b (x * part) (y * part))
    ∙ remainder-xor n (bit_xor a (x * part)) (bit_xor b (y * part))

-- a coefficient that is 0 takes nothing away
step-small : (n p : ℕ) → p < 2 ^ (24 + n) → remainder (suc n) p ≡ remainder n p
unfolding remainder
step-small n p small =
    ap (λ b. remainder n (bit_xor p (b * (generator * 2 ^ n)))) (bit_at_above p (24 + n) (24 + n) small (omega arith))
    ∙ ap (λ m. remainder n (bit_xor p m)) (zero-mul (generator * 2 ^ n)) ∙ ap (remainder n) (xor_zero_r p)

pub remainder-longer : (k n p : ℕ) → p < 2 ^ (24 + n) → remainder (k + n) p ≡ remainder n p
remainder-longer zero n p small = ap (λ m. remainder m p) (zero-add n)
remainder-longer (suc k) n p small =
    let more : 2 ^ (24 + n) ≤ 2 ^ (24 + (k + n)) = pow-le-pow_right (omega arith) (omega arith) in
    ap (λ m. remainder m p) (suc-add k n) ∙ step-small (k + n) p (omega arith) ∙ remainder-longer k n p small

pub remainder-small : (n p : ℕ) → p < 2 ^ 24 → remainder n p ≡ p
unfolding remainder
remainder-small n p small = ap (λ m. remainder m p) (sym (add-zero n)) ∙ remainder-longer n 0 p small

-- the highest coefficient goes
lowered : (b n r : ℕ) → b < 2 → r < 2 ^ (24 + n) → bit_xor (b * 2 ^ (24 + n) + r) (b * (generator * 2 ^ n)) < 2 ^ (24 + n)
lowered b n r bit small =
    let two : 2 ^ (24 + n) ≡ 2 ^ 24 * 2 ^ n = pow-add 2 24 n in
    let rest : b * (0x65b * 2 ^ n) < 2 ^ (24 + n) =
    elim (bit_cases b bit) [
      | inl none ↦ rw (none, zero-mul) (pow_pos (24 + n))
      | inr one ↦ rw (one, one-mul) (omega (arith, two, pow_pos n))
    ] in
    let whole : b * (generator * 2 ^ n) ≡ b * 2 ^ (24 + n) + b * (0x65b * 2 ^ n) = rw two (omega arith) in
    let e : bit_xor (b * 2 ^ (24 + n) + r) (b * (generator * 2 ^ n)) ≡ bit_xor r (b * (0x65b * 2 ^ n)) =
    ap (bit_xor (b * 2 ^ (24 + n) + r)) whole
    ∙ xor_block (24 + n) b b r (b * (0x65b * 2 ^ n)) small rest
    ∙ ap (λ m. m * 2 ^ (24 + n) + bit_xor r (b * (0x65b * 2 ^ n))) (xor_self b)
    ∙ omega arith in
    subst (λ (m : ℕ). m < 2 ^ (24 + n)) (sym e) (xor_lt (24 + n) r (b * (0x65b * 2 ^ n)) small rest)

pub remainder-lt : (n p : ℕ) → p < 2 ^ (24 + n) → remainder n p < 2 ^ 24
unfolding remainder
remainder-lt zero p small = small
remainder-lt (suc n) p small =
    let one_more : p < 2 ^ (1 + (24 + n)) = subst (λ (m : ℕ). p < 2 ^ m) (omega arith) small in
    let bit : p / 2 ^ (24 + n) < 2 = shr_below p 1 (24 + n) one_more in
    let same : p / 2 ^ (24 + n) ≡ bit_at p (24 + n) = omega arith in
    let e : bit_xor (p / 2 ^ (24 + n) * 2 ^ (24 + n) + p % 2 ^ (24 + n)) (p / 2 ^ (24 + n) * (generator * 2 ^ n))
    ≡ bit_xor p (bit_at p (24 + n) * (generator * 2 ^ n)) =
    λ i. bit_xor (shr_split p (24 + n) i) (same i * (generator * 2 ^ n)) in
    remainder-lt n (bit_xor p (bit_at p (24 + n) * (generator * 2 ^ n)))
    (subst (λ (m : ℕ). m < 2 ^ (24 + n)) e (lowered (p / 2 ^ (24 + n)) n (p % 2 ^ (24 + n)) bit (mod_below p (2 ^ (24 + n)) (pow_pos (24 + n)))))

-- a remainder, and then further powers of x
pub remainder-up : (n m p : ℕ) → remainder (n + m) (p * 2 ^ m) ≡ remainder m (remainder n p * 2 ^ m)
unfolding remainder
remainder-up zero m p = ap (λ k. remainder k (p * 2 ^ m)) (zero-add m)
remainder-up (suc n) m p =
    let part = generator * 2 ^ n in
    let b = bit_at p (24 + n) in
    let place : bit_at (p * 2 ^ m) (24 + (n + m)) ≡ b =
    ap (λ q. bit_at q (24 + (n + m))) (sym (add-zero (p * 2 ^ m)))
    ∙ bit_at_cat_high p m 0 (24 + (n + m)) (pow_pos m) (omega arith)
    ∙ ap (bit_at p) (omega arith) in
    let moved : b * (generator * 2 ^ (n + m)) ≡ b * part * 2 ^ m = rw (pow-add 2 n m) (omega arith) in
    ap (λ k. remainder k (p * 2 ^ m)) (suc-add n m)
    ∙ ap (λ c. remainder (n + m) (bit_xor (p * 2 ^ m) (c * (generator * 2 ^ (n + m))))) place
    ∙ ap (λ c. remainder (n + m) (bit_xor (p * 2 ^ m) c)) moved
    ∙ ap (remainder (n + m)) (xor-up p (b * part) m)
    ∙ remainder-up n m (bit_xor p (b * part))
