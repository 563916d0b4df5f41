-- The bits of an access address that differ from the next one.
use Rattle.std.proofs.Common.{◌≡◌, ◌≢◌, ℕ, zero, suc, ◌+◌, ◌/◌, ◌%◌, ◌^◌, ◌<◌, ◌≤◌, Bool, true, false, not, ◌||◌, refl, sym, ap, ◌∙◌, subst, arith, eqb, inl, inr, bit_xor}
use Rattle.std.specs.Int.{bit_at}
use Rattle.std.specs.List.{list_any, range_with_len}
use Rattle.std.proofs.Math.Nat.{div-div-eq-div-mul, pow-suc}
use Rattle.std.proofs.lemmas.Nat.{div-add-mod', pow-add}
use Rattle.std.proofs.lemmas.Nat.Bits.{bit_at_cat_low, bit_at_xor, bit_at-suc, bit_at_lowest}
use Rattle.std.proofs.lemmas.Bool.{and_parts, cases_eq}
use Rattle.scan_init.specs.Access.{has_seven_equal_bits, is_valid_access, transitions_of}

-- ---- bits of a part of a number

bit_at_low : (n k i : ℕ) → i < k → bit_at (n % 2 ^ k) i ≡ bit_at n i
bit_at_low n k i h = sym (bit_at_cat_low (n / 2 ^ k) k (n % 2 ^ k) i h) ∙ ap (λ m. bit_at m i) (div-add-mod' n (2 ^ k))

bit_at_high : (n k i : ℕ) → bit_at (n / 2 ^ k) i ≡ bit_at n (k + i)
bit_at_high n k i =
    ap (λ m. m % 2) (div-div-eq-div-mul n (2 ^ k) (2 ^ i) ∙ ap (λ m. n / m) (sym (pow-add 2 k i)))

-- ---- a transition is where a bit differs from the next one

pub transition_at : (access place : ℕ) → place < 31
    → bit_at (transitions_of access) place ≡ (bit_at access place + bit_at access (place + 1)) % 2
transition_at access place h =
    let next : bit_at (access / 2) place ≡ bit_at access (place + 1) =
    sym (bit_at-suc access place) ∙ ap (bit_at access) (let e : suc place ≡ place + 1 = omega arith in e) in
    bit_at_low (bit_xor access (access / 2)) 31 place h ∙ bit_at_xor access (access / 2) place
    ∙ ap (λ bit. (bit_at access place + bit) % 2) next

-- ---- a number that is not 0 has a bit that is 1

abbrev HasOne : ℕ → ℕ → Type 0
HasOne places n = (i : ℕ) × (i < places) × (bit_at n i ≡ 1)

one_later : (places n : ℕ) → HasOne places (n / 2) → HasOne (suc places) n
one_later places n (i, inside, one) = (suc i, omega arith, bit_at-suc n i ∙ one)

has_one : (places n : ℕ) → n < 2 ^ places → 0 < n → HasOne places n
has_one zero n h positive = absurd (omega arith)
has_one (suc places) n h positive =
    elim (cases_eq (n % 2) 1) [
      | inl odd ↦ (0, omega arith, bit_at_lowest n ∙ odd)
      | inr even ↦ one_later places n (has_one places (n / 2) (omega (arith, pow-suc 2 places)) (omega arith))
    ]

-- ---- no test on a range holds

pub none_in_range : (test : ℕ → Bool) (from count k : ℕ) → list_any test (range_with_len from count) ≡ false
    → from ≤ k → k < from + count → test k ≡ false
none_in_range test from zero k h low high = absurd (omega arith)
none_in_range test from (suc count) k h low high =
    elim (cases_eq k from) [
      | inl first ↦ subst (λ n. test n ≡ false) (sym first) (or_left (test from) (list_any test (range_with_len (from + 1) count)) h)
      | inr later ↦
          none_in_range test (from + 1) count k (or_right (test from) (list_any test (range_with_len (from + 1) count)) h)
          (omega arith) (omega arith)
    ]
  where
    or_left : (a b : Bool) → (a || b) ≡ false → a ≡ false
    or_left true b e = e
    or_left false b e = refl

    or_right : (a b : Bool) → (a || b) ≡ false → b ≡ false
    or_right true b e = absurd cc
    or_right false b e = e

not_zero : (n : ℕ) → eqb n 0 ≡ false → 0 < n
not_zero zero e = absurd cc
not_zero (suc n) e = omega arith

not_true : (a : Bool) → not a ≡ true → a ≡ false
not_true true h = sym h
not_true false h = refl

-- ---- seven bits in a row are not all equal

abbrev pub HasChange : ℕ → ℕ → Type 0
HasChange access first =
    (place : ℕ) × (first ≤ place) × (place < first + 6) × (bit_at access place ≢ bit_at access (place + 1))

change_by : (access first : ℕ) → first < 26 → HasOne 6 (transitions_of access / 2 ^ first % 2 ^ 6) → HasChange access first
change_by access first h (i, inside, one) =
    let there : bit_at (transitions_of access) (first + i) ≡ 1 =
    sym (bit_at_high (transitions_of access) first i) ∙ sym (bit_at_low (transitions_of access / 2 ^ first) 6 i inside) ∙ one in
    let sum = sym (transition_at access (first + i) (omega arith)) ∙ there in
    (first + i, omega arith, omega arith, differ (bit_at access (first + i)) (bit_at access (first + i + 1)) sum)
  where
    differ : (a b : ℕ) → (a + b) % 2 ≡ 1 → a ≢ b
    differ a b sum same = omega arith

pub seven_differ : (access first : ℕ) → is_valid_access access ≡ true → first < 26 → HasChange access first
unfolding is_valid_access
seven_differ access first valid h =
    let run = (and_parts _ (not (has_seven_equal_bits access)) valid).1 in
    let test : ℕ → Bool = λ place. eqb (transitions_of access / 2 ^ place % 2 ^ 6) 0 in
    let none = none_in_range test 0 26 first (not_true (has_seven_equal_bits access) run) (omega arith) (omega arith) in
    change_by access first h
    (has_one 6 (transitions_of access / 2 ^ first % 2 ^ 6) (omega arith) (not_zero _ none))
