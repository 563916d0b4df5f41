-- Addresses that are not valid by their bits from a place on.
use Rattle.std.proofs.Common.{◌≡◌, ℕ, ◌+◌, ◌-◌, ◌*◌, ◌/◌, ◌%◌, ◌^◌, ◌<◌, ◌≤◌, Bool, false, sym, ap, ◌∙◌, subst, arith, eqb, bit_xor}
use Rattle.std.specs.Prelude.{nat_le}
use Rattle.std.proofs.Math.Nat.{div-div-eq-div-mul, div-eq_of_lt, div-one, mod-lt, mul-add-div_right, mul-le-mul_left, mul_comm}
use Rattle.std.proofs.lemmas.Nat.{div-add-mod', mod-pow-add, pow-add, pow_pos, shr_below, xor_shr}
use Rattle.std.proofs.lemmas.Bool.{and_left, and_parts, both_ways, eq-eqb, false_from_ne_true, lt-leb, not-true}
use Rattle.scan_init.specs.Access.{bit_count, has_seven_equal_bits, is_valid_access, transitions_of}
use Rattle.scan_init.proofs.Transitions.{none_in_range}

-- ---- transitions from a place on

-- the quotient of a multiple and a rest
quotient-of : (size quotient rest : ℕ) → rest < size → (quotient * size + rest) / size ≡ quotient
quotient-of size quotient rest h =
    let positive : 0 < size = omega arith in
    omega (arith, mul-add-div_right positive quotient rest, div-eq_of_lt h)

divided-below : (n j k : ℕ) → n % 2 ^ (j + k) / 2 ^ k ≡ n / 2 ^ k % 2 ^ j
divided-below n j k =
    ap (λ m. m / 2 ^ k) (mod-pow-add n j k)
    ∙ quotient-of (2 ^ k) (n / 2 ^ k % 2 ^ j) (n % 2 ^ k) (mod-lt n (pow_pos k))

halves-divided : (n k : ℕ) → n / 2 / 2 ^ k ≡ n / 2 ^ k / 2
halves-divided n k =
    div-div-eq-div-mul n 2 (2 ^ k) ∙ ap (λ m. n / m) (mul_comm 2 (2 ^ k)) ∙ sym (div-div-eq-div-mul n (2 ^ k) 2)

-- they are those of the bits from there on
transitions_from : (access place above : ℕ) → above + place ≡ 31
    → transitions_of access / 2 ^ place ≡ bit_xor (access / 2 ^ place) (access / 2 ^ place / 2) % 2 ^ above
transitions_from access place above e =
    ap (λ n. bit_xor access (access / 2) % 2 ^ n / 2 ^ place) (sym e)
    ∙ divided-below (bit_xor access (access / 2)) above place
    ∙ ap (λ n. n % 2 ^ above) (xor_shr access (access / 2) place)
    ∙ ap (λ n. bit_xor (access / 2 ^ place) n % 2 ^ above) (halves-divided access place)

same_transitions : (access other place : ℕ) → place ≤ 31 → other / 2 ^ place ≡ access / 2 ^ place
    → transitions_of other / 2 ^ place ≡ transitions_of access / 2 ^ place
same_transitions access other place h same =
    let above : 31 - place + place ≡ 31 = omega arith in
    transitions_from other place (31 - place) above
    ∙ ap (λ n. bit_xor n (n / 2) % 2 ^ (31 - place)) same
    ∙ sym (transitions_from access place (31 - place) above)

-- ---- what these bits decide

-- the six most significant ones have fewer than two transitions
pub decided_high : (access other : ℕ) → bit_count (transitions_of access / 2 ^ 26) < 2 → other / 2 ^ 26 ≡ access / 2 ^ 26
    → is_valid_access other ≡ false
unfolding is_valid_access
decided_high access other few same =
    let test = lt-leb 2 _ few in
    let high : nat_le 2 (bit_count (transitions_of other / 2 ^ 26)) ≡ false =
    ap (λ n. nat_le 2 (bit_count n)) (same_transitions access other 26 (omega arith) same) ∙ test in
    and_left _ _ (and_left _ _ (and_left _ _ (and_left _ _ high)))

-- seven from a place on are equal
pub decided_run : (access other place : ℕ) → place < 26 → transitions_of access / 2 ^ place % 2 ^ 6 ≡ 0
    → other / 2 ^ place ≡ access / 2 ^ place → is_valid_access other ≡ false
unfolding is_valid_access
decided_run access other place h run same =
    let test : ℕ → Bool = λ place. eqb (transitions_of other / 2 ^ place % 2 ^ 6) 0 in
    let here = eq-eqb (transitions_of other / 2 ^ place % 2 ^ 6) 0
    (ap (λ n. n % 2 ^ 6) (same_transitions access other place (omega arith) same) ∙ run) in
    false_from_ne_true _ λ valid.
    both_ways (test place)
    (none_in_range test 0 26 place (not-true (has_seven_equal_bits other) (and_parts _ _ valid).1) (omega arith)
    (omega arith))
    here

-- all of them
pub decided_whole : (access other : ℕ) → is_valid_access access ≡ false → other / 2 ^ 0 ≡ access / 2 ^ 0
    → is_valid_access other ≡ false
decided_whole access other e same = ap is_valid_access (sym (div-one other) ∙ same ∙ div-one access) ∙ e

-- ---- addresses with the same bits from a place on

pub same_quotient : (size access other : ℕ) → 0 < size → access ≤ other → other < access + (size - access % size)
    → other / size ≡ access / size
same_quotient size access other positive from below =
    let parts = div-add-mod' access size in
    let rest : ℕ = access % size + (other - access) in
    let sum : other ≡ access / size * size + rest = omega (arith, parts) in
    ap (λ n. n / size) sum ∙ quotient-of size (access / size) rest (omega arith)

-- the next of them begins at 2^32 or before
pub next_within : (access place above : ℕ) → above + place ≡ 32 → access < 2 ^ 32
    → access + (2 ^ place - access % 2 ^ place) ≤ 2 ^ 32
next_within access place above e h =
    let quotient : access / 2 ^ place < 2 ^ above = shr_below access above place (subst (λ n. access < 2 ^ n) (sym e) h) in
    let most : 2 ^ place * (access / 2 ^ place + 1) ≤ 2 ^ place * 2 ^ above = mul-le-mul_left (2 ^ place) (omega (arith, quotient)) in
    let all : 2 ^ above * 2 ^ place ≡ 2 ^ 32 = sym (pow-add 2 above place) ∙ ap (λ n. 2 ^ n) e in
    omega
    (arith, most, all, div-add-mod' access (2 ^ place), mul_comm (2 ^ place) (2 ^ above), mod-lt access (pow_pos place))
