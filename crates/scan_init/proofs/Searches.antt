-- The search for the next access address, a distance at a time.
use Rattle.std.proofs.Common.{◌≡◌, ℕ, zero, suc, ◌+◌, ◌-◌, ◌^◌, ◌<◌, ◌≤◌, Bool, true, false, cond, Option, Some, None, refl, sym, ap, ◌∙◌, subst, arith, inl, inr}
use Rattle.std.specs.Prelude.{IfSome, IfNone}
use Rattle.std.proofs.lemmas.Bool.{cases_lt, cases_eq}
use Rattle.scan_init.specs.Access.{access_at, is_valid_access, next_access_of, valid_among_last, HasNoAccess, IsNextAccess}

-- one distance more
among_step : (cursor left : ℕ) (test : Bool) → is_valid_access (access_at cursor (2 ^ 32 - suc left)) ≡ test
    → valid_among_last cursor (suc left)
    ≡ cond test (Some (access_at cursor (2 ^ 32 - suc left), 2 ^ 32 - left)) (valid_among_last cursor left)
among_step cursor left true e = rw (e, valid_among_last) refl
among_step cursor left false e = rw (e, valid_among_last) refl

-- the search at a distance that is below 2^32
pub search_step : (cursor travel : ℕ) (test : Bool) → travel < 2 ^ 32 → is_valid_access (access_at cursor travel) ≡ test
    → next_access_of cursor travel ≡ cond test (Some (access_at cursor travel, travel + 1)) (next_access_of cursor (travel + 1))
unfolding next_access_of
search_step cursor travel test h e =
    let left : ℕ = 2 ^ 32 - (travel + 1) in
    let one_more : 2 ^ 32 - travel ≡ suc left = omega arith in
    let here : 2 ^ 32 - suc left ≡ travel = omega arith in
    let after : 2 ^ 32 - left ≡ travel + 1 = omega arith in
    let step = among_step cursor left test (subst (λ n. is_valid_access (access_at cursor n) ≡ test) (sym here) e) in
    ap (valid_among_last cursor) one_more ∙ step
    ∙ ap (λ n. cond test (Some (access_at cursor n, 2 ^ 32 - left)) (valid_among_last cursor left)) here
    ∙ ap (λ n. cond test (Some (access_at cursor travel, n)) (valid_among_last cursor left)) after

pub search_end : (cursor travel : ℕ) → 2 ^ 32 ≤ travel → next_access_of cursor travel ≡ None
unfolding next_access_of
search_end cursor travel h = let none : 2 ^ 32 - travel ≡ 0 = omega arith in rw none refl

-- the search over distances with no valid address
pub search_over : (cursor travel step : ℕ)
    → ((t : ℕ) → travel ≤ t → t < travel + step → is_valid_access (access_at cursor t) ≡ false)
    → next_access_of cursor travel ≡ next_access_of cursor (travel + step)
search_over cursor travel zero quiet = let same : travel ≡ travel + 0 = omega arith in ap (next_access_of cursor) same
search_over cursor travel (suc step) quiet =
    let more : travel + step + 1 ≡ travel + suc step = omega arith in
    search_over cursor travel step (λ t from below. quiet t from (omega arith))
    ∙ one_over (travel + step) (quiet (travel + step) (omega arith) (omega arith)) ∙ ap (next_access_of cursor) more
  where
    one_over : (t : ℕ) → is_valid_access (access_at cursor t) ≡ false → next_access_of cursor t ≡ next_access_of cursor (t + 1)
    one_over t e =
        elim (cases_lt t (2 ^ 32)) [
          | inl below ↦ search_step cursor t false below e
          | inr beyond ↦ search_end cursor t beyond ∙ sym (search_end cursor (t + 1) (omega arith))
        ]

-- ---- what the search finds

-- what a search from a distance on gives is what was looked for
abbrev pub IsFound : ℕ → ℕ → Option (ℕ × ℕ) → Type 0
IsFound cursor travelled None = HasNoAccess cursor travelled
IsFound cursor travelled (Some next) = IsNextAccess cursor travelled next.0 next.1

-- it is the same from the distance before, where that is not valid
found_earlier : (cursor travel : ℕ) (found : Option (ℕ × ℕ)) → is_valid_access (access_at cursor travel) ≡ false
    → IsFound cursor (travel + 1) found → IsFound cursor travel found
found_earlier cursor travel None e f = λ t from below.
    elim (cases_eq t travel) [
      | inl same ↦ subst (λ n. is_valid_access (access_at cursor n) ≡ false) (sym same) e
      | inr other ↦ f t (omega arith) below
    ]
found_earlier cursor travel (Some next) e f = record {
  further = omega (arith, f.further);
  within = f.within;
  address = f.address;
  valid = f.valid;
  first = λ t from below.
      elim (cases_eq t travel) [
        | inl same ↦ subst (λ n. is_valid_access (access_at cursor n) ≡ false) (sym same) e
        | inr other ↦ f.first t (omega arith) below
      ];
}

-- a valid address at this distance is found
found_here : (cursor travel : ℕ) → travel < 2 ^ 32 → is_valid_access (access_at cursor travel) ≡ true
    → IsFound cursor travel (Some (access_at cursor travel, travel + 1))
found_here cursor travel h e = record {
  further = omega arith;
  within = omega arith;
  address = let same : travel + 1 - 1 ≡ travel = omega arith in ap (access_at cursor) (sym same);
  valid = e;
  first = λ t from below. absurd (omega arith);
}

found_by : (cursor travel : ℕ) (test : Bool) → travel < 2 ^ 32 → is_valid_access (access_at cursor travel) ≡ test
    → IsFound cursor (travel + 1) (next_access_of cursor (travel + 1)) → IsFound cursor travel (next_access_of cursor travel)
found_by cursor travel true h e f = rw (search_step cursor travel true h e) (found_here cursor travel h e)
found_by cursor travel false h e f = rw (search_step cursor travel false h e) (found_earlier cursor travel _ e f)

found_beyond : (cursor travel : ℕ) → 2 ^ 32 ≤ travel → IsFound cursor travel (next_access_of cursor travel)
found_beyond cursor travel h = rw (search_end cursor travel h) (λ t from below. absurd (omega arith))

found_with : (left cursor travel : ℕ) → 2 ^ 32 ≤ travel + left → IsFound cursor travel (next_access_of cursor travel)
found_with zero cursor travel h = found_beyond cursor travel (omega arith)
found_with (suc left) cursor travel h =
    elim (cases_lt travel (2 ^ 32)) [
      | inl below ↦
          found_by cursor travel (is_valid_access (access_at cursor travel)) below refl
          (found_with left cursor (travel + 1) (omega arith))
      | inr beyond ↦ found_beyond cursor travel (omega arith)
    ]

pub search_finds : (cursor travel : ℕ) → IsFound cursor travel (next_access_of cursor travel)
search_finds cursor travel = found_with (2 ^ 32) cursor travel (omega arith)

-- the two forms that a call's clauses have
pub found_some : (cursor travel : ℕ) (found : Option (ℕ × ℕ)) → found ≡ next_access_of cursor travel
    → IfSome found (λ next. IsNextAccess cursor travel next.0 next.1)
found_some cursor travel None e = tt
found_some cursor travel (Some next) e = subst (IsFound cursor travel) (sym e) (search_finds cursor travel)

pub found_none : (cursor travel : ℕ) (found : Option (ℕ × ℕ)) → found ≡ next_access_of cursor travel
    → IfNone found (HasNoAccess cursor travel)
found_none cursor travel None e = subst (IsFound cursor travel) (sym e) (search_finds cursor travel)
found_none cursor travel (Some next) e = tt
