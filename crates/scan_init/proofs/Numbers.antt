-- The number of each access address among the valid ones.
use Rattle.std.proofs.Common.{◌≡◌, ℕ, zero, suc, ◌+◌, ◌-◌, ◌^◌, ◌<◌, ◌≤◌, Bool, true, false, cond, Option, Some, None, option_and_then, refl, sym, ap, ◌∙◌, subst, arith, inl, inr}
use Rattle.std.specs.Prelude.{⊤, IfSome}
use Rattle.std.proofs.lemmas.Bool.{cases_lt}
use Rattle.scan_init.specs.Access.{access_at, is_valid_access, next_access_of, nth_access, valid_count, IsNthAccess}
use Rattle.scan_init.proofs.Searches.{search_step, search_finds, IsFound}

-- ---- counting

before-zero : (cursor : ℕ) → valid_count cursor 0 ≡ 0
unfolding valid_count
before-zero cursor = refl

before-suc : (cursor travel : ℕ) (test : Bool) → is_valid_access (access_at cursor travel) ≡ test
    → valid_count cursor (suc travel) ≡ valid_count cursor travel + cond test 1 0
unfolding valid_count
before-suc cursor travel test e = ap (λ b. valid_count cursor travel + cond b 1 0) e

-- the count does not change over distances with no valid address
before-quiet : (cursor from gap : ℕ) → ((t : ℕ) → from ≤ t → t < from + gap → is_valid_access (access_at cursor t) ≡ false)
    → valid_count cursor (from + gap) ≡ valid_count cursor from
before-quiet cursor from zero quiet = let same : from + 0 ≡ from = omega arith in ap (valid_count cursor) same
before-quiet cursor from (suc gap) quiet =
    let more : from + suc gap ≡ suc (from + gap) = omega arith in
    let rest = before-quiet cursor from gap (λ t low high. quiet t low (omega arith)) in
    let step = before-suc cursor (from + gap) false (quiet (from + gap) (omega arith) (omega arith)) in
    ap (valid_count cursor) more ∙ (omega (arith, step, rest))

before-grows : (cursor from gap : ℕ) → valid_count cursor from ≤ valid_count cursor (from + gap)
before-grows cursor from zero = let same : from + 0 ≡ from = omega arith in omega (arith, ap (valid_count cursor) same)
before-grows cursor from (suc gap) =
    let more : from + suc gap ≡ suc (from + gap) = omega arith in
    omega (arith, ap (valid_count cursor) more, before-grows cursor from gap, before-suc cursor (from + gap) _ refl)

-- ---- each valid address has its turn

agree_by : (cursor travel : ℕ) (test : Bool) → travel < 2 ^ 32 → is_valid_access (access_at cursor travel) ≡ test
    → nth_access cursor (valid_count cursor travel) ≡ next_access_of cursor travel
    → nth_access cursor (valid_count cursor (suc travel)) ≡ next_access_of cursor (suc travel)
agree_by cursor travel true h e agree =
    let count : valid_count cursor (suc travel) ≡ suc (valid_count cursor travel) =
    omega (arith, before-suc cursor travel true e) in
    let next : travel + 1 ≡ suc travel = omega arith in
    ap (nth_access cursor) count
    ∙ ap (option_and_then (λ found. next_access_of cursor found.1)) (agree ∙ search_step cursor travel true h e)
    ∙ ap (next_access_of cursor) next
agree_by cursor travel false h e agree =
    let count : valid_count cursor (suc travel) ≡ valid_count cursor travel =
    omega (arith, before-suc cursor travel false e) in
    let next : travel + 1 ≡ suc travel = omega arith in
    ap (nth_access cursor) count ∙ agree ∙ search_step cursor travel false h e ∙ ap (next_access_of cursor) next

-- to search from a distance is to search with the number of valid addresses before it
pub searches_agree : (cursor travel : ℕ) → travel ≤ 2 ^ 32
    → nth_access cursor (valid_count cursor travel) ≡ next_access_of cursor travel
searches_agree cursor zero h = ap (nth_access cursor) (before-zero cursor)
searches_agree cursor (suc travel) h =
    agree_by cursor travel _ (omega arith) refl (searches_agree cursor travel (omega arith))

pub none_passed : (cursor travel : ℕ) → travel < 2 ^ 32 → is_valid_access (access_at cursor travel) ≡ true
    → nth_access cursor (valid_count cursor travel) ≡ Some (access_at cursor travel, travel + 1)
none_passed cursor travel h e = searches_agree cursor travel (omega arith) ∙ search_step cursor travel true h e

-- ---- each address has its number

abbrev IsNumbered : ℕ → ℕ → Option (ℕ × ℕ) → Type 0
IsNumbered cursor number None = ⊤
IsNumbered cursor number (Some found) = IsNthAccess cursor number found.0 found.1

numbered_by : (cursor from number : ℕ) (found : Option (ℕ × ℕ)) → valid_count cursor from ≡ number
    → IsFound cursor from found → IsNumbered cursor number found
numbered_by cursor from number None before f = tt
numbered_by cursor from number (Some next) before f = record {
  positive = omega (arith, f.further);
  within = f.within;
  address = f.address;
  valid = f.valid;
  number_before =
      let gap : ℕ = next.1 - 1 - from in
      let there : next.1 - 1 ≡ from + gap = omega (arith, f.further) in
      ap (valid_count cursor) there
      ∙ before-quiet cursor from gap (λ t low high. f.first t low (omega (arith, f.further))) ∙ before;
}

-- the count after a valid address
before_after : (cursor number access after : ℕ) → IsNthAccess cursor number access after → valid_count cursor after ≡ suc number
before_after cursor number access after nth =
    let last : after ≡ suc (after - 1) = omega (arith, nth.positive) in
    let valid = subst (λ a. is_valid_access a ≡ true) nth.address nth.valid in
    omega (arith, ap (valid_count cursor) last, before-suc cursor (after - 1) true valid, nth.number_before)

numbered_next : (cursor number : ℕ) (found : Option (ℕ × ℕ)) → IsNumbered cursor number found
    → IsNumbered cursor (suc number) (option_and_then (λ found. next_access_of cursor found.1) found)
numbered_next cursor number None nth = tt
numbered_next cursor number (Some found) nth =
    numbered_by cursor found.1 (suc number) _ (before_after cursor number found.0 found.1 nth) (search_finds cursor found.1)

numbered : (cursor number : ℕ) → IsNumbered cursor number (nth_access cursor number)
numbered cursor zero = numbered_by cursor 0 0 _ (before-zero cursor) (search_finds cursor 0)
numbered cursor (suc number) = numbered_next cursor number _ (numbered cursor number)

if_numbered : (cursor number : ℕ) (found : Option (ℕ × ℕ)) → IsNumbered cursor number found
    → IfSome found (λ next. IsNthAccess cursor number next.0 next.1)
if_numbered cursor number None nth = tt
if_numbered cursor number (Some found) nth = nth

pub each_valid : (cursor number : ℕ) → IfSome (nth_access cursor number) (λ found. IsNthAccess cursor number found.0 found.1)
each_valid cursor number = if_numbered cursor number _ (numbered cursor number)

-- ---- farther, and no address twice

nth_of : (cursor number access after : ℕ) → nth_access cursor number ≡ Some (access, after) → IsNthAccess cursor number access after
nth_of cursor number access after e = subst (IsNumbered cursor number) e (numbered cursor number)

farther_by : (cursor m n a b first second : ℕ) → m < n → IsNthAccess cursor m a first → IsNthAccess cursor n b second
    → first < second
farther_by cursor m n a b first second h x y =
    elim (cases_lt first second) [
      | inl less ↦ less
      | inr not_less ↦
          let gap : ℕ = first - second in
          let there : first - 1 ≡ second - 1 + gap = omega (arith, x.positive, y.positive) in
          absurd (omega (arith, before-grows cursor (second - 1) gap, ap (valid_count cursor) there, x.number_before, y.number_before))
    ]

pub each_farther : (cursor m n a b first second : ℕ) → m < n → nth_access cursor m ≡ Some (a, first)
    → nth_access cursor n ≡ Some (b, second) → first < second
each_farther cursor m n a b first second h d e =
    farther_by cursor m n a b first second h (nth_of cursor m a first d) (nth_of cursor n b second e)

distances_differ : (cursor x y : ℕ) → x < y → y < 2 ^ 32 → access_at cursor x ≡ access_at cursor y → ⊥
distances_differ cursor x y h k e = omega arith

pub each_new : (cursor m n a b first second : ℕ) → m < n → nth_access cursor m ≡ Some (a, first)
    → nth_access cursor n ≡ Some (b, second) → a ≡ b → ⊥
each_new cursor m n a b first second h d e same =
    let x = nth_of cursor m a first d in
    let y = nth_of cursor n b second e in
    let far = farther_by cursor m n a b first second h x y in
    distances_differ cursor (first - 1) (second - 1) (omega (arith, x.positive, far)) (omega (arith, y.positive, y.within))
    (sym x.address ∙ same ∙ y.address)
