-- Which stations are among others.
use Rattle.std.proofs.Common.{◌≡◌, ℕ, zero, suc, ◌<◌, ◌==◌, ◌||◌, Bool, true, false, not, List, [], ◌∷◌, ◌++◌, length, get_or, cond, refl, sym, ap, subst, ◌∙◌, arith}
use Rattle.std.specs.List.{AllByRecursion, Contains, IsDistinct, list_any}
use Rattle.std.proofs.lemmas.Bool.{eqb-true, eqb-false, false_from_ne_true}
use Rattle.run_model.specs.Run.{others_than}
use Rattle.run_model.specs.Feeding.{AreDistinct}
use Rattle.run_model.proofs.Calls.{same_station}

abbrev pub is_in : ℕ → List ℕ → Bool
is_in station stations = list_any (λ other. station == other) stations

or_true : (b : Bool) → (b || true) ≡ true
or_true true = refl
or_true false = refl

pub in_middle : (station : ℕ) (done left : List ℕ) → is_in station (done ++ station ∷ left) ≡ true
in_middle station [] left = rw (same_station station) refl
in_middle station (first ∷ done) left = ap (λ b. (station == first) || b) (in_middle station done left) ∙ or_true (station == first)

pub in_more_same : (station other : ℕ) (done : List ℕ) → (station == other) ≡ true → is_in station (done ++ other ∷ []) ≡ true
in_more_same station other [] same = rw same refl
in_more_same station other (first ∷ done) same = ap (λ b. (station == first) || b) (in_more_same station other done same) ∙ or_true (station == first)

pub in_more_other : (station other : ℕ) (done : List ℕ) → (station == other) ≡ false → is_in station (done ++ other ∷ []) ≡ is_in station done
in_more_other station other [] differs = rw differs refl
in_more_other station other (first ∷ done) differs = ap (λ b. (station == first) || b) (in_more_other station other done differs)

differs_back : (one other : ℕ) → (one == other) ≡ false → (other == one) ≡ false
differs_back one other differs = false_from_ne_true (other == one) (λ same. eqb-false one other differs (sym (eqb-true other one same)))

all_in_middle : (P : ℕ → Type 0) (station : ℕ) (done left : List ℕ) → AllByRecursion P (done ++ station ∷ left) → P station
all_in_middle P station [] left all = all.0
all_in_middle P station (first ∷ done) left all = all_in_middle P station done left all.1

distinct_middle : (station : ℕ) (done left : List ℕ) → AreDistinct (done ++ station ∷ left) → is_in station done ≡ false
unfolding IsDistinct
distinct_middle station [] left distinct = refl
distinct_middle station (first ∷ done) left distinct =
    ap (λ b. b || is_in station done) (differs_back first station (all_in_middle (λ other. (first == other) ≡ false) station done left distinct.0))
    ∙ distinct_middle station done left distinct.1

-- of distinct stations, none comes before itself
pub not_before : (stations done left : List ℕ) (station : ℕ) → AreDistinct stations → stations ≡ done ++ station ∷ left → is_in station done ≡ false
not_before stations done left station distinct are = distinct_middle station done left (subst AreDistinct are distinct)

pub among : (stations done left : List ℕ) (station : ℕ) → stations ≡ done ++ station ∷ left → is_in station stations ≡ true
among stations done left station are = ap (is_in station) are ∙ in_middle station done left

contains_at : (stations : List ℕ) (station place : ℕ) → place < length stations → get_or stations place station ≡ station → is_in station stations ≡ true
contains_at [] station place lt is = absurd (omega arith)
contains_at (first ∷ stations) station zero lt is = ap (λ s. (station == s) || is_in station stations) is ∙ ap (λ b. b || is_in station stations) (same_station station)
contains_at (first ∷ stations) station (suc place) lt is =
    ap (λ b. (station == first) || b) (contains_at stations station place (omega arith) is) ∙ or_true (station == first)

pub contains_in : (stations : List ℕ) (station : ℕ) → Contains stations station → is_in station stations ≡ true
contains_in stations station contains = contains_at stations station contains.0 contains.1 contains.2

others_by : (station first : ℕ) (rest : List ℕ) (same : Bool) → (first == station) ≡ same → AllByRecursion (λ other. (other == station) ≡ false) rest
    → AllByRecursion (λ other. (other == station) ≡ false) (cond (not same) (first ∷ rest) rest)
others_by station first rest true is all = all
others_by station first rest false is all = (is, all)

pub others_differ : (station : ℕ) (stations : List ℕ) → AllByRecursion (λ other. (other == station) ≡ false) (others_than station stations)
others_differ station [] = tt
others_differ station (first ∷ stations) = others_by station first (others_than station stations) (first == station) refl (others_differ station stations)

others_all : (P : ℕ → Type 0) (station : ℕ) (stations : List ℕ) → AllByRecursion P stations → AllByRecursion P (others_than station stations)
others_all P station [] all = tt
others_all P station (first ∷ stations) all = by (first == station) (others_all P station stations all.1)
  where
    by : (same : Bool) → AllByRecursion P (others_than station stations) → AllByRecursion P (cond (not same) (first ∷ others_than station stations) (others_than station stations))
    by true rest = rest
    by false rest = (all.0, rest)

-- and none of them has two places
pub others_distinct : (station : ℕ) (stations : List ℕ) → AreDistinct stations → AreDistinct (others_than station stations)
unfolding IsDistinct
others_distinct station [] distinct = distinct
others_distinct station (first ∷ stations) distinct = by (first == station) (others_distinct station stations distinct.1)
  where
    by : (same : Bool) → AreDistinct (others_than station stations) → AreDistinct (cond (not same) (first ∷ others_than station stations) (others_than station stations))
    by true rest = rest
    by false rest = (others_all (λ other. (first == other) ≡ false) station stations distinct.0, rest)

-- ---- each of some stations

pub all_in : (P : ℕ → Type 0) (stations : List ℕ) → ((station : ℕ) → is_in station stations ≡ true → P station) → AllByRecursion P stations
all_in P [] each = tt
all_in P (first ∷ stations) each = (
  each first (ap (λ b. b || is_in first stations) (same_station first)),
  all_in P stations (λ station is. each station (ap (λ b. (station == first) || b) is ∙ or_true (station == first))),
)

all_rest : (P : ℕ → Type 0) (done left : List ℕ) → AllByRecursion P (done ++ left) → AllByRecursion P left
all_rest P [] left all = all
all_rest P (first ∷ done) left all = all_rest P done left all.1

all_both : (P Q R : ℕ → Type 0) (stations : List ℕ) → ((station : ℕ) → P station → Q station → R station) → AllByRecursion P stations → AllByRecursion Q stations
    → AllByRecursion R stations
all_both P Q R [] both p q = tt
all_both P Q R (first ∷ stations) both p q = (both first p.0 q.0, all_both P Q R stations both p.1 q.1)

all_true : (P : ℕ → Type 0) (stations : List ℕ) → ((station : ℕ) → P station) → AllByRecursion P stations
all_true P [] each = tt
all_true P (first ∷ stations) each = (each first, all_true P stations each)

pub left_out : (done left : List ℕ) → AreDistinct (done ++ left) → AllByRecursion (λ station. is_in station done ≡ false) left
unfolding IsDistinct
left_out [] left distinct = all_true (λ station. is_in station [] ≡ false) left (λ station. refl)
left_out (first ∷ done) left distinct =
    all_both (λ station. (first == station) ≡ false) (λ station. is_in station done ≡ false) (λ station. is_in station (first ∷ done) ≡ false) left
    (λ station differs out. ap (λ b. b || is_in station done) (differs_back first station differs) ∙ out)
    (all_rest (λ station. (first == station) ≡ false) done left distinct.0)
    (left_out done left distinct.1)

pub all_with : (P R : ℕ → Type 0) (stations : List ℕ) → ((station : ℕ) → P station → R station) → AllByRecursion P stations → AllByRecursion R stations
all_with P R stations each all = all_both P P R stations (λ station p q. each station p) all all
