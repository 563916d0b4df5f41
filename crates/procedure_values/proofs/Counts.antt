-- A host wants each kind at most once, so that it never wants more than eight.
use Rattle.std.proofs.Common.{◌≡◌, ℕ, zero, suc, ◌+◌, ◌-◌, ◌==◌, is_some, eqb-true, ap, sym, ◌∙◌, ◌<◌, ◌≤◌, if◌then◌else◌, Bool, true, false, not, cond, List, [], ◌∷◌, ◌++◌, length, take, drop, Option, Some, None, nat_lt, refl, arith, subst}
use Rattle.std.specs.List.{position_or_len, remove, slice_set, slice_index_or}
use Rattle.std.proofs.lemmas.List.Elements.{All-take, All-drop, All-append, All-push, All-set}
use Rattle.std.proofs.lemmas.List.Quantifiers.{position-Some}
use Rattle.ble_base.specs.declared.procedure_kinds.Kind.{Kind}
use Rattle.ble_base.specs.declared.procedure_kinds.Kind.TheVariants.{Update, Request, Map, Phy, Features, Version, Length, Encrypt}
use Rattle.procedure_values.specs.declared.asks.Ask.{Ask}
use Rattle.procedure_values.specs.declared.asks.Ask.TheVariants.{Update as ask_update, Request as ask_request, Map as ask_map, Phy as ask_phy, Features as ask_features, Version as ask_version, Length as ask_length, Encrypt as ask_encrypt}
use Rattle.procedure_values.specs.Asks.{kind_of_ask, is_same_kind}
use Rattle.procedure_values.specs.Wants.{place_of, count_of, is_wanted, wanted_at, wanted_with, without_place, IsAsk, IsWants}

total : List Ask → ℕ
total asks = count_of Update asks + count_of Request asks + count_of Map asks + count_of Phy asks + count_of Features asks + count_of Version asks + count_of Length asks + count_of Encrypt asks

-- each ask is of one kind
total-length : (asks : List Ask) → total asks ≡ length asks
unfolding total
total-length [] = refl
total-length (ask_update interval latency timeout ∷ asks) = let h = total-length asks in omega (arith, h)
total-length (ask_request min max latency timeout ∷ asks) = let h = total-length asks in omega (arith, h)
total-length (ask_map map ∷ asks) = let h = total-length asks in omega (arith, h)
total-length (ask_phy ∷ asks) = let h = total-length asks in omega (arith, h)
total-length (ask_features ∷ asks) = let h = total-length asks in omega (arith, h)
total-length (ask_version ∷ asks) = let h = total-length asks in omega (arith, h)
total-length (ask_length tx ∷ asks) = let h = total-length asks in omega (arith, h)
total-length (ask_encrypt rand ediv ltk skd_m iv_m ∷ asks) = let h = total-length asks in omega (arith, h)

-- where a kind is not wanted there is room for it
pub room : (kind : Kind) (asks : List Ask) → ((k : Kind) → count_of k asks ≤ 1) → count_of kind asks ≡ 0 → length asks < 8
unfolding total
room kind asks once none = by kind none
  where
    is : count_of Update asks + count_of Request asks + count_of Map asks + count_of Phy asks + count_of Features asks + count_of Version asks + count_of Length asks + count_of Encrypt asks ≡ length asks
    is = total-length asks

    fits : (k : Kind) → count_of k asks ≤ 1
    fits = once

    by : (k : Kind) → count_of k asks ≡ 0 → length asks < 8
    by Update h = omega (arith, is, h, fits Request, fits Map, fits Phy, fits Features, fits Version, fits Length, fits Encrypt)
    by Request h = omega (arith, is, h, fits Update, fits Map, fits Phy, fits Features, fits Version, fits Length, fits Encrypt)
    by Map h = omega (arith, is, h, fits Update, fits Request, fits Phy, fits Features, fits Version, fits Length, fits Encrypt)
    by Phy h = omega (arith, is, h, fits Update, fits Request, fits Map, fits Features, fits Version, fits Length, fits Encrypt)
    by Features h = omega (arith, is, h, fits Update, fits Request, fits Map, fits Phy, fits Version, fits Length, fits Encrypt)
    by Version h = omega (arith, is, h, fits Update, fits Request, fits Map, fits Phy, fits Features, fits Length, fits Encrypt)
    by Length h = omega (arith, is, h, fits Update, fits Request, fits Map, fits Phy, fits Features, fits Version, fits Encrypt)
    by Encrypt h = omega (arith, is, h, fits Update, fits Request, fits Map, fits Phy, fits Features, fits Version, fits Length)

-- kinds that the test says are the same are the same
same_kinds : (a b : Kind) → is_same_kind a b ≡ true → a ≡ b
same_kinds Update Update h = refl
same_kinds Request Request h = refl
same_kinds Map Map h = refl
same_kinds Phy Phy h = refl
same_kinds Features Features h = refl
same_kinds Version Version h = refl
same_kinds Length Length h = refl
same_kinds Encrypt Encrypt h = refl
same_kinds a b h = absurd (cc)

one : Kind → Ask → ℕ
one kind ask = if is_same_kind (kind_of_ask ask) kind then 1 else 0

-- an ask after all others
count-push : (kind : Kind) (asks : List Ask) (ask : Ask) → count_of kind (asks ++ ask ∷ []) ≡ count_of kind asks + one kind ask
unfolding one
count-push kind [] ask = omega arith
count-push kind (first ∷ asks) ask = let h = count-push kind asks ask in omega (arith, h)

-- one ask less
count-remove : (kind : Kind) (asks : List Ask) (place : ℕ) → count_of kind (remove asks place) ≤ count_of kind asks
count-remove kind [] zero = omega arith
count-remove kind [] (suc place) = omega arith
count-remove kind (first ∷ asks) zero = omega arith
count-remove kind (first ∷ asks) (suc place) = let h = count-remove kind asks place in omega (arith, h)

-- one ask less, exactly
pub count-removed : (kind : Kind) (asks : List Ask) (place : ℕ) (d : Ask) → place < length asks
    → count_of kind asks ≡ (if is_same_kind (kind_of_ask (slice_index_or asks place d)) kind then 1 else 0) + count_of kind (remove asks place)
count-removed kind [] place d less = absurd (omega arith)
count-removed kind (first ∷ asks) zero d less = refl
count-removed kind (first ∷ asks) (suc place) d less = let h = count-removed kind asks place d (omega arith) in omega (arith, h)

-- one in the place of another of its kind
count-set : (kind : Kind) (asks : List Ask) (place : ℕ) (ask d : Ask) → place < length asks → kind_of_ask (slice_index_or asks place d) ≡ kind_of_ask ask
    → count_of kind (slice_set asks place ask) ≡ count_of kind asks
count-set kind [] place ask d less same = absurd (omega arith)
count-set kind (first ∷ asks) zero ask d less same = rw same refl
count-set kind (first ∷ asks) (suc place) ask d less same = let h = count-set kind asks place ask d (omega arith) same in omega (arith, h)

none-step : (kind : Kind) (first : Ask) (asks : List Ask) (b : Bool) → is_same_kind (kind_of_ask first) kind ≡ b
    → (length asks ≤ position_or_len (λ ask. is_same_kind (kind_of_ask ask) kind) asks → count_of kind asks ≡ 0)
    → length (first ∷ asks) ≤ position_or_len (λ ask. is_same_kind (kind_of_ask ask) kind) (first ∷ asks)
    → count_of kind (first ∷ asks) ≡ 0
none-step kind first asks true is rest less =
    let h : suc (length asks) ≤ 0 = subst (λ (b : Bool). length (first ∷ asks) ≤ cond (not b) (1 + position_or_len (λ ask. is_same_kind (kind_of_ask ask) kind) asks) 0) is less in absurd (omega (arith, h))
none-step kind first asks false is rest less =
    let h : suc (length asks) ≤ 1 + position_or_len (λ ask. is_same_kind (kind_of_ask ask) kind) asks = subst (λ (b : Bool). length (first ∷ asks) ≤ cond (not b) (1 + position_or_len (λ ask. is_same_kind (kind_of_ask ask) kind) asks) 0) is less in
    let none : count_of kind asks ≡ 0 = rest (omega (arith, h)) in
    rw is (omega (arith, none))

-- a kind that has no place is not wanted
none-by : (kind : Kind) (asks : List Ask) → length asks ≤ position_or_len (λ ask. is_same_kind (kind_of_ask ask) kind) asks → count_of kind asks ≡ 0
none-by kind [] less = refl
none-by kind (first ∷ asks) less = none-step kind first asks (is_same_kind (kind_of_ask first) kind) refl (none-by kind asks) less

none-test : (b : Bool) (n len : ℕ) → nat_lt n len ≡ b → cond b (Some n) None ≡ None → len ≤ n
none-test true n len is none = absurd (cc)
none-test false n len is none = grind arith

pub none_wanted : (kind : Kind) (asks : List Ask) → place_of kind asks ≡ None → count_of kind asks ≡ 0
none_wanted kind asks none = none-by kind asks (none-test _ _ _ refl none)

-- a kind is wanted where it is counted
counted-by : (kind : Kind) (asks : List Ask) (place : Option ℕ) → place_of kind asks ≡ place → is_some place ≡ not (count_of kind asks == 0)
counted-by kind asks None is = rw (none_wanted kind asks is) refl
counted-by kind asks (Some place) is =
    let found = position-Some (λ ask. is_same_kind (kind_of_ask ask) kind) asks place ask_phy is in
    let more = count-removed kind asks place ask_phy found.0 in
    let e : count_of kind asks ≡ 1 + count_of kind (remove asks place) =
    subst (λ b. count_of kind asks ≡ (if b then 1 else 0) + count_of kind (remove asks place)) found.1 more in
    rw e (some_more (count_of kind (remove asks place)))
  where
    some_more : (n : ℕ) → true ≡ not (1 + n == 0)
    some_more n = by (1 + n == 0) refl
      where
        by : (b : Bool) → (1 + n == 0) ≡ b → true ≡ not b
        by false e = refl
        by true e = let h : 1 + n ≡ 0 = eqb-true (1 + n) 0 e in absurd (omega (arith, h))

pub wanted-counted : (kind : Kind) (asks : List Ask) → is_wanted kind asks ≡ not (count_of kind asks == 0)
wanted-counted kind asks = counted-by kind asks (place_of kind asks) refl

-- without the first of its kind
without-by : (kind : Kind) (asks : List Ask) (place : Option ℕ) → place_of kind asks ≡ place → count_of kind (without_place place asks) ≡ count_of kind asks - 1
without-by kind asks None is = let h = none_wanted kind asks is in omega (arith, h)
without-by kind asks (Some place) is =
    let found = position-Some (λ ask. is_same_kind (kind_of_ask ask) kind) asks place ask_phy is in
    let more = count-removed kind asks place ask_phy found.0 in
    let e : count_of kind asks ≡ 1 + count_of kind (remove asks place) =
    subst (λ b. count_of kind asks ≡ (if b then 1 else 0) + count_of kind (remove asks place)) found.1 more in
    omega (arith, e)

pub count-without : (kind : Kind) (asks : List Ask) → count_of kind (without_place (place_of kind asks) asks) ≡ count_of kind asks - 1
count-without kind asks = without-by kind asks (place_of kind asks) refl

-- with one more ask, or one in the place of another
with-by : (kind : Kind) (ask : Ask) (asks : List Ask) (place : Option ℕ) (same : Bool) → place_of (kind_of_ask ask) asks ≡ place
    → is_same_kind (kind_of_ask ask) kind ≡ same
    → count_of kind (wanted_at place ask asks) ≡ (if same then (if count_of kind asks == 0 then 1 else count_of kind asks) else count_of kind asks)
unfolding one
with-by kind ask asks None true is e =
    let none : count_of kind asks ≡ 0 = subst (λ (k : Kind). count_of k asks ≡ 0) (same_kinds (kind_of_ask ask) kind e) (none_wanted (kind_of_ask ask) asks is) in
    count-push kind asks ask ∙ rw (e, none) refl
with-by kind ask asks None false is e = count-push kind asks ask ∙ rw e (omega arith)
with-by kind ask asks (Some place) true is e =
    let found = position-Some (λ ask'. is_same_kind (kind_of_ask ask') (kind_of_ask ask)) asks place ask is in
    let some : is_some (place_of kind asks) ≡ true = subst (λ (k : Kind). is_some (place_of k asks) ≡ true) (same_kinds (kind_of_ask ask) kind e) (ap is_some is) in
    count-set kind asks place ask ask found.0 (same_kinds _ _ found.1)
    ∙ kept_by (count_of kind asks == 0) (sym (wanted-counted kind asks) ∙ some)
  where
    kept_by : (b : Bool) → not b ≡ true → count_of kind asks ≡ (if b then 1 else count_of kind asks)
    kept_by false h = refl
    kept_by true h = absurd (cc)
with-by kind ask asks (Some place) false is e =
    let found = position-Some (λ ask'. is_same_kind (kind_of_ask ask') (kind_of_ask ask)) asks place ask is in
    count-set kind asks place ask ask found.0 (same_kinds _ _ found.1)

pub count-with : (kind : Kind) (ask : Ask) (asks : List Ask) (same : Bool) → is_same_kind (kind_of_ask ask) kind ≡ same
    → count_of kind (wanted_with ask asks) ≡ (if same then (if count_of kind asks == 0 then 1 else count_of kind asks) else count_of kind asks)
count-with kind ask asks same e = with-by kind ask asks (place_of (kind_of_ask ask) asks) same refl e

once-push : (kind k : Kind) (n : ℕ) (b : Bool) → is_same_kind kind k ≡ b → n ≤ 1 → (kind ≡ k → n ≡ 0) → n + (if b then 1 else 0) ≤ 1
once-push kind k n true is fits none = let h = none (same_kinds kind k is) in omega (arith, h)
once-push kind k n false is fits none = omega (arith, fits)

pub wants_push : (asks : List Ask) (ask : Ask) → IsWants asks → IsAsk ask → count_of (kind_of_ask ask) asks ≡ 0 → IsWants (asks ++ ask ∷ [])
unfolding one
wants_push asks ask wants in_range none =
    record {
      once = λ k. rw (count-push k asks ask) (once-push (kind_of_ask ask) k (count_of k asks) (is_same_kind (kind_of_ask ask) k) refl (wants.once k) (λ is. subst (λ (k : Kind). count_of k asks ≡ 0) is none));
      in_range = All-push IsAsk asks ask wants.in_range in_range;
    }

pub wants_remove : (asks : List Ask) (place : ℕ) → IsWants asks → IsWants (remove asks place)
wants_remove asks place wants =
    record {
      once = λ k. let h = count-remove k asks place in let w = wants.once k in omega (arith, h, w);
      in_range = All-append IsAsk (take place asks) (drop (suc place) asks) (All-take IsAsk place asks wants.in_range) (All-drop IsAsk (suc place) asks wants.in_range);
    }

pub wants_set : (asks : List Ask) (place : ℕ) (ask : Ask) → IsWants asks → IsAsk ask → place_of (kind_of_ask ask) asks ≡ Some place → IsWants (slice_set asks place ask)
wants_set asks place ask wants in_range is =
    let found = position-Some (λ ask'. is_same_kind (kind_of_ask ask') (kind_of_ask ask)) asks place ask is in
    record {
      once = λ k. rw (count-set k asks place ask ask found.0 (same_kinds _ _ found.1)) (wants.once k);
      in_range = All-set IsAsk asks place ask in_range wants.in_range;
    }

pub same_place : (k k' : Kind) (asks asks' : List Ask) (place : Option ℕ) → k ≡ k' → asks ≡ asks' → place_of k asks ≡ place → place_of k' asks' ≡ place
same_place k k' asks asks' place kinds lists is =
    subst (λ (k : Kind). place_of k asks' ≡ place) kinds (subst (λ (asks : List Ask). place_of k asks ≡ place) lists is)
