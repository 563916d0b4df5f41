-- What the view knows of the kinds that an end wants or runs, as these change.
use Rattle.std.proofs.Common.{◌≡◌, ℕ, zero, suc, ◌+◌, ◌-◌, ◌==◌, Bool, true, false, not, List, remove, slice_index_or, Option, Some, None, is_none, if◌then◌else◌, refl, sym, ◌∙◌, subst, arith}
use Rattle.std.proofs.lemmas.List.Quantifiers.{position-Some}
use Rattle.ble_base.specs.declared.error_codes.ErrCode.{ErrCode}
use Rattle.ble_base.specs.declared.procedure_kinds.Kind.{Kind}
use Rattle.ble_base.specs.declared.procedure_kinds.Kind.TheVariants.{Update, Request, Map, Phy, Features, Version, Length, Encrypt}
use Rattle.link_commands.specs.open_links.procedure_values.declared.asks.Ask.{Ask}
use Rattle.link_commands.specs.open_links.procedure_values.declared.asks.Ask.TheVariants.{Phy as ask_phy}
use Rattle.link_commands.specs.open_links.procedure_values.Asks.{is_same_kind, kind_of_ask}
use Rattle.link_commands.specs.open_links.procedure_values.Wants.{count_of, is_wanted, place_of, wanted_with, without_place}
use Rattle.link_commands.proofs.open_links.procedure_values.Counts.{count-removed, count-with, count-without, wanted-counted}
use Rattle.procedure_events.specs.procedure_stages.Kinds.{is_kind}
use Rattle.host_view.specs.declared.links.Asked.{Asked}
use Rattle.host_view.specs.Links.{is_asked}
use Rattle.host_view.specs.Changes.{with_asked}
use Rattle.host_view.specs.Refusals.{count_if}

-- the view knows what is wanted, and the own procedure
abbrev pub KnowsKinds : List Ask → Option Kind → Asked → Type 0
KnowsKinds wanted own asked =
    (kind : Kind) → is_same_kind kind Map ≡ false → count_of kind wanted + count_if (is_kind own kind) ≡ count_if (is_asked kind asked)

-- a procedure is refused, and one is done
abbrev pub asked_refused : Option (Kind × ErrCode) → Asked → Asked
asked_refused None asked = asked
asked_refused (Some (kind, code)) asked = with_asked kind false asked

abbrev pub asked_done : Option Kind → Asked → Asked
asked_done None asked = asked
asked_done (Some kind) asked = with_asked kind false asked

-- ---- kinds

pub same_kinds : (a b : Kind) → is_same_kind a b ≡ true → a ≡ b
same_kinds Update Update h = refl
same_kinds Request Request h = refl
same_kinds Map Map h = refl
same_kinds Phy Phy h = refl
same_kinds Features Features h = refl
same_kinds Version Version h = refl
same_kinds Length Length h = refl
same_kinds Encrypt Encrypt h = refl
same_kinds a b h = absurd (cc)

pub asked_with : (k kind : Kind) (value : Bool) (asked : Asked) → is_same_kind kind Map ≡ false
    → is_asked kind (with_asked k value asked) ≡ (if is_same_kind k kind then value else is_asked kind asked)
asked_with Update Update value asked is = refl
asked_with Request Request value asked is = refl
asked_with Map Map value asked is = absurd (cc)
asked_with Phy Phy value asked is = refl
asked_with Features Features value asked is = refl
asked_with Version Version value asked is = refl
asked_with Length Length value asked is = refl
asked_with Encrypt Encrypt value asked is = refl
asked_with k kind value asked is = refl

-- ---- the own procedure is over

over_by : (n : ℕ) (same before after : Bool) → n + count_if same ≡ count_if before → after ≡ (if same then false else before)
    → n + 0 ≡ count_if after
over_by n true true after is e = rw e (omega (arith, is))
over_by n true false after is e = absurd (omega (arith, is))
over_by n false before after is e = rw e is

pub own_over : (wanted : List Ask) (k : Kind) (asked : Asked) → KnowsKinds wanted (Some k) asked → KnowsKinds wanted None (with_asked k false asked)
own_over wanted k asked knows kind other =
    over_by (count_of kind wanted) (is_same_kind k kind) (is_asked kind asked) (is_asked kind (with_asked k false asked)) (knows kind other)
    (asked_with k kind false asked other)

-- ---- a procedure begins

begun_by : (n m : ℕ) (same before : Bool) → n ≡ (if same then 1 else 0) + m → n + 0 ≡ count_if before → m + count_if same ≡ count_if before
begun_by n m true before one is = omega (arith, one, is)
begun_by n m false before one is = omega (arith, one, is)

pub own_begun : (wanted : List Ask) (place : ℕ) (k : Kind) (asked : Asked)
    → ((kind : Kind) → count_of kind wanted ≡ (if is_same_kind k kind then 1 else 0) + count_of kind (remove wanted place))
    → KnowsKinds wanted None asked → KnowsKinds (remove wanted place) (Some k) asked
own_begun wanted place k asked one knows kind other =
    begun_by (count_of kind wanted) (count_of kind (remove wanted place)) (is_same_kind k kind) (is_asked kind asked) (one kind) (knows kind other)

-- ---- the host asks for one that it did not ask for before

asks_by : (n m : ℕ) (same own before after : Bool) → n + count_if own ≡ count_if before
    → m ≡ (if same then (if n == 0 then 1 else n) else n) → after ≡ (if same then true else before) → (same ≡ true → before ≡ false)
    → m + count_if own ≡ count_if after
asks_by n m true true before after is more e new = absurd (let h : before ≡ false = new refl in none_before n before is h)
  where
    none_before : (n : ℕ) (before : Bool) → n + 1 ≡ count_if before → before ≡ false → ⊥
    none_before n true is h = absurd (cc)
    none_before n false is h = omega (arith, is)
asks_by n m true false before after is more e new = rw e (first n before is (new refl) more)
  where
    first : (n : ℕ) (before : Bool) → n + 0 ≡ count_if before → before ≡ false → m ≡ (if n == 0 then 1 else n) → m + 0 ≡ 1
    first n true is h more = absurd (cc)
    first n false is h more =
        let none : n ≡ 0 = omega (arith, is) in
        let one : m ≡ 1 = subst (λ (k : ℕ). m ≡ (if k == 0 then 1 else k)) none more in omega (arith, one)
asks_by n m false own before after is more e new = rw (e, more) is

pub asks_one : (ask : Ask) (wanted : List Ask) (own : Option Kind) (asked : Asked) → is_asked (kind_of_ask ask) asked ≡ false
    → KnowsKinds wanted own asked → KnowsKinds (wanted_with ask wanted) own (with_asked (kind_of_ask ask) true asked)
asks_one ask wanted own asked new knows kind other =
    asks_by (count_of kind wanted) (count_of kind (wanted_with ask wanted)) (is_same_kind (kind_of_ask ask) kind) (is_kind own kind) (is_asked kind asked)
    (is_asked kind (with_asked (kind_of_ask ask) true asked)) (knows kind other) (count-with kind ask wanted (is_same_kind (kind_of_ask ask) kind) refl)
    (asked_with (kind_of_ask ask) kind true asked other)
    (λ same. subst (λ (k : Kind). is_asked k asked ≡ false) (same_kinds (kind_of_ask ask) kind same) new)

-- ---- the version of the peer is known: an exchange of versions that is only wanted is done

without_other : (k kind : Kind) (asks : List Ask) (place : Option ℕ) → place_of k asks ≡ place → is_same_kind k kind ≡ false
    → count_of kind (without_place place asks) ≡ count_of kind asks
without_other k kind asks None is other = refl
without_other k kind asks (Some place) is other =
    let found = position-Some (λ ask. is_same_kind (kind_of_ask ask) k) asks place ask_phy is in
    let more = count-removed kind asks place ask_phy found.0 in
    let e : count_of kind asks ≡ (if is_same_kind k kind then 1 else 0) + count_of kind (remove asks place) =
    subst (λ (a : Kind). count_of kind asks ≡ (if is_same_kind a kind then 1 else 0) + count_of kind (remove asks place))
    (same_kinds (kind_of_ask (slice_index_or asks place ask_phy)) k found.1) more in
    let h : count_of kind asks ≡ 0 + count_of kind (remove asks place) =
    subst (λ (b : Bool). count_of kind asks ≡ (if b then 1 else 0) + count_of kind (remove asks place)) other e in
    omega (arith, h)

without_all : (k kind : Kind) (asks : List Ask) (same : Bool) → is_same_kind k kind ≡ same
    → count_of kind (without_place (place_of k asks) asks) ≡ (if same then count_of kind asks - 1 else count_of kind asks)
without_all k kind asks true is =
    subst (λ (a : Kind). count_of a (without_place (place_of k asks) asks) ≡ count_of a asks - 1) (same_kinds k kind is) (count-without k asks)
without_all k kind asks false is = without_other k kind asks (place_of k asks) refl is

-- it runs
runs_by : (n m : ℕ) (same before after : Bool) → n + count_if same ≡ count_if before → m ≡ (if same then n - 1 else n)
    → after ≡ (if same then false else before) → m + 0 ≡ count_if after
runs_by n m true true after is less e = rw e (omega (arith, is, less))
runs_by n m true false after is less e = absurd (omega (arith, is))
runs_by n m false before after is less e = rw (e, less) is

pub version_over : (wanted : List Ask) (asked : Asked) → KnowsKinds wanted (Some Version) asked
    → KnowsKinds (without_place (place_of Version wanted) wanted) None (with_asked Version false asked)
version_over wanted asked knows kind other =
    runs_by (count_of kind wanted) (count_of kind (without_place (place_of Version wanted) wanted)) (is_same_kind Version kind) (is_asked kind asked)
    (is_asked kind (with_asked Version false asked)) (knows kind other) (without_all Version kind wanted (is_same_kind Version kind) refl)
    (asked_with Version kind false asked other)

-- it is only wanted
wanted_by : (n m : ℕ) (same own before after : Bool) → n + count_if own ≡ count_if before → m ≡ (if same then n - 1 else n)
    → (same ≡ true → not (n == 0) ≡ true) → after ≡ (if same then false else before) → m + count_if own ≡ count_if after
wanted_by n m true own before after is less some e = rw e (by n own before is less (some refl))
  where
    by : (n : ℕ) (own before : Bool) → n + count_if own ≡ count_if before → m ≡ n - 1 → not (n == 0) ≡ true → m + count_if own ≡ 0
    by zero own before is less some = absurd (cc)
    by (suc n) true true is less some = absurd (omega (arith, is))
    by (suc n) false true is less some = omega (arith, is, less)
    by (suc n) own false is less some = absurd (omega (arith, is))
wanted_by n m false own before after is less some e = rw (e, less) is

pub version_unwanted : (wanted : List Ask) (own : Option Kind) (asked : Asked) → is_wanted Version wanted ≡ true → KnowsKinds wanted own asked
    → KnowsKinds (without_place (place_of Version wanted) wanted) own (with_asked Version false asked)
version_unwanted wanted own asked some knows kind other =
    wanted_by (count_of kind wanted) (count_of kind (without_place (place_of Version wanted) wanted)) (is_same_kind Version kind) (is_kind own kind)
    (is_asked kind asked) (is_asked kind (with_asked Version false asked)) (knows kind other)
    (without_all Version kind wanted (is_same_kind Version kind) refl)
    (λ same. subst (λ (k : Kind). not (count_of k wanted == 0) ≡ true) (same_kinds Version kind same) (sym (wanted-counted Version wanted) ∙ some))
    (asked_with Version kind false asked other)

-- it is neither
pub none_placed : (wanted : List Ask) (place : Option ℕ) → is_none place ≡ true → without_place place wanted ≡ wanted
none_placed wanted None is = refl
none_placed wanted (Some place) is = absurd (cc)
