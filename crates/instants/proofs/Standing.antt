-- Event by event: what was taken so far is what holds and at most one indication that waits.
use Rattle.std.proofs.Common.{◌≡◌, ℕ, suc, ◌+◌, ◌-◌, ◌<◌, ◌≤◌, Bool, true, false, cond, ◌&&◌, nat_le, nat_lt, nat_eq}
use Rattle.std.proofs.Common.{List, [], ◌∷◌, ◌++◌, length, map, filter, Option, Some, None, refl, sym, ap, subst, ◌∙◌}
use Rattle.std.proofs.Common.{arith, length-append, append_assoc, add-zero, zero-add}
use Rattle.std.specs.Option.{option_to_list, option_map}
use Rattle.std.specs.List.{All, position_or_len}
use Rattle.std.proofs.lemmas.List.{append-nil, map_push, map-append, length-map}
use Rattle.std.proofs.lemmas.List.Elements.{filter-append, All-nil, All-head, All-tail, All-push, All-weaker}
use Rattle.std.proofs.lemmas.List.Folds.{position_or_len_push}
use Rattle.instants.specs.declared.indications.Params.{Params}
use Rattle.instants.specs.declared.indications.Indication.{Indication}
use Rattle.instants.specs.declared.track.Change.{Change}
use Rattle.instants.specs.Parameters.{params_in, anchor_in}
use Rattle.instants.specs.Track.{TrackFacts, first_facts, event_of, is_due, is_free, gap_ahead, track_after_take}
use Rattle.instants.specs.Track.{track_after_enter}
use Rattle.instants.specs.Track.{next_anchor_of, next_number}
use Rattle.instants.specs.Follows.{Follows, AreTogether, new_changes}
use Rattle.instants.specs.Arrivals.{Taking, first_event, taking_of, is_taken, takings_from, all_takings}
use Rattle.instants.specs.Arrivals.{changes_in_force, number_starting_in, track_after_offer, track_from, track_after}
use Rattle.instants.proofs.Following.{Follows-first, Follows-taken, Follows-entered}

abbrev changes_of : List Taking → List Change
changes_of takings = map (λ taking. taking.change) takings

-- from event free on nothing waits: that is over, or it is the first event of what waits
abbrev Waits : Option Taking → ℕ → ℕ → Type 0
Waits None free event = free ≤ event
Waits (Some k) free event = (event < first_event k) × (first_event k ≡ free) × (k.taken_in ≤ event)

-- what was taken so far, as an end in this event knows it
record Stands (first : Params) (slot : ℕ) (takings : List Taking) (free event : ℕ) (t : TrackFacts) : Type 0 where
  holding : List Taking
  waiting : Option Taking
  all : takings ≡ holding ++ option_to_list waiting
  entered : t.entered ≡ suc event
  follows : Follows first slot (changes_of holding) t
  waits : t.waits ≡ option_map (λ taking. taking.change) waiting
  over : All (λ taking. first_event taking ≤ event) holding
  ahead : Waits waiting free event

-- ---- an indication comes

abbrev taken_now : ℕ → ℕ → Option Indication → List Taking
taken_now event free None = []
taken_now event free (Some indication) = cond (is_taken event free indication) (taking_of event indication ∷ []) []

abbrev free_next : ℕ → ℕ → Option Indication → ℕ
free_next event free None = free
free_next event free (Some indication) = cond (is_taken event free indication)
    (first_event (taking_of event indication)) free

takings_from-next : (event free : ℕ) (arrival : Option Indication) (more : List (Option Indication))
    → takings_from event free (arrival ∷ more) ≡ taken_now event free arrival ++ takings_from (suc event)
    (free_next event free arrival) more
takings_from-next event free None more = refl
takings_from-next event free (Some indication) more = by_test (is_taken event free indication) refl
  where
    by_test : (test : Bool) → is_taken event free indication ≡ test
        → takings_from event free (Some indication ∷ more)
        ≡ taken_now event free (Some indication) ++ takings_from (suc event)
        (free_next event free (Some indication)) more
    by_test true e = rw e refl
    by_test false e = rw e refl

free_if_over : (waiting : Option Taking) (free event : ℕ) (t : TrackFacts)
    → t.waits ≡ option_map (λ taking. taking.change) waiting
    → Waits waiting free event → is_free t ≡ nat_le free event
free_if_over None free event t waits h =
    let over : nat_le free event ≡ true = grind arith in rw (waits, over) refl
free_if_over (Some k) free event t waits h =
    let ahead : nat_le free event ≡ false = grind (arith, h.0, h.1) in rw (waits, ahead) refl

-- the end takes it
stands_taking : (first : Params) (slot : ℕ) (takings : List Taking) (free event : ℕ) (t : TrackFacts)
    (indication : Indication)
    (s : Stands first slot takings free event t) (waiting : Option Taking) → s.waiting ≡ waiting → free ≤ event
    → Stands first slot (takings ++ taking_of event indication ∷ [])
    (first_event (taking_of event indication)) event (track_after_take t indication)
stands_taking first slot takings free event t indication s None none over =
    let e : event_of t ≡ event = omega (arith, s.entered) in
    record {
      holding = s.holding;
      waiting = Some (taking_of event indication);
      all = rw s.all (rw none (ap (λ (xs : List Taking). xs ++ taking_of event indication ∷ [])
          (append-nil s.holding)));
      entered = s.entered;
      follows = Follows-taken first slot (changes_of s.holding) t indication (omega (arith, s.entered)) s.follows;
      waits = rw e refl;
      over = s.over;
      ahead = (omega arith, refl, omega arith);
    }
stands_taking first slot takings free event t indication s (Some k) some over =
    let ahead = rw some at s.ahead in absurd (omega (arith, ahead.0, ahead.1))

stands_offered : (first : Params) (slot : ℕ) (takings : List Taking) (free event : ℕ) (t : TrackFacts)
    (arrival : Option Indication)
    → Stands first slot takings free event t
    → Stands first slot (takings ++ taken_now event free arrival) (free_next event free arrival) event
    (track_after_offer arrival t)
stands_offered first slot takings free event t None s = rw (append-nil takings) s
stands_offered first slot takings free event t (Some indication) s = by_test (is_taken event free indication) refl
  where
    e : event_of t ≡ event
    e = omega (arith, s.entered)

    same : (is_free t && nat_lt (gap_ahead (event_of t) indication) 32767) ≡ is_taken event free indication
    same = rw (e, free_if_over s.waiting free event t s.waits s.ahead) refl

    over_if : (a b : Bool) → (nat_le free event && b) ≡ true → free ≤ event
    over_if a b h = grind arith

    by_test : (test : Bool) → is_taken event free indication ≡ test
        → Stands first slot (takings ++ taken_now event free (Some indication))
        (free_next event free (Some indication)) event
        (track_after_offer (Some indication) t)
    by_test true is =
        rw (same, is)
        (stands_taking first slot takings free event t indication s s.waiting refl
        (over_if true (nat_lt (gap_ahead event indication) 32767) is))
    by_test false is = rw (same, is, append-nil takings) s

-- ---- the next event

later_over : (event : ℕ) (takings : List Taking) → All (λ taking. first_event taking ≤ event) takings
    → All (λ taking. first_event taking ≤ suc event) takings
later_over event takings h =
    All-weaker (λ taking. first_event taking ≤ event) (λ taking. first_event taking ≤ suc event)
    (λ k o. omega arith) takings h

-- what waits is due in the next event where that is its first event
due_if_first : (k : Taking) (event : ℕ) → k.taken_in ≤ event → is_due k.change (suc event)
    ≡ nat_le (first_event k) (suc event)
due_if_first k event before = grind arith

follows_with : (first : Params) (slot : ℕ) (changes new : List Change) (t : TrackFacts)
    → new_changes t.waits t.entered ≡ new
    → Follows first slot changes t → Follows first slot (changes ++ new) (track_after_enter t)
follows_with first slot changes new t e f =
    let P : List Change → Type 0 = λ more. Follows first slot (changes ++ more) (track_after_enter t) in
    subst P e (Follows-entered first slot changes t f)

stands_none : (first : Params) (slot : ℕ) (takings : List Taking) (free event : ℕ) (t : TrackFacts)
    (s : Stands first slot takings free event t) → s.waiting ≡ None
    → Stands first slot takings free (suc event) (track_after_enter t)
stands_none first slot takings free event t s none =
    let waits : t.waits ≡ None = rw none at s.waits in
    let ahead = rw none at s.ahead in
    let f = follows_with first slot (changes_of s.holding) [] t (rw waits refl) s.follows in
    record {
      holding = s.holding;
      waiting = None;
      all = rw none at s.all;
      entered = rw waits (omega (arith, s.entered));
      follows = rw (append-nil (changes_of s.holding)) at f;
      waits = rw waits refl;
      over = later_over event s.holding s.over;
      ahead = omega (arith, ahead);
    }

stands_some : (due : Bool) (first : Params) (slot : ℕ) (takings : List Taking) (free event : ℕ) (t : TrackFacts)
    (k : Taking)
    (s : Stands first slot takings free event t) → s.waiting ≡ Some k → nat_le (first_event k) (suc event) ≡ due
    → Stands first slot takings free (suc event) (track_after_enter t)
stands_some true first slot takings free event t k s some due =
    let waits : t.waits ≡ Some k.change = rw some at s.waits in
    let ahead = rw some at s.ahead in
    let is : is_due k.change (suc event) ≡ true = due_if_first k event ahead.2 ∙ due in
    let f = follows_with first slot (changes_of s.holding) (k.change ∷ []) t
    (rw (waits, s.entered, is) refl) s.follows in
    record {
      holding = s.holding ++ k ∷ [];
      waiting = None;
      all = rw some at s.all ∙ sym (append-nil (s.holding ++ k ∷ []));
      entered = rw (waits, s.entered, is) (omega (arith, s.entered));
      follows = rw (map_push (λ (taking : Taking). taking.change) s.holding k) f;
      waits = rw (waits, s.entered, is) refl;
      over = All-push (λ taking. first_event taking ≤ suc event) s.holding k (later_over event s.holding s.over)
          (grind arith);
      ahead = grind (arith, ahead.1);
    }
stands_some false first slot takings free event t k s some due =
    let waits : t.waits ≡ Some k.change = rw some at s.waits in
    let ahead = rw some at s.ahead in
    let is : is_due k.change (suc event) ≡ false = due_if_first k event ahead.2 ∙ due in
    let f = follows_with first slot (changes_of s.holding) [] t (rw (waits, s.entered, is) refl) s.follows in
    record {
      holding = s.holding;
      waiting = Some k;
      all = rw some at s.all;
      entered = rw (waits, s.entered, is) (omega (arith, s.entered));
      follows = rw (append-nil (changes_of s.holding)) at f;
      waits = rw (waits, s.entered, is) refl;
      over = later_over event s.holding s.over;
      ahead = (grind arith, ahead.1, omega (arith, ahead.2));
    }

stands_entered : (first : Params) (slot : ℕ) (takings : List Taking) (free event : ℕ) (t : TrackFacts)
    → Stands first slot takings free event t → Stands first slot takings free (suc event) (track_after_enter t)
stands_entered first slot takings free event t s = by_waiting s.waiting refl
  where
    by_waiting : (waiting : Option Taking) → s.waiting ≡ waiting
        → Stands first slot takings free (suc event) (track_after_enter t)
    by_waiting None e = stands_none first slot takings free event t s e
    by_waiting (Some k) e = stands_some (nat_le (first_event k) (suc event)) first slot takings free event t k s e refl

-- ---- what follows from it

record Ends (first : Params) (slot : ℕ) (takings : List Taking) (event : ℕ) (t : TrackFacts) : Type 0 where
  entered : t.entered ≡ suc event
  follows : Follows first slot (changes_in_force event takings) t
  next_anchor : next_anchor_of t ≡ anchor_in slot first (changes_in_force (suc event) takings) (suc event)
  number : next_number t ≡ number_starting_in (suc event) takings

filter-all : (test : Taking → Bool) (takings : List Taking) → All (λ taking. test taking ≡ true) takings
    → filter test takings ≡ takings
filter-all test [] h = refl
filter-all test (k ∷ takings) h =
    rw (All-head (λ taking. test taking ≡ true) k takings h)
    (ap (λ (more : List Taking). k ∷ more) (filter-all test takings
    (All-tail (λ taking. test taking ≡ true) k takings h)))

prefix-all : (test : Taking → Bool) (takings : List Taking) → All (λ taking. test taking ≡ false) takings
    → position_or_len test takings ≡ length takings
prefix-all test [] h = refl
prefix-all test (k ∷ takings) h =
    rw (All-head (λ taking. test taking ≡ false) k takings h)
    (omega (arith, prefix-all test takings (All-tail (λ taking. test taking ≡ false) k takings h)))

-- what holds by an event is what is over by then, and what waits if it is due
changes_in_force-parts : (event : ℕ) (holding waiting : List Taking)
    → All (λ taking. first_event taking ≤ event) holding
    → changes_in_force event (holding ++ waiting) ≡ changes_of holding ++ changes_in_force event waiting
changes_in_force-parts event holding waiting h =
    let test = λ (taking : Taking). nat_le (first_event taking) event in
    let pass = All-weaker (λ taking. first_event taking ≤ event)
    (λ taking. nat_le (first_event taking) event ≡ true) (λ k o. grind arith) holding h in
    ap changes_of (filter-append test holding waiting ∙ ap (λ (xs : List Taking). xs ++ filter test waiting)
    (filter-all test holding pass))
    ∙ map-append (λ (taking : Taking). taking.change) holding (filter test waiting)

-- the number of what holds from the next event on
not_first : (event : ℕ) (holding : List Taking) → All (λ taking. first_event taking ≤ event) holding
    → All (λ taking. nat_eq (first_event taking) (suc event) ≡ false) holding
not_first event holding h =
    All-weaker (λ taking. first_event taking ≤ event) (λ taking. nat_eq (first_event taking) (suc event) ≡ false)
    (λ k o. grind arith) holding h

number_starting_in-none : (event : ℕ) (holding : List Taking) → All (λ taking. first_event taking ≤ event) holding
    → number_starting_in (suc event) holding ≡ None
number_starting_in-none event holding h =
    let test = λ (taking : Taking). nat_eq (first_event taking) (suc event) in
    let len : position_or_len test holding ≡ length holding = prefix-all test holding (not_first event holding h) in
    let none : nat_lt (length holding) (length holding) ≡ false = grind arith in
    rw (len, none) refl

number_starting_in-one : (first : Bool) (event : ℕ) (holding : List Taking) (k : Taking)
    → All (λ taking. first_event taking ≤ event) holding
    → nat_eq (first_event k) (suc event) ≡ first
    → number_starting_in (suc event) (holding ++ k ∷ []) ≡ cond first (Some (length holding + 1)) None
number_starting_in-one true event holding k h is =
    let test = λ (taking : Taking). nat_eq (first_event taking) (suc event) in
    let len : position_or_len test holding ≡ length holding = prefix-all test holding (not_first event holding h) in
    let same : nat_eq (length holding) (length holding) ≡ true = grind arith in
    let at : position_or_len test (holding ++ k ∷ []) ≡ length holding =
    position_or_len_push test holding k ∙ rw (len, same, is) (omega arith) in
    let within : nat_lt (length holding) (length (holding ++ k ∷ []))
    ≡ true = grind (arith, length-append holding (k ∷ [])) in
    rw (at, within) refl
number_starting_in-one false event holding k h is =
    let test = λ (taking : Taking). nat_eq (first_event taking) (suc event) in
    let len : position_or_len test holding ≡ length holding = prefix-all test holding (not_first event holding h) in
    let same : nat_eq (length holding) (length holding) ≡ true = grind arith in
    let at : position_or_len test (holding ++ k ∷ []) ≡ length holding + 1 =
    position_or_len_push test holding k ∙ rw (len, same, is) (omega arith) in
    let past : nat_lt (length holding + 1) (length (holding ++ k ∷ []))
    ≡ false = grind (arith, length-append holding (k ∷ [])) in
    rw (at, past) refl

changes_in_force-stands : (first : Params) (slot : ℕ) (takings : List Taking) (free event : ℕ) (t : TrackFacts)
    (s : Stands first slot takings free event t) → changes_in_force event takings ≡ changes_of s.holding
changes_in_force-stands first slot takings free event t s =
    ap (changes_in_force event) s.all
    ∙ changes_in_force-parts event s.holding (option_to_list s.waiting) s.over
    ∙ ap (λ (more : List Change). changes_of s.holding ++ more) (none_waiting s.waiting s.ahead)
    ∙ append-nil (changes_of s.holding)
  where
    none_waiting : (waiting : Option Taking) → Waits waiting free event
        → changes_in_force event (option_to_list waiting) ≡ []
    none_waiting None h = refl
    none_waiting (Some k) h = let not_yet : nat_le (first_event k) event ≡ false = grind (arith, h.0) in rw not_yet refl

anchor-entered : (t : TrackFacts) (waits : Option Change) → t.waits ≡ waits
    → (track_after_enter t).anchor ≡ next_anchor_of t
anchor-entered t None e = rw e refl
anchor-entered t (Some change) e = by_test (is_due change t.entered) refl
  where
    by_test : (due : Bool) → is_due change t.entered ≡ due → (track_after_enter t).anchor ≡ next_anchor_of t
    by_test true is = rw (e, is) refl
    by_test false is = rw (e, is) refl

next_number-stands : (first : Params) (slot : ℕ) (takings : List Taking) (free event : ℕ) (t : TrackFacts)
    (s : Stands first slot takings free event t) → next_number t ≡ number_starting_in (suc event) takings
next_number-stands first slot takings free event t s = by_waiting s.waiting refl
  where
    count : t.applied ≡ length s.holding
    count = s.follows.number ∙ length-map s.holding (λ taking. taking.change)

    -- the first event of what waits is the next one where it is due there
    first_if_due : (k : Taking) → event < first_event k → k.taken_in ≤ event
        → nat_eq (first_event k) (suc event) ≡ is_due k.change (suc event)
    first_if_due k h before = grind arith

    by_due : (k : Taking) (due : Bool) → s.waiting ≡ Some k → is_due k.change (suc event) ≡ due
        → next_number t ≡ number_starting_in (suc event) takings
    by_due k true some is =
        let waits : t.waits ≡ Some k.change = rw some at s.waits in
        let ahead = rw some at s.ahead in
        let all : takings ≡ s.holding ++ k ∷ [] = rw some at s.all in
        rw (waits, s.entered, is, count, all)
        (sym (number_starting_in-one true event s.holding k s.over (first_if_due k ahead.0 ahead.2 ∙ is)))
    by_due k false some is =
        let waits : t.waits ≡ Some k.change = rw some at s.waits in
        let ahead = rw some at s.ahead in
        let all : takings ≡ s.holding ++ k ∷ [] = rw some at s.all in
        rw (waits, s.entered, is, all)
        (sym (number_starting_in-one false event s.holding k s.over (first_if_due k ahead.0 ahead.2 ∙ is)))

    by_waiting : (waiting : Option Taking) → s.waiting ≡ waiting
        → next_number t ≡ number_starting_in (suc event) takings
    by_waiting None none =
        let waits : t.waits ≡ None = rw none at s.waits in
        let all : takings ≡ s.holding = (rw none at s.all) ∙ append-nil s.holding in
        rw (waits, all) (sym (number_starting_in-none event s.holding s.over))
    by_waiting (Some k) some = by_due k (is_due k.change (suc event)) some refl

ends : (first : Params) (slot : ℕ) (takings : List Taking) (free event : ℕ) (t : TrackFacts)
    → Stands first slot takings free event t → Ends first slot takings event t
ends first slot takings free event t s =
    let next = stands_entered first slot takings free event t s in
    let at : event_of (track_after_enter t) ≡ suc event = omega (arith, next.entered) in
    record {
      entered = s.entered;
      follows = rw (changes_in_force-stands first slot takings free event t s) s.follows;
      next_anchor =
          sym (anchor-entered t t.waits refl)
          ∙ next.follows.anchor
          ∙ ap (anchor_in slot first (changes_of next.holding)) at
          ∙ ap (λ (cs : List Change). anchor_in slot first cs (suc event))
          (sym (changes_in_force-stands first slot takings free (suc event) (track_after_enter t) next));
      number = next_number-stands first slot takings free event t s;
    }

-- ---- one event after the other

runs : (first : Params) (slot : ℕ) (more : List (Option Indication)) (takings : List Taking) (free event : ℕ)
    (t : TrackFacts)
    → Stands first slot takings free event t
    → Ends first slot (takings ++ takings_from (suc event) free more) (event + length more) (track_from t more)
runs first slot [] takings free event t s =
    rw (append-nil takings, add-zero event) (ends first slot takings free event t s)
runs first slot (arrival ∷ more) takings free event t s =
    let next =
    runs first slot more (takings ++ taken_now (suc event) free arrival) (free_next (suc event) free arrival)
    (suc event)
    (track_after_offer arrival (track_after_enter t))
    (stands_offered first slot takings free (suc event) (track_after_enter t) arrival
    (stands_entered first slot takings free event t s)) in
    let all = append_assoc takings (taken_now (suc event) free arrival)
    (takings_from (suc (suc event)) (free_next (suc event) free arrival) more)
    ∙ ap (λ (xs : List Taking). takings ++ xs) (sym (takings_from-next (suc event) free arrival more)) in
    let last : suc event + length more ≡ event + suc (length more) = omega arith in
    rw last at (rw all at next)

first_stands : (first : Params) (slot : ℕ) → Stands first slot [] 0 0 (track_after_enter (first_facts first slot))
first_stands first slot =
    record {
      holding = [];
      waiting = None;
      all = refl;
      entered = omega arith;
      follows = Follows-entered first slot [] (first_facts first slot) (Follows-first first slot);
      waits = refl;
      over = All-nil _;
      ahead = omega arith;
    }

track_ends : (first : Params) (slot : ℕ) (arrival : Option Indication) (more : List (Option Indication))
    → Ends first slot (all_takings (arrival ∷ more)) (length more) (track_after first slot (arrival ∷ more))
track_ends first slot arrival more =
    let s = stands_offered first slot [] 0 0 (track_after_enter (first_facts first slot)) arrival
    (first_stands first slot) in
    let r = runs first slot more (taken_now 0 0 arrival) (free_next 0 0 arrival) 0
    (track_after_offer arrival (track_after_enter (first_facts first slot))) s in
    rw (takings_from-next 0 0 arrival more) (rw (zero-add (length more)) at r)

-- ---- for every list of indications

pub events_are_counted : (first : Params) (slot : ℕ) (arrivals : List (Option Indication))
    → (track_after first slot arrivals).entered ≡ length arrivals
events_are_counted first slot [] = refl
events_are_counted first slot (arrival ∷ more) = (track_ends first slot arrival more).entered

pub track_follows : (first : Params) (slot : ℕ) (arrivals : List (Option Indication))
    → Follows first slot (changes_in_force (length arrivals - 1) (all_takings arrivals))
    (track_after first slot arrivals)
track_follows first slot [] = Follows-first first slot
track_follows first slot (arrival ∷ more) =
    let last : length (arrival ∷ more) - 1 ≡ length more = omega arith in
    rw last ((track_ends first slot arrival more).follows)

pub next_anchor_follows : (first : Params) (slot : ℕ) (arrivals : List (Option Indication))
    → next_anchor_of (track_after first slot arrivals) ≡ anchor_in slot first
    (changes_in_force (length arrivals) (all_takings arrivals)) (length arrivals)
next_anchor_follows first slot [] = refl
next_anchor_follows first slot (arrival ∷ more) = (track_ends first slot arrival more).next_anchor

pub number_follows : (first : Params) (slot : ℕ) (arrivals : List (Option Indication))
    → next_number (track_after first slot arrivals) ≡ number_starting_in (length arrivals) (all_takings arrivals)
number_follows first slot [] = refl
number_follows first slot (arrival ∷ more) = (track_ends first slot arrival more).number

-- two ends that let the same indications hold

pub together : (first : Params) (slot : ℕ) (changes : List Change) (a b : TrackFacts)
    → Follows first slot changes a → Follows first slot changes b
    → a.entered ≡ b.entered → AreTogether a b
together first slot changes a b f g same =
    let event : event_of a ≡ event_of b = omega arith in
    record {
      event = same;
      anchor = f.anchor ∙ ap (anchor_in slot first changes) event ∙ sym g.anchor;
      params = f.params ∙ ap (params_in first changes) event ∙ sym g.params;
    }

pub ends_are_together : (first : Params) (slot : ℕ) (a b : List (Option Indication)) → length a ≡ length b
    → changes_in_force (length a - 1) (all_takings a) ≡ changes_in_force (length b - 1) (all_takings b)
    → AreTogether (track_after first slot a) (track_after first slot b)
ends_are_together first slot a b count same =
    let P : List Change → Type 0 = λ changes. Follows first slot changes (track_after first slot a) in
    together first slot (changes_in_force (length b - 1) (all_takings b)) (track_after first slot a)
    (track_after first slot b)
    (subst P same (track_follows first slot a))
    (track_follows first slot b)
    (events_are_counted first slot a ∙ count ∙ sym (events_are_counted first slot b))
