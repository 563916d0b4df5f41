-- One change more, in the parameters and the anchor of an event.
use Rattle.std.proofs.Common.{◌≡◌, ℕ, zero, suc, ◌+◌, ◌<◌, ◌≤◌, Bool, true, false, cond, nat_le, nat_eq, List, []}
use Rattle.std.proofs.Common.{◌∷◌, ◌++◌, filter, sum_by, refl, sym, ap, ◌∙◌, zero-add, arith}
use Rattle.std.specs.List.{All, fold}
use Rattle.std.proofs.lemmas.List.{append-nil}
use Rattle.std.proofs.lemmas.List.Elements.{filter-append, All-head, All-tail}
use Rattle.std.proofs.lemmas.List.Sums.{fold-append, sum_by-append}
use Rattle.instants.specs.declared.indications.Params.{Params}
use Rattle.instants.specs.declared.track.Change.{Change}
use Rattle.instants.specs.Parameters.{win_offset_of, params_after, params_in, event_offset, anchor_in}

abbrev pub IsPast : ℕ → Change → Type 0
IsPast event change = change.at.0 ≤ event

filter_one : {X : Type 0} (test : X → Bool) (x : X) (passes : Bool) → test x ≡ passes
    → filter test (x ∷ []) ≡ cond passes (x ∷ []) []
filter_one test x passes e = rw e refl

-- a further change whose event has come changes the parameters
pub params_in-due : (first : Params) (changes : List Change) (change : Change) (event : ℕ) → change.at.0 ≤ event
    → params_in first (changes ++ change ∷ []) event ≡ params_after (params_in first changes event) change.indication
params_in-due first changes change event due =
    let test = λ (c : Change). nat_le c.at.0 event in
    let passes : nat_le change.at.0 event ≡ true = grind arith in
    ap (fold (λ params c. params_after params c.indication) first) (filter-append test changes (change ∷ []))
    ∙ fold-append (λ params c. params_after params c.indication) first (filter test changes) (filter test (change ∷ []))
    ∙ ap (fold (λ params c. params_after params c.indication) (params_in first changes event))
    (filter_one test change true passes)

-- and one whose event is to come does not
pub params_in-ahead : (first : Params) (changes : List Change) (change : Change) (event : ℕ) → event < change.at.0
    → params_in first (changes ++ change ∷ []) event ≡ params_in first changes event
params_in-ahead first changes change event ahead =
    let test = λ (c : Change). nat_le c.at.0 event in
    let fails : nat_le change.at.0 event ≡ false = grind arith in
    ap (fold (λ params c. params_after params c.indication) first) (filter-append test changes (change ∷ []))
    ∙ fold-append (λ params c. params_after params c.indication) first (filter test changes) (filter test (change ∷ []))
    ∙ ap (fold (λ params c. params_after params c.indication) (params_in first changes event))
    (filter_one test change false fails)

-- where all events have come, each later event has the same parameters
filter-past : (changes : List Change) (event later : ℕ) → event ≤ later → All (IsPast event) changes
    → filter (λ c. nat_le c.at.0 later) changes ≡ changes
filter-past [] event later l h = refl
filter-past (change ∷ changes) event later l h =
    let here = All-head (IsPast event) change changes h in
    let passes : nat_le change.at.0 later ≡ true = grind arith in
    rw passes (ap (λ (more : List Change). change ∷ more)
    (filter-past changes event later l (All-tail (IsPast event) change changes h)))

pub params_in-past : (first : Params) (changes : List Change) (event : ℕ) → All (IsPast event) changes
    → params_in first changes (suc event) ≡ params_in first changes event
params_in-past first changes event h =
    ap (fold (λ params c. params_after params c.indication) first)
    (filter-past changes event (suc event) (omega arith) h ∙ sym (filter-past changes event event (omega arith) h))

pub event_offset-due : (changes : List Change) (change : Change) (event : ℕ) → change.at.0 ≡ event
    → event_offset (changes ++ change ∷ []) event ≡ event_offset changes event + win_offset_of change.indication
event_offset-due changes change event due =
    let test = λ (c : Change). nat_eq c.at.0 event in
    let passes : nat_eq change.at.0 event ≡ true = grind arith in
    ap (sum_by (λ c. win_offset_of c.indication)) (filter-append test changes (change ∷ []))
    ∙ sum_by-append (λ c. win_offset_of c.indication) (filter test changes) (filter test (change ∷ []))
    ∙ ap (λ (more : List Change). event_offset changes event + sum_by (λ c. win_offset_of c.indication) more)
    (filter_one test change true passes)
    ∙ ap (λ (n : ℕ). event_offset changes event + n) (zero-add (win_offset_of change.indication))

pub event_offset-other : (changes : List Change) (change : Change) (event : ℕ) → (change.at.0 ≡ event → ⊥)
    → event_offset (changes ++ change ∷ []) event ≡ event_offset changes event
event_offset-other changes change event other =
    let test = λ (c : Change). nat_eq c.at.0 event in
    let fails : nat_eq change.at.0 event ≡ false = grind arith in
    ap (sum_by (λ c. win_offset_of c.indication))
    (filter-append test changes (change ∷ [])
    ∙ ap (λ (more : List Change). filter test changes ++ more) (filter_one test change false fails)
    ∙ append-nil (filter test changes))

-- where all events have come, the next has no offset
pub event_offset-past : (changes : List Change) (event : ℕ) → All (IsPast event) changes
    → event_offset changes (suc event) ≡ 0
event_offset-past [] event h = refl
event_offset-past (change ∷ changes) event h =
    let here = All-head (IsPast event) change changes h in
    let fails : nat_eq change.at.0 (suc event) ≡ false = grind arith in
    rw fails (event_offset-past changes event (All-tail (IsPast event) change changes h))

-- the anchor of an event before that of a change does not know of it
pub anchor_in-ahead : (slot : ℕ) (first : Params) (changes : List Change) (change : Change) (event : ℕ)
    → event < change.at.0
    → anchor_in slot first (changes ++ change ∷ []) event ≡ anchor_in slot first changes event
anchor_in-ahead slot first changes change zero ahead = refl
anchor_in-ahead slot first changes change (suc event) ahead =
    let anchor = anchor_in-ahead slot first changes change event (omega arith) in
    let interval = ap (λ (p : Params). p.interval) (params_in-ahead first changes change event (omega arith)) in
    let offset = event_offset-other changes change (suc event) (λ e. omega arith) in
    omega (arith, anchor, interval, offset)

-- that of its event comes later by its offset
pub anchor_in-at : (slot : ℕ) (first : Params) (changes : List Change) (change : Change) (event : ℕ)
    → change.at.0 ≡ suc event
    → anchor_in slot first (changes ++ change ∷ []) (suc event)
    ≡ anchor_in slot first changes (suc event) + win_offset_of change.indication
anchor_in-at slot first changes change event at =
    let anchor = anchor_in-ahead slot first changes change event (omega arith) in
    let interval = ap (λ (p : Params). p.interval) (params_in-ahead first changes change event (omega arith)) in
    let offset = event_offset-due changes change (suc event) at in
    omega (arith, anchor, interval, offset)

-- the anchor of the next event, where the events of all changes have come
pub anchor_in-past : (slot : ℕ) (first : Params) (changes : List Change) (event : ℕ) → All (IsPast event) changes
    → anchor_in slot first changes (suc event) ≡ anchor_in slot first changes event +
    (params_in first changes event).interval
anchor_in-past slot first changes event h = omega (arith, event_offset-past changes event h)
