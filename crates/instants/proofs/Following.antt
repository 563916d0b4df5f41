-- Each call keeps an end at the parameters and the anchor that its indications give.
use Rattle.std.proofs.Common.{◌≡◌, ◌⊎◌, inl, inr, ℕ, zero, suc, ◌+◌, ◌<◌, ◌≤◌, Bool, true, false, cond, nat_lt}
use Rattle.std.proofs.Common.{nat_eq, List, [], ◌∷◌, ◌++◌, length, Option, Some, None, IfSome, refl, sym, ap, ◌∙◌}
use Rattle.std.proofs.Common.{arith, length-append}
use Rattle.std.specs.List.{All}
use Rattle.std.proofs.lemmas.List.{append-nil}
use Rattle.std.proofs.lemmas.List.Elements.{All-nil, All-push, All-weaker}
use Rattle.instants.specs.declared.indications.Params.{Params}
use Rattle.instants.specs.declared.indications.Indication.{Indication}
use Rattle.instants.specs.declared.track.Change.{Change}
use Rattle.instants.specs.Parameters.{params_after, params_in, anchor_in}
use Rattle.instants.specs.Track.{TrackFacts, first_facts, event_of, is_due, track_after_take, track_unchanged}
use Rattle.instants.specs.Track.{track_changed, track_in_next, track_after_enter, spacing_of}
use Rattle.instants.specs.Follows.{Follows, new_changes}
use Rattle.instants.proofs.Changes.{IsPast, params_in-due, params_in-past, event_offset-other, event_offset-past}
use Rattle.instants.proofs.Changes.{anchor_in-at, anchor_in-past}

pub Follows-first : (first : Params) (slot : ℕ) → Follows first slot [] (first_facts first slot)
Follows-first first slot =
    record { params = refl; anchor = refl; number = refl; past = All-nil _; ahead = tt; before = λ e. (refl, refl) }

pub Follows-taken : (first : Params) (slot : ℕ) (changes : List Change) (t : TrackFacts) (indication : Indication)
    → 1 ≤ t.entered → Follows first slot changes t → Follows first slot changes (track_after_take t indication)
Follows-taken first slot changes t indication in_event f =
    record {
      params = f.params;
      anchor = f.anchor;
      number = f.number;
      past = f.past;
      ahead = omega arith;
      before = λ e. absurd (omega arith);
    }

Follows-at : (first : Params) (slot : ℕ) (changes : List Change) (t : TrackFacts) (event : ℕ) → t.entered ≡ suc event
    → t.params ≡ params_in first changes event → t.anchor ≡ anchor_in slot first changes event
    → t.applied ≡ length changes
    → All (IsPast event) changes → IfSome t.waits (λ change. event ≤ change.at.0) → Follows first slot changes t
Follows-at first slot changes t event is params anchor number past ahead =
    let e : event_of t ≡ event = omega arith in
    record {
      params = rw e params;
      anchor = rw e anchor;
      number = number;
      past = rw e past;
      ahead = rw e ahead;
      before = λ none. absurd (omega arith);
    }

past_later : (event : ℕ) (changes : List Change) → All (IsPast event) changes → All (IsPast (suc event)) changes
past_later event changes h = All-weaker (IsPast event) (IsPast (suc event)) (λ c k. omega arith) changes h

-- the anchor of the next event, which is that of a change
anchor-at : (slot : ℕ) (first : Params) (changes : List Change) (change : Change) (event : ℕ)
    → All (IsPast event) changes
    → change.at.0 ≡ suc event
    → anchor_in slot first changes event + spacing_of (Some change) (params_in first changes event) (suc event)
    ≡ anchor_in slot first (changes ++ change ∷ []) (suc event)
anchor-at slot first changes change event past at =
    let on : nat_lt change.at.0 (suc event) ≡ false = grind arith in
    let not_first : nat_eq change.at.0 0 ≡ false = grind arith in
    let not_over : nat_lt (suc event) change.at.0 ≡ false = grind arith in
    let moved = anchor_in-at slot first changes change event at in
    let unmoved = anchor_in-past slot first changes event past in
    rw (on, not_first, not_over) (omega (arith, moved, unmoved))

-- and of one that comes late: the event of a change was entered before it was taken
anchor-late : (slot : ℕ) (first : Params) (changes : List Change) (change : Change) (event : ℕ)
    → All (IsPast event) changes
    → change.at.0 ≡ event
    → anchor_in slot first changes event + spacing_of (Some change) (params_in first changes event) (suc event)
    ≡ anchor_in slot first (changes ++ change ∷ []) (suc event)
anchor-late slot first changes change zero past at =
    let over : nat_lt change.at.0 1 ≡ true = grind arith in
    let is_first : nat_eq change.at.0 0 ≡ true = grind arith in
    let interval = ap (λ (p : Params). p.interval) (params_in-due first changes change 0 (omega arith)) in
    let offset = event_offset-other changes change 1 (λ e. omega arith) in
    rw (over, is_first) (omega (arith, interval, offset, event_offset-past changes 0 past))
anchor-late slot first changes change (suc event) past at =
    let over : nat_lt change.at.0 (suc (suc event)) ≡ true = grind arith in
    let not_first : nat_eq change.at.0 0 ≡ false = grind arith in
    let not_ahead : nat_lt (suc (suc event)) change.at.0 ≡ false = grind arith in
    let interval = ap (λ (p : Params). p.interval) (params_in-due first changes change (suc event) (omega arith)) in
    let offset = event_offset-other changes change (suc (suc event)) (λ e. omega arith) in
    let anchor = anchor_in-at slot first changes change event at in
    rw (over, not_first, not_ahead) (omega (
      arith,
      interval,
      offset,
      anchor,
      event_offset-past changes
          (suc event) past,
    ))

anchor-due : (slot : ℕ) (first : Params) (changes : List Change) (change : Change) (event : ℕ)
    → All (IsPast event) changes
    → (change.at.0 ≡ suc event) ⊎ (change.at.0 ≡ event)
    → anchor_in slot first changes event + spacing_of (Some change) (params_in first changes event) (suc event)
    ≡ anchor_in slot first (changes ++ change ∷ []) (suc event)
anchor-due slot first changes change event past (inl at) = anchor-at slot first changes change event past at
anchor-due slot first changes change event past (inr at) = anchor-late slot first changes change event past at

-- the parameters of the next event, from which on a further change holds
params-due : (first : Params) (changes : List Change) (change : Change) (event : ℕ) → All (IsPast event) changes
    → change.at.0 ≤ suc event
    → params_in first (changes ++ change ∷ []) (suc event) ≡ params_after
    (params_in first changes event) change.indication
params-due first changes change event past due =
    params_in-due first changes change (suc event) due
    ∙ ap (λ (p : Params). params_after p change.indication) (params_in-past first changes event past)

-- the next event, from which on this change holds
changed_follows : (first : Params) (slot : ℕ) (changes : List Change) (t : TrackFacts) (change : Change) (event : ℕ)
    → t.entered ≡ suc event → t.waits ≡ Some change → (change.at.0 ≡ suc event) ⊎ (change.at.0 ≡ event)
    → Follows first slot changes t → Follows first slot (changes ++ change ∷ []) (track_changed change t)
changed_follows first slot changes t change event is waits due f =
    let e : event_of t ≡ event = omega arith in
    let past = rw e at f.past in
    let in_time : change.at.0 ≤ suc event = due_le due in
    let started : nat_eq t.entered 0 ≡ false = grind arith in
    Follows-at first slot (changes ++ change ∷ []) (track_changed change t) (suc event) (omega arith)
    (rw (f.params, e) (sym (params-due first changes change event past in_time)))
    (rw (started, waits, is, f.anchor, f.params, e) (anchor-due slot first changes change event past due))
    (omega (arith, f.number, length-append changes (change ∷ [])))
    (All-push (IsPast (suc event)) changes change (past_later event changes past) in_time)
    tt
  where
    due_le : (change.at.0 ≡ suc event) ⊎ (change.at.0 ≡ event) → change.at.0 ≤ suc event
    due_le (inl at) = omega arith
    due_le (inr at) = omega arith

-- the next event, from which on no further change holds
unchanged_follows : (first : Params) (slot : ℕ) (changes : List Change) (t : TrackFacts) (event : ℕ)
    → t.entered ≡ suc event
    → spacing_of t.waits t.params (suc event) ≡ t.params.interval → IfSome t.waits (λ change. suc event ≤ change.at.0)
    → Follows first slot changes t → Follows first slot changes (track_unchanged t)
unchanged_follows first slot changes t event is spacing ahead f =
    let e : event_of t ≡ event = omega arith in
    let past = rw e at f.past in
    let started : nat_eq t.entered 0 ≡ false = grind arith in
    Follows-at first slot changes (track_unchanged t) (suc event) (omega arith)
    (rw (f.params, e) (sym (params_in-past first changes event past)))
    (rw (started, is, spacing, f.anchor, f.params, e) (sym (anchor_in-past slot first changes event past)))
    f.number
    (past_later event changes past)
    ahead

-- the next event, with a change that waits: it is due where its event is the next or was entered before it was taken
entered_with_change : (due : Bool) (first : Params) (slot : ℕ) (changes : List Change) (t : TrackFacts)
    (change : Change) (event : ℕ)
    → is_due change t.entered ≡ due → t.entered ≡ suc event → t.waits ≡ Some change → event ≤ change.at.0
    → Follows first slot changes t
    → Follows first slot (changes ++ cond due (change ∷ []) [])
    (cond due (track_changed change t) (track_unchanged t))
entered_with_change true first slot changes t change event due is waits ahead f =
    changed_follows first slot changes t change event is waits (next_or_last change.at.0 event (grind arith) ahead) f
  where
    next_or_last : (at event : ℕ) → at ≤ suc event → event ≤ at → (at ≡ suc event) ⊎ (at ≡ event)
    next_or_last at event h k = grind arith
entered_with_change false first slot changes t change event due is waits ahead f =
    let later : suc event < change.at.0 = grind arith in
    let not_over : nat_lt change.at.0 (suc event) ≡ false = grind arith in
    let not_yet : nat_lt (suc event) change.at.0 ≡ true = grind arith in
    let not_first : nat_eq change.at.0 0 ≡ false = grind arith in
    rw (append-nil changes)
    (unchanged_follows first slot changes t event is
    (rw (waits, not_over, not_first, not_yet) (omega arith))
    (rw waits (omega arith))
    f)

-- the next event, whatever waits
entered_with_any : (first : Params) (slot : ℕ) (changes : List Change) (t : TrackFacts) (entered : ℕ)
    (waits : Option Change)
    → t.entered ≡ entered → t.waits ≡ waits → Follows first slot changes t
    → Follows first slot (changes ++ new_changes waits entered) (track_in_next waits t)
entered_with_any first slot changes t zero None is waits f =
    let none = f.before is in
    let e : event_of t ≡ 0 = omega arith in
    let start : nat_eq t.entered 0 ≡ true = grind arith in
    rw (append-nil changes)
    (Follows-at first slot changes (track_unchanged t) 0 (omega arith)
    (rw e at f.params)
    (rw start (rw e at f.anchor))
    f.number
    (rw e at f.past)
    (rw none.1 tt))
entered_with_any first slot changes t zero (Some change) is waits f =
    let none : t.waits ≡ None = (f.before is).1 in absurd (cc)
entered_with_any first slot changes t (suc event) None is waits f =
    rw (append-nil changes) (unchanged_follows first slot changes t event is (rw waits refl) (rw waits tt) f)
entered_with_any first slot changes t (suc event) (Some change) is waits f =
    let ahead = rw waits at f.ahead in
    rw (← is) (entered_with_change (is_due change t.entered) first slot changes t change event refl is waits
    (omega (arith, ahead)) f)

pub Follows-entered : (first : Params) (slot : ℕ) (changes : List Change) (t : TrackFacts)
    → Follows first slot changes t
    → Follows first slot (changes ++ new_changes t.waits t.entered) (track_after_enter t)
Follows-entered first slot changes t f = entered_with_any first slot changes t t.entered t.waits refl refl f
