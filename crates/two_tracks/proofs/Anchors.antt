-- The next anchor of an end and its next event, by the indication that waits.
use Rattle.std.proofs.Common.{◌≡◌, ℕ, ◌+◌, ◌<◌, ◌≤◌, Bool, true, false, nat_lt, nat_le, nat_eq, Option, Some}
use Rattle.std.proofs.Common.{None, IfSome, refl, arith}
use Rattle.instants.specs.declared.indications.Params.{Params}
use Rattle.instants.specs.declared.indications.Indication.{Indication}
use Rattle.instants.specs.declared.indications.Indication.TheVariants.{Update, Map}
use Rattle.instants.specs.declared.track.Change.{Change}
use Rattle.instants.specs.Parameters.{win_offset_of, params_after}
use Rattle.instants.specs.Track.{TrackFacts, is_due, next_anchor_of, track_after_enter}
use Rattle.two_tracks.specs.TwoEnds.{HasSlots}

-- an end in its next event with these parameters
abbrev pub entered_at : TrackFacts → ℕ → TrackFacts
entered_at t anchor = record t { entered = t.entered + 1; anchor = anchor }

-- ---- nothing waits

pub next_free : (t : TrackFacts) → 1 ≤ t.entered → t.waits ≡ None → next_anchor_of t ≡ t.anchor + t.params.interval
next_free t started none =
    let not_first : nat_eq t.entered 0 ≡ false = grind arith in
    rw (not_first, none) refl

pub enter_free : (t : TrackFacts) → t.waits ≡ None → track_after_enter t ≡ entered_at t (next_anchor_of t)
enter_free t none = rw none refl

-- ---- before event 0

pub next_first : (t : TrackFacts) → t.entered ≡ 0 → next_anchor_of t ≡ t.anchor
next_first t first =
    let is_first : nat_eq t.entered 0 ≡ true = grind arith in
    rw is_first refl

-- ---- an indication waits whose event is not the next

pub next_waiting : (t : TrackFacts) (change : Change) → 1 ≤ t.entered → t.waits ≡ Some change
    → t.entered < change.at.0
    → next_anchor_of t ≡ t.anchor + t.params.interval
next_waiting t change started waits later =
    let not_first : nat_eq t.entered 0 ≡ false = grind arith in
    let not_over : nat_lt change.at.0 t.entered ≡ false = grind arith in
    let not_zero : nat_eq change.at.0 0 ≡ false = grind arith in
    let not_yet : nat_lt t.entered change.at.0 ≡ true = grind arith in
    rw (not_first, waits, not_over, not_zero, not_yet) (omega arith)

pub enter_waiting : (t : TrackFacts) (change : Change) → t.waits ≡ Some change → t.entered < change.at.0
    → track_after_enter t ≡ entered_at t (next_anchor_of t)
enter_waiting t change waits later =
    let not_due : nat_le change.at.0 t.entered ≡ false = grind arith in
    rw (waits, not_due) refl

-- ---- the next event is that of the indication

pub next_due : (t : TrackFacts) (change : Change) → 1 ≤ t.entered → t.waits ≡ Some change → t.entered ≡ change.at.0
    → next_anchor_of t ≡ t.anchor + t.params.interval + win_offset_of change.indication
next_due t change started waits due =
    let not_first : nat_eq t.entered 0 ≡ false = grind arith in
    let not_over : nat_lt change.at.0 t.entered ≡ false = grind arith in
    let not_zero : nat_eq change.at.0 0 ≡ false = grind arith in
    let not_ahead : nat_lt t.entered change.at.0 ≡ false = grind arith in
    rw (not_first, waits, not_over, not_zero, not_ahead) (omega arith)

-- an end from its next event on, in which a change holds
abbrev pub changed_at : TrackFacts → Change → ℕ → TrackFacts
changed_at t change anchor =
    record {
      entered = t.entered + 1;
      anchor = anchor;
      params = params_after t.params change.indication;
      waits = None;
      applied = t.applied + 1;
    }

pub enter_due : (t : TrackFacts) (change : Change) → t.waits ≡ Some change → change.at.0 ≤ t.entered
    → track_after_enter t ≡ changed_at t change (next_anchor_of t)
enter_due t change waits due =
    let is_due : nat_le change.at.0 t.entered ≡ true = grind arith in
    rw (waits, is_due) refl

-- ---- the indication was taken in its event

pub next_late : (t : TrackFacts) (change : Change) → 1 ≤ t.entered → t.waits ≡ Some change
    → change.at.0 < t.entered
    → win_offset_of change.indication ≡ 0
    → next_anchor_of t ≡ t.anchor + (params_after t.params change.indication).interval
next_late t change started waits late unmoved = by_first (nat_eq change.at.0 0) refl
  where
    by_first : (first : Bool) → nat_eq change.at.0 0 ≡ first
        → next_anchor_of t ≡ t.anchor + (params_after t.params change.indication).interval
    by_first true zero =
        let not_first : nat_eq t.entered 0 ≡ false = grind arith in
        let over : nat_lt change.at.0 t.entered ≡ true = grind arith in
        rw (not_first, waits, over, zero) (omega arith)
    by_first false not_zero =
        let not_first : nat_eq t.entered 0 ≡ false = grind arith in
        let over : nat_lt change.at.0 t.entered ≡ true = grind arith in
        let not_ahead : nat_lt t.entered change.at.0 ≡ false = grind arith in
        rw (not_first, waits, over, not_zero, not_ahead) (omega (arith, unmoved))

-- ---- the slots between two anchors

pub HasSlots-after : (params : Params) (indication : Indication) → 6 ≤ params.interval → HasSlots indication
    → 6 ≤ (params_after params indication).interval
HasSlots-after params (Update win_offset interval latency timeout instant) slots has = has
HasSlots-after params (Map map instant) slots has = slots

-- the intervals of an end are at least 6 slots
pub record HasIntervals (t : TrackFacts) : Type 0 where
  pub now : 6 ≤ t.params.interval
  pub next : IfSome t.waits (λ change. HasSlots change.indication)

pub next_is_later : (t : TrackFacts) → 1 ≤ t.entered → HasIntervals t → t.anchor + 6 ≤ next_anchor_of t
next_is_later t started has = by_waits t.waits refl
  where
    not_first : nat_eq t.entered 0 ≡ false
    not_first = grind arith

    by_test : (change : Change) (over : Bool) → t.waits ≡ Some change → HasSlots change.indication
        → nat_lt change.at.0 t.entered ≡ over → t.anchor + 6 ≤ next_anchor_of t
    by_test change true waits slots is =
        let after = HasSlots-after t.params change.indication has.now slots in
        rw (not_first, waits, is) (omega (arith, after))
    by_test change false waits slots is = rw (not_first, waits, is) (omega (arith, has.now))

    by_waits : (waits : Option Change) → t.waits ≡ waits → t.anchor + 6 ≤ next_anchor_of t
    by_waits None is = rw (next_free t started is) (omega (arith, has.now))
    by_waits (Some change) is = by_test change (nat_lt change.at.0 t.entered) is (rw is at has.next) refl

pub anchor_as_entered : (t : TrackFacts) → (track_after_enter t).anchor ≡ next_anchor_of t
anchor_as_entered t = by_waits t.waits refl
  where
    by_due : (change : Change) (due : Bool) → t.waits ≡ Some change → is_due change t.entered ≡ due
        → (track_after_enter t).anchor ≡ next_anchor_of t
    by_due change true waits is = rw (waits, is) refl
    by_due change false waits is = rw (waits, is) refl

    by_waits : (waits : Option Change) → t.waits ≡ waits → (track_after_enter t).anchor ≡ next_anchor_of t
    by_waits None is = rw is refl
    by_waits (Some change) is = by_due change (is_due change t.entered) is refl

pub count_as_entered : (t : TrackFacts) → (track_after_enter t).entered ≡ t.entered + 1
count_as_entered t = by_waits t.waits refl
  where
    by_due : (change : Change) (due : Bool) → t.waits ≡ Some change → is_due change t.entered ≡ due
        → (track_after_enter t).entered ≡ t.entered + 1
    by_due change true waits is = rw (waits, is) refl
    by_due change false waits is = rw (waits, is) refl

    by_waits : (waits : Option Change) → t.waits ≡ waits → (track_after_enter t).entered ≡ t.entered + 1
    by_waits None is = rw is refl
    by_waits (Some change) is = by_due change (is_due change t.entered) is refl
