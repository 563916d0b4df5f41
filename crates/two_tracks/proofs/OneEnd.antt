-- What one end of a link holds of the indications that the central sent, whatever becomes of the other end.
use Rattle.std.proofs.Common.{◌≡◌, ℕ, ◌≤◌, Bool, true, false, List, [], ◌∷◌, ◌++◌, length, take}
use Rattle.std.proofs.Common.{Option, Some, None, option_to_list, refl, sym, ap, ◌∙◌, arith, append_assoc}
use Rattle.std.proofs.Common.{length-append}
use Rattle.std.specs.List.{All}
use Rattle.std.proofs.Math.Seq.{take-append_seam}
use Rattle.std.proofs.lemmas.List.{append-nil, take-append-le}
use Rattle.std.proofs.lemmas.List.Elements.{All-nil, All-cons, All-head}
use Rattle.instants.specs.declared.indications.Params.{Params}
use Rattle.instants.specs.declared.indications.Indication.{Indication}
use Rattle.instants.specs.declared.track.Change.{Change}
use Rattle.instants.specs.Track.{TrackFacts, first_facts, event_of, is_due, track_after_enter, track_after_take}
use Rattle.instants.specs.Follows.{Follows, new_changes}
use Rattle.instants.proofs.Following.{Follows-first, Follows-taken, Follows-entered}
use Rattle.two_tracks.specs.TwoEnds.{HasSlots, change_of}
use Rattle.two_tracks.proofs.Anchors.{HasIntervals, HasSlots-after}

abbrev pub HaveSlots : List Change → Type 0
HaveSlots changes = All (λ change. HasSlots change.indication) changes

-- an end: these indications hold, at most one more waits, and it has not taken the rest of those that were sent
pub record Knows (first : Params) (slot : ℕ) (sent rest : List Change) (t : TrackFacts) : Type 0 where
  pub held : List Change
  pub all : sent ≡ (held ++ option_to_list t.waits) ++ rest
  pub follows : Follows first slot held t
  pub intervals : HasIntervals t
  pub slots : HaveSlots rest

pub knows_first : (first : Params) (slot : ℕ) → 6 ≤ first.interval → Knows first slot [] [] (first_facts first slot)
knows_first first slot interval =
    record {
      held = [];
      all = refl;
      follows = Follows-first first slot;
      intervals = record { now = interval; next = tt };
      slots = All-nil _;
    }

-- the parameters in an event are those of as many indications as hold, the first that were sent
pub record IsRight (first : Params) (slot : ℕ) (sent : List Change) (t : TrackFacts) : Type 0 where
  pub counted : t.applied ≤ length sent
  pub follows : Follows first slot (take t.applied sent) t

pub right_of : (first : Params) (slot : ℕ) (sent rest : List Change) (t : TrackFacts)
    → Knows first slot sent rest t → IsRight first slot sent t
right_of first slot sent rest t knows =
    let all : sent ≡ knows.held ++ (option_to_list t.waits ++ rest) =
    knows.all ∙ append_assoc knows.held (option_to_list t.waits) rest in
    let number = knows.follows.number in
    let taken : take t.applied sent ≡ knows.held =
    ap (λ (n : ℕ). take n sent) number ∙ ap (take (length knows.held)) all
    ∙ take-append_seam knows.held (option_to_list t.waits ++ rest) in
    let long = ap (λ (xs : List Change). length xs) all
    ∙ length-append knows.held (option_to_list t.waits ++ rest) in
    record { counted = omega (arith, number, long); follows = rw taken knows.follows }

pub right_later : (first : Params) (slot : ℕ) (sent more : List Change) (t : TrackFacts)
    → IsRight first slot sent t → IsRight first slot (sent ++ more) t
right_later first slot sent more t right =
    record {
      counted = omega (arith, right.counted, length-append sent more);
      follows = rw (take-append-le t.applied sent more right.counted) right.follows;
    }

-- ---- an end enters its next event

pub knows_entered : (first : Params) (slot : ℕ) (sent rest : List Change) (t : TrackFacts)
    → Knows first slot sent rest t → Knows first slot sent rest (track_after_enter t)
knows_entered first slot sent rest t knows = by_waits t.waits refl
  where
    follows : Follows first slot (knows.held ++ new_changes t.waits t.entered) (track_after_enter t)
    follows = Follows-entered first slot knows.held t knows.follows

    by_due : (change : Change) (due : Bool) → t.waits ≡ Some change → is_due change t.entered ≡ due
        → Knows first slot sent rest (track_after_enter t)
    by_due change true waits due =
        let all : sent ≡ (knows.held ++ change ∷ []) ++ rest = rw waits at knows.all in
        let same = rw (waits, due) at follows in
        let next : HasSlots change.indication = rw waits at knows.intervals.next in
        rw (waits, due) (record {
          held = knows.held ++ change ∷ [];
          all = all ∙ ap (λ (xs : List Change). xs ++ rest) (sym (append-nil (knows.held ++ change ∷ [])));
          follows = same;
          intervals = record { now = HasSlots-after t.params change.indication knows.intervals.now next; next = tt };
          slots = knows.slots;
        })
    by_due change false waits due =
        let all = rw waits at knows.all in
        let next = rw waits at knows.intervals.next in
        let same = rw (waits, due, append-nil knows.held) at follows in
        rw (waits, due) (record {
          held = knows.held;
          all = all;
          follows = same;
          intervals = record { now = knows.intervals.now; next = next };
          slots = knows.slots;
        })

    by_waits : (waits : Option Change) → t.waits ≡ waits → Knows first slot sent rest (track_after_enter t)
    by_waits None waits =
        let all = rw waits at knows.all in
        let same = rw (waits, append-nil knows.held) at follows in
        rw waits (record {
          held = knows.held;
          all = all;
          follows = same;
          intervals = record { now = knows.intervals.now; next = tt };
          slots = knows.slots;
        })
    by_waits (Some change) waits = by_due change (is_due change t.entered) waits refl

-- ---- an indication is sent, and taken

-- the central first transmits an indication
pub knows_sent : (first : Params) (slot : ℕ) (sent : List Change) (t : TrackFacts) (indication : Indication)
    → 1 ≤ t.entered
    → t.waits ≡ None
    → HasSlots indication
    → Knows first slot sent [] t
    → Knows first slot (sent ++ change_of (event_of t) indication ∷ []) [] (track_after_take t indication)
knows_sent first slot sent t indication started free slots knows =
    let all : sent ≡ knows.held = (rw free at knows.all) ∙ append-nil (knows.held ++ []) ∙ append-nil knows.held in
    record {
      held = knows.held;
      all =
          ap (λ (xs : List Change). xs ++ change_of (event_of t) indication ∷ []) all
          ∙ sym (append-nil (knows.held ++ change_of (event_of t) indication ∷ []));
      follows = Follows-taken first slot knows.held t indication started knows.follows;
      intervals = record { now = knows.intervals.now; next = slots };
      slots = All-nil _;
    }

-- the peripheral has an indication ahead that it has not taken
pub knows_of_more : (first : Params) (slot : ℕ) (sent : List Change) (change : Change) (t : TrackFacts)
    → HasSlots change.indication → Knows first slot sent [] t
    → Knows first slot (sent ++ change ∷ []) (change ∷ []) t
knows_of_more first slot sent change t slots knows =
    record {
      held = knows.held;
      all =
          ap (λ (xs : List Change). xs ++ change ∷ [])
          (knows.all ∙ append-nil (knows.held ++ option_to_list t.waits));
      follows = knows.follows;
      intervals = knows.intervals;
      slots = All-cons (λ c. HasSlots c.indication) change [] slots (All-nil _);
    }

-- the peripheral takes it
pub knows_taken : (first : Params) (slot : ℕ) (sent : List Change) (change : Change) (t : TrackFacts)
    → 1 ≤ t.entered
    → t.waits ≡ None
    → change_of (event_of t) change.indication ≡ change
    → Knows first slot sent (change ∷ []) t
    → Knows first slot sent [] (track_after_take t change.indication)
knows_taken first slot sent change t started free same knows =
    let all : sent ≡ knows.held ++ change ∷ [] =
    (rw free at knows.all) ∙ ap (λ (xs : List Change). xs ++ change ∷ []) (append-nil knows.held) in
    record {
      held = knows.held;
      all = all ∙ ap (λ (c : Change). knows.held ++ c ∷ []) (sym same)
          ∙ sym (append-nil (knows.held ++ change_of (event_of t) change.indication ∷ []));
      follows = Follows-taken first slot knows.held t change.indication started knows.follows;
      intervals = record { now = knows.intervals.now; next = All-head (λ c. HasSlots c.indication) change [] knows.slots };
      slots = All-nil _;
    }
