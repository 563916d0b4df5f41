-- A turn begins at both ends: how they stand to each other after it.
use Rattle.std.proofs.Common.{◌≡◌, ◌⊎◌, inl, inr, ℕ, ◌+◌, ◌<◌, ◌≤◌, Bool, true, false, nat_eq, Option, Some, None}
use Rattle.std.proofs.Common.{refl, sym, ap, ◌∙◌, arith}
use Rattle.instants.specs.declared.indications.Params.{Params}
use Rattle.instants.specs.declared.track.Change.{Change}
use Rattle.instants.specs.Parameters.{win_offset_of, params_after}
use Rattle.instants.specs.Track.{TrackFacts, next_anchor_of, track_after_enter}
use Rattle.two_tracks.specs.TwoEnds.{track_if}
use Rattle.two_tracks.proofs.Anchors.{entered_at, changed_at, next_free, next_waiting, next_due, enter_free}
use Rattle.two_tracks.proofs.Anchors.{enter_waiting, enter_due, next_first, next_is_later, anchor_as_entered, HasIntervals}
use Rattle.two_tracks.proofs.Anchors.{count_as_entered}
use Rattle.two_tracks.proofs.Relations.{AreLevel, IsAhead, IsBefore, IsBehind, IsApart, Stand}
use Rattle.two_tracks.proofs.Relations.{level_next}

-- whether an end enters in this turn
abbrev pub Enters : ℕ → TrackFacts → Bool → Type 0
Enters turns t enters = nat_eq (next_anchor_of t) turns ≡ enters

is_turn : (turns : ℕ) (t : TrackFacts) → Enters turns t true → next_anchor_of t ≡ turns
is_turn turns t enters = grind arith

is_other_turn : (turns : ℕ) (t : TrackFacts) → Enters turns t false → next_anchor_of t ≡ turns → ⊥
is_other_turn turns t enters = grind arith

-- ---- level

both_enter : (c p : TrackFacts) → AreLevel c p → AreLevel (track_after_enter c) (track_after_enter p)
both_enter c p (inl same) = inl (ap track_after_enter same)
both_enter c p (inr late) =
    let free : c.waits ≡ None = ap (λ (t : TrackFacts). t.waits) late.central in
    inl (enter_free c free
    ∙ ap (λ (t : TrackFacts). entered_at t (next_anchor_of c)) late.central
    ∙ ap (λ (n : ℕ). changed_at p late.change n) (level_next c p (inr late))
    ∙ sym (enter_due p late.change late.waits (omega (arith, late.in_instant))))

pub level_turn : (turns : ℕ) (c p : TrackFacts) (central peripheral : Bool)
    → Enters turns c central → Enters turns p peripheral → AreLevel c p
    → AreLevel (track_if central c) (track_if peripheral p)
level_turn turns c p true true of_c of_p level = both_enter c p level
level_turn turns c p false false of_c of_p level = level
level_turn turns c p true false of_c of_p level =
    absurd (is_other_turn turns p of_p (sym (level_next c p level) ∙ is_turn turns c of_c))
level_turn turns c p false true of_c of_p level =
    absurd (is_other_turn turns c of_c (level_next c p level ∙ is_turn turns p of_p))

-- ---- ahead of the Instant

-- what is known of the central
pub record IsAheadToo (change : Change) (c p : TrackFacts) : Type 0 where
  pub count : c.entered ≡ p.entered
  pub anchor : c.anchor ≡ p.anchor
  pub params : c.params ≡ p.params
  pub waits : c.waits ≡ Some change
  pub number : c.applied ≡ p.applied

pub central_ahead : (change : Change) (c p : TrackFacts) → IsAhead change c p → IsAheadToo change c p
central_ahead change c p ahead = rw ahead.central (record {
  count = refl;
  anchor = refl;
  params = refl;
  waits = refl;
  number = refl;
})

-- the next event of both is before the Instant
next_same : (change : Change) (c p : TrackFacts) → IsAhead change c p → p.entered < change.at.0
    → next_anchor_of c ≡ next_anchor_of p
next_same change c p ahead later =
    let too = central_ahead change c p ahead in
    let started : 1 ≤ c.entered = omega (arith, ahead.started, too.count) in
    next_waiting c change started too.waits (omega (arith, too.count))
    ∙ rw (too.anchor, too.params) (sym (next_free p ahead.started ahead.free))

both_before : (change : Change) (c p : TrackFacts) → IsAhead change c p → p.entered < change.at.0
    → IsAhead change (track_after_enter c) (track_after_enter p)
both_before change c p ahead later =
    let too = central_ahead change c p ahead in
    let of_p = enter_free p ahead.free in
    let of_c : track_after_enter c ≡ entered_at (record p { waits = Some change }) (next_anchor_of p) =
    enter_waiting c change too.waits (omega (arith, too.count))
    ∙ ap (λ (n : ℕ). entered_at c n) (next_same change c p ahead later)
    ∙ ap (λ (t : TrackFacts). entered_at t (next_anchor_of p)) ahead.central in
    rw (of_p, of_c) (record {
      started = omega arith;
      not_yet = omega arith;
      near = omega (arith, ahead.near);
      free = ahead.free;
      central = refl;
    })

ahead_later : (turns : ℕ) (change : Change) (c p : TrackFacts) (central peripheral : Bool)
    → Enters turns c central → Enters turns p peripheral → IsAhead change c p → p.entered < change.at.0
    → IsAhead change (track_if central c) (track_if peripheral p)
ahead_later turns change c p true true of_c of_p ahead later = both_before change c p ahead later
ahead_later turns change c p false false of_c of_p ahead later = ahead
ahead_later turns change c p true false of_c of_p ahead later =
    absurd (is_other_turn turns p of_p (sym (next_same change c p ahead later) ∙ is_turn turns c of_c))
ahead_later turns change c p false true of_c of_p ahead later =
    absurd (is_other_turn turns c of_c (next_same change c p ahead later ∙ is_turn turns p of_p))

-- the next event of both has the number of the Instant
next_moved : (change : Change) (c p : TrackFacts) → IsAhead change c p → p.entered ≡ change.at.0
    → next_anchor_of c ≡ next_anchor_of p + win_offset_of change.indication
next_moved change c p ahead due =
    let too = central_ahead change c p ahead in
    let of_c = next_due c change (omega (arith, ahead.started, too.count)) too.waits (too.count ∙ due) in
    let of_p = next_free p ahead.started ahead.free in
    let interval = ap (λ (q : Params). q.interval) too.params in
    omega (arith, of_c, of_p, interval, too.anchor)

ahead_due : (turns : ℕ) (change : Change) (c p : TrackFacts) (central peripheral : Bool)
    → Enters turns c central → Enters turns p peripheral → turns ≤ next_anchor_of p
    → IsAhead change c p → p.entered ≡ change.at.0
    → Stand (turns + 1) (Some change) (track_if central c) (track_if peripheral p)
ahead_due turns change c p false false of_c of_p on_time ahead due = inl ahead
ahead_due turns change c p true false of_c of_p on_time ahead due =
    let of_central = is_turn turns c of_c in
    absurd (is_other_turn turns p of_p (omega (arith, next_moved change c p ahead due, of_central, on_time)))
ahead_due turns change c p false true of_c of_p on_time ahead due =
    let too = central_ahead change c p ahead in
    let here = is_turn turns p of_p in
    let next = next_free p ahead.started ahead.free in
    let interval = ap (λ (q : Params). q.interval) too.params in
    inr (rw (enter_free p ahead.free) (record {
      place = next_anchor_of p;
      started = omega (arith, ahead.started);
      free = ahead.free;
      over = omega (arith, due);
      in_instant = λ e. refl;
      seen = omega (arith, here);
      central = inl (record {
        last = too.count ∙ due;
        waits = too.waits;
        params_are = too.params;
        number = too.number;
        next = omega (arith, next, too.anchor);
      });
    }))
ahead_due turns change c p true true of_c of_p on_time ahead due =
    let too = central_ahead change c p ahead in
    let here = is_turn turns p of_p in
    let moved = next_moved change c p ahead due in
    inr (rw (enter_free p ahead.free, enter_due c change too.waits (omega (arith, too.count, due))) (record {
      place = next_anchor_of p;
      started = omega (arith, ahead.started);
      free = ahead.free;
      over = omega (arith, due);
      in_instant = λ e. refl;
      seen = omega (arith, here);
      central = inr (record {
        over = omega (arith, too.count, due);
        waits = refl;
        params_are = ap (λ (q : Params). params_after q change.indication) too.params;
        number = omega (arith, too.number);
        in_instant = λ e. moved;
        later = λ h. absurd (omega (arith, too.count, due));
      });
    }))

ahead_turn : (turns : ℕ) (change : Change) (c p : TrackFacts) (central peripheral : Bool)
    → Enters turns c central → Enters turns p peripheral → turns ≤ next_anchor_of p → IsAhead change c p
    → Stand (turns + 1) (Some change) (track_if central c) (track_if peripheral p)
ahead_turn turns change c p central peripheral of_c of_p on_time ahead =
    by_event (grind (arith, ahead.not_yet))
  where
    by_event : (p.entered < change.at.0) ⊎ (p.entered ≡ change.at.0)
        → Stand (turns + 1) (Some change) (track_if central c) (track_if peripheral p)
    by_event (inl later) = inl (ahead_later turns change c p central peripheral of_c of_p ahead later)
    by_event (inr due) = ahead_due turns change c p central peripheral of_c of_p on_time ahead due

-- ---- apart

before_turn : (turns : ℕ) (change : Change) (place : ℕ) (c : TrackFacts) (params : Params) (applied : ℕ)
    (central : Bool)
    → Enters turns c central → 1 ≤ change.at.0 → IsBefore change place c params applied
    → IsBefore change place (track_if central c) params applied
    ⊎ IsBehind change place (track_if central c) params applied
before_turn turns change place c params applied false of_c started before = inl before
before_turn turns change place c params applied true of_c started before =
    let next = next_due c change (omega (arith, started, before.last)) before.waits before.last in
    let interval = ap (λ (q : Params). q.interval) before.params_are in
    inr (rw (enter_due c change before.waits (omega (arith, before.last))) (record {
      over = omega (arith, before.last);
      waits = refl;
      params_are = ap (λ (q : Params). params_after q change.indication) before.params_are;
      number = omega (arith, before.number);
      in_instant = λ e. omega (arith, next, interval, before.next);
      later = λ h. absurd (omega (arith, before.last));
    }))

behind_turn : (turns : ℕ) (change : Change) (place : ℕ) (c : TrackFacts) (params : Params) (applied : ℕ)
    (central : Bool)
    → Enters turns c central → place < turns → IsBehind change place c params applied
    → IsBehind change place (track_if central c) params applied
behind_turn turns change place c params applied false of_c seen behind = behind
behind_turn turns change place c params applied true of_c seen behind =
    let here = is_turn turns c of_c in
    rw (enter_free c behind.waits) (record {
      over = omega (arith, behind.over);
      waits = behind.waits;
      params_are = behind.params_are;
      number = behind.number;
      in_instant = λ e. absurd (omega (arith, behind.over));
      later = λ h. omega (arith, here, seen);
    })

-- the central's turn does not touch what the peripheral has, and the other way round
apart_central : (turns : ℕ) (change : Change) (c p : TrackFacts) (central : Bool) → Enters turns c central
    → IsApart turns change c p
    → IsApart turns change (track_if central c) p
apart_central turns change c p central of_c apart =
    record {
      place = apart.place;
      started = apart.started;
      free = apart.free;
      over = apart.over;
      in_instant = apart.in_instant;
      seen = apart.seen;
      central = by_side apart.central;
    }
  where
    by_side : IsBefore change apart.place c p.params p.applied ⊎ IsBehind change apart.place c p.params p.applied
        → IsBefore change apart.place (track_if central c) p.params p.applied
        ⊎ IsBehind change apart.place (track_if central c) p.params p.applied
    by_side (inl before) = before_turn turns change apart.place c p.params p.applied central of_c apart.started before
    by_side (inr behind) =
        inr (behind_turn turns change apart.place c p.params p.applied central of_c apart.seen behind)

apart_peripheral : (turns : ℕ) (change : Change) (c p : TrackFacts) (peripheral : Bool)
    → IsApart turns change c p
    → IsApart (turns + 1) change c (track_if peripheral p)
apart_peripheral turns change c p false apart =
    record {
      place = apart.place;
      started = apart.started;
      free = apart.free;
      over = apart.over;
      in_instant = apart.in_instant;
      seen = omega (arith, apart.seen);
      central = apart.central;
    }
apart_peripheral turns change c p true apart =
    rw (enter_free p apart.free) (record {
      place = apart.place;
      started = apart.started;
      free = apart.free;
      over = omega (arith, apart.over);
      in_instant = λ e. absurd (omega (arith, apart.over));
      seen = omega (arith, apart.seen);
      central = apart.central;
    })

-- ---- any two open ends

pub stand_turn : (turns : ℕ) (untaken : Option Change) (c p : TrackFacts) (central peripheral : Bool)
    → Enters turns c central → Enters turns p peripheral → turns ≤ next_anchor_of p
    → Stand turns untaken c p
    → Stand (turns + 1) untaken (track_if central c) (track_if peripheral p)
stand_turn turns None c p central peripheral of_c of_p on_time level =
    level_turn turns c p central peripheral of_c of_p level
stand_turn turns (Some change) c p central peripheral of_c of_p on_time (inl ahead) =
    ahead_turn turns change c p central peripheral of_c of_p on_time ahead
stand_turn turns (Some change) c p central peripheral of_c of_p on_time (inr apart) =
    inr (apart_peripheral turns change (track_if central c) p peripheral
    (apart_central turns change c p central of_c apart))

-- ---- a turn of one end

-- no end misses its next anchor
pub on_time_turn : (turns : ℕ) (t : TrackFacts) (enters : Bool) → Enters turns t enters
    → HasIntervals (track_if enters t) → turns ≤ next_anchor_of t
    → turns + 1 ≤ next_anchor_of (track_if enters t)
on_time_turn turns t false of_t has on_time =
    let other = is_other_turn turns t of_t in by_order (next_anchor_of t) on_time other
  where
    by_order : (next : ℕ) → turns ≤ next → (next ≡ turns → ⊥) → turns + 1 ≤ next
    by_order next low other = grind arith
on_time_turn turns t true of_t has on_time =
    let here = is_turn turns t of_t in
    let later = next_is_later (track_after_enter t) (omega (arith, count_as_entered t)) has in
    omega (arith, here, later, anchor_as_entered t)

-- an end that heard the other in the first exchange of its event: their anchors are one until the turn after the next
abbrev pub IsMet : ℕ → ℕ → TrackFacts → TrackFacts → Type 0
IsMet turns heard_at one other = heard_at ≡ one.anchor + 1 → turns ≤ heard_at + 1 → one.anchor ≡ other.anchor

pub met_turn : (turns heard_at : ℕ) (one other : TrackFacts) (enters too : Bool)
    → Enters turns one enters → Enters turns other too → heard_at ≤ turns → HasIntervals other
    → IsMet turns heard_at one other
    → IsMet (turns + 1) heard_at (track_if enters one) (track_if too other)
met_turn turns heard_at one other true too of_one of_other before has met at soon =
    let here = is_turn turns one of_one in absurd (omega (arith, here, anchor_as_entered one))
met_turn turns heard_at one other false false of_one of_other before has met at soon = met at (omega arith)
met_turn turns heard_at one other false true of_one of_other before has met at soon =
    let here = is_turn turns other of_other in
    let same = met at (omega arith) in
    absurd (by_event (nat_eq other.entered 0) refl here same)
  where
    by_event : (first : Bool) → nat_eq other.entered 0 ≡ first → next_anchor_of other ≡ turns
        → one.anchor ≡ other.anchor → ⊥
    by_event true first here same = omega (arith, next_first other (grind arith))
    by_event false started here same = omega (arith, next_is_later other (grind arith) has)
