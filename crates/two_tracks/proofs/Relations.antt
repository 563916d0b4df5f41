-- How the tracks of both ends stand to each other while both are open.
use Rattle.std.proofs.Common.{◌≡◌, ◌⊎◌, inl, inr, ℕ, suc, ◌+◌, ◌<◌, ◌≤◌, Option, Some, None, ap, arith}
use Rattle.instants.specs.declared.indications.Params.{Params}
use Rattle.instants.specs.declared.track.Change.{Change}
use Rattle.instants.specs.Parameters.{win_offset_of, params_after}
use Rattle.instants.specs.Track.{TrackFacts, next_anchor_of}
use Rattle.two_tracks.proofs.Anchors.{next_late, next_free}

-- an end, if an indication that it took in the event of its Instant held there already
abbrev pub as_if_in_time : Change → TrackFacts → TrackFacts
as_if_in_time change p =
    record {
      entered = p.entered;
      anchor = p.anchor;
      params = params_after p.params change.indication;
      waits = None;
      applied = p.applied + 1;
    }

-- the peripheral took an indication in the event of its Instant, so it holds there one event later
pub record IsTakenLate (c p : TrackFacts) : Type 0 where
  pub change : Change
  pub in_instant : p.entered ≡ suc change.at.0
  pub unmoved : win_offset_of change.indication ≡ 0
  pub waits : p.waits ≡ Some change
  pub central : c ≡ as_if_in_time change p

-- the peripheral has taken all indications
abbrev pub AreLevel : TrackFacts → TrackFacts → Type 0
AreLevel c p = (c ≡ p) ⊎ IsTakenLate c p

-- the peripheral has not taken this one, and neither end has come to its Instant
pub record IsAhead (change : Change) (c p : TrackFacts) : Type 0 where
  pub started : 1 ≤ p.entered
  pub not_yet : p.entered ≤ change.at.0
  pub near : change.at.0 < p.entered + 32766
  pub free : p.waits ≡ None
  pub central : c ≡ record p { waits = Some change }

-- the central has not come to the Instant, and the peripheral has, with the anchor `place`
pub record IsBefore (change : Change) (place : ℕ) (c : TrackFacts) (params : Params) (applied : ℕ) : Type 0 where
  pub last : c.entered ≡ change.at.0
  pub waits : c.waits ≡ Some change
  pub params_are : c.params ≡ params
  pub number : c.applied ≡ applied
  pub next : c.anchor + params.interval ≡ place

-- the indication holds at the central
pub record IsBehind (change : Change) (place : ℕ) (c : TrackFacts) (params : Params) (applied : ℕ) : Type 0 where
  pub over : change.at.0 < c.entered
  pub waits : c.waits ≡ None
  pub params_are : c.params ≡ params_after params change.indication
  pub number : c.applied ≡ applied + 1
  pub in_instant : c.entered ≡ suc change.at.0 → c.anchor ≡ place + win_offset_of change.indication
  pub later : suc change.at.0 < c.entered → place < c.anchor

-- the peripheral has not taken this one and has come to its Instant: the ends go their own ways
pub record IsApart (turns : ℕ) (change : Change) (c p : TrackFacts) : Type 0 where
  -- the anchor of the event of the Instant at the peripheral
  pub place : ℕ
  pub started : 1 ≤ change.at.0
  pub free : p.waits ≡ None
  pub over : change.at.0 < p.entered
  pub in_instant : p.entered ≡ suc change.at.0 → p.anchor ≡ place
  pub seen : place < turns
  pub central : IsBefore change place c p.params p.applied ⊎ IsBehind change place c p.params p.applied

-- by the indication that the peripheral has not taken
abbrev pub Stand : ℕ → Option Change → TrackFacts → TrackFacts → Type 0
Stand turns None c p = AreLevel c p
Stand turns (Some change) c p = IsAhead change c p ⊎ IsApart turns change c p

-- ---- level ends

pub level_count : (c p : TrackFacts) → AreLevel c p → c.entered ≡ p.entered
level_count c p (inl same) = ap (λ (t : TrackFacts). t.entered) same
level_count c p (inr late) = ap (λ (t : TrackFacts). t.entered) late.central

pub level_anchor : (c p : TrackFacts) → AreLevel c p → c.anchor ≡ p.anchor
level_anchor c p (inl same) = ap (λ (t : TrackFacts). t.anchor) same
level_anchor c p (inr late) = ap (λ (t : TrackFacts). t.anchor) late.central

late_next : (c p : TrackFacts) → IsTakenLate c p → next_anchor_of c ≡ next_anchor_of p
late_next c p late =
    let started : 1 ≤ c.entered = omega (arith, level_count c p (inr late), late.in_instant) in
    let free : c.waits ≡ None = ap (λ (t : TrackFacts). t.waits) late.central in
    let anchor = ap (λ (t : TrackFacts). t.anchor) late.central in
    let interval = ap (λ (t : TrackFacts). t.params.interval) late.central in
    let of_central = next_free c started free in
    let of_peripheral = next_late p late.change (omega (arith, late.in_instant)) late.waits
    (omega (arith, late.in_instant)) late.unmoved in
    omega (arith, anchor, interval, of_central, of_peripheral)

pub level_next : (c p : TrackFacts) → AreLevel c p → next_anchor_of c ≡ next_anchor_of p
level_next c p (inl same) = ap next_anchor_of same
level_next c p (inr late) = late_next c p late
