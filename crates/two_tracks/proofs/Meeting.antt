-- A packet of the central reaches the peripheral: which events both are in, and what the peripheral takes.
use Rattle.std.proofs.Common.{◌≡◌, ◌⊎◌, inl, inr, ℕ, suc, ◌+◌, ◌<◌, ◌≤◌, false, Option, Some, None, refl}
use Rattle.std.proofs.Common.{sym, ap, ◌∙◌, arith}
use Rattle.instants.specs.declared.indications.Params.{Params}
use Rattle.instants.specs.declared.indications.Indication.{Indication}
use Rattle.instants.specs.declared.track.Change.{Change}
use Rattle.instants.specs.Parameters.{win_offset_of, params_after}
use Rattle.instants.specs.Track.{TrackFacts, event_of, gap_ahead, next_anchor_of, track_after_take}
use Rattle.two_tracks.specs.TwoEnds.{IsInExchange, change_of, has_passed}
use Rattle.two_tracks.specs.Reached.{IsLate}
use Rattle.two_tracks.proofs.Anchors.{next_free, next_waiting, next_due}
use Rattle.two_tracks.proofs.Gaps.{IsNamed, gap_to, passed}
use Rattle.two_tracks.proofs.Moving.{IsMet}
use Rattle.two_tracks.proofs.Relations.{AreLevel, IsAhead, IsBefore, IsBehind, Stand, level_count}

-- two ends that are in an exchange in one turn have one anchor
pub one_anchor : (turns central_heard_at peripheral_heard_at : ℕ) (c p : TrackFacts)
    → IsInExchange turns central_heard_at c → IsInExchange turns peripheral_heard_at p
    → IsMet turns central_heard_at c p → IsMet turns peripheral_heard_at p c
    → c.anchor ≡ p.anchor
one_anchor turns h k c p (inl one) (inl other) met too = omega (arith, one, other)
one_anchor turns h k c p (inr one) (inr other) met too = omega (arith, one.0, other.0)
one_anchor turns h k c p (inl one) (inr other) met too = sym (too other.1 (omega (arith, other.0, other.1)))
one_anchor turns h k c p (inr one) (inl other) met too = met one.1 (omega (arith, one.0, one.1))

-- ---- apart, with one anchor: both are in the event of the Instant, or the peripheral is past it

abbrev pub IsBySide : Change → ℕ → TrackFacts → TrackFacts → Type 0
IsBySide change place c p =
    IsBefore change place c p.params p.applied ⊎ IsBehind change place c p.params p.applied

-- the central is in the event of the Instant too, which has no offset
pub record IsInInstantToo (change : Change) (place : ℕ) (c p : TrackFacts) : Type 0 where
  pub count : c.entered ≡ suc change.at.0
  pub unmoved : win_offset_of change.indication ≡ 0
  pub behind : IsBehind change place c p.params p.applied

pub in_instant_too : (change : Change) (place : ℕ) (c p : TrackFacts) → 6 ≤ p.params.interval → c.anchor ≡ place
    → IsBySide change place c p
    → IsInInstantToo change place c p
in_instant_too change place c p slots here (inl before) = absurd (omega (arith, before.next, here, slots))
in_instant_too change place c p slots here (inr behind) = by_count (grind (arith, behind.over))
  where
    by_count : (c.entered ≡ suc change.at.0) ⊎ (suc change.at.0 < c.entered) → IsInInstantToo change place c p
    by_count (inr later) = absurd (omega (arith, behind.later later, here))
    by_count (inl count) =
        record { count = count; unmoved = omega (arith, behind.in_instant count, here); behind = behind }

-- ---- which events both are in

pub met_or_late : (turns : ℕ) (untaken : Option Change) (c p : TrackFacts) → 6 ≤ p.params.interval
    → c.anchor ≡ p.anchor
    → ((change : Change) → untaken ≡ Some change → IsNamed change × (event_of p < change.at.0 + 32769))
    → Stand turns untaken c p
    → (c.entered ≡ p.entered) ⊎ IsLate untaken p
met_or_late turns None c p slots here near level = inl (level_count c p level)
met_or_late turns (Some change) c p slots here near (inl ahead) =
    inl (ap (λ (t : TrackFacts). t.entered) ahead.central)
met_or_late turns (Some change) c p slots here near (inr apart) = by_count (grind (arith, apart.over))
  where
    by_count : (p.entered ≡ suc change.at.0) ⊎ (suc change.at.0 < p.entered)
        → (c.entered ≡ p.entered) ⊎ IsLate (Some change) p
    by_count (inl count) =
        let too = in_instant_too change apart.place c p slots (here ∙ apart.in_instant count) apart.central in
        inl (too.count ∙ sym count)
    by_count (inr later) =
        let known = near change refl in
        inr (omega (arith, later), passed p change known.0 (omega (arith, later)) known.1)

-- ---- what the peripheral takes

pub same_change : (event : ℕ) (change : Change) → event + gap_ahead event change.indication ≡ change.at.0
    → change_of event change.indication ≡ change
same_change event change gap =
    ap (λ (n : ℕ). record { indication = change.indication; at = record { 0 = n } }) gap

-- the Instant of an indication that is not passed is the central's
pub record IsTaken (change : Change) (c p : TrackFacts) : Type 0 where
  pub same : change_of (event_of p) change.indication ≡ change
  pub started : 1 ≤ p.entered
  pub free : p.waits ≡ None
  pub level : AreLevel c (track_after_take p change.indication)

take_ahead : (change : Change) (c p : TrackFacts) → IsNamed change → IsAhead change c p → IsTaken change c p
take_ahead change c p named ahead =
    let same = same_change (event_of p) change
    (gap_to (event_of p) change named (omega (arith, ahead.started, ahead.not_yet)) (omega (arith, ahead.near))) in
    record {
      same = same;
      started = ahead.started;
      free = ahead.free;
      level = inl (ahead.central ∙ ap (λ (w : Change). record p { waits = Some w }) (sym same));
    }

take_in_instant : (change : Change) (place : ℕ) (c p : TrackFacts) → IsNamed change → 6 ≤ p.params.interval
    → c.anchor ≡ p.anchor → p.entered ≡ suc change.at.0 → p.anchor ≡ place → p.waits ≡ None
    → IsBySide change place c p
    → IsTaken change c p
take_in_instant change place c p named slots here count at free side =
    let same = same_change (event_of p) change
    (gap_to (event_of p) change named (omega (arith, count)) (omega (arith, count))) in
    let too = in_instant_too change place c p slots (here ∙ at) side in
    record {
      same = same;
      started = omega (arith, count);
      free = free;
      level = inr (record {
        change = change;
        in_instant = count;
        unmoved = too.unmoved;
        waits = ap (λ (w : Change). Some w) same;
        central =
            fields (too.count ∙ sym count) here too.behind.params_are too.behind.waits too.behind.number;
      });
    }
  where
    fields : c.entered ≡ p.entered → c.anchor ≡ p.anchor → c.params ≡ params_after p.params change.indication
        → c.waits ≡ None → c.applied ≡ p.applied + 1
        → c ≡ record {
          entered = p.entered;
          anchor = p.anchor;
          params = params_after p.params change.indication;
          waits = None;
          applied = p.applied + 1;
        }
    fields a b d e f =
        ap (λ (n : ℕ). record c { entered = n }) a
        ∙ ap (λ (n : ℕ). record c { entered = p.entered; anchor = n }) b
        ∙ ap (λ (q : Params). record c { entered = p.entered; anchor = p.anchor; params = q }) d
        ∙ ap (λ (w : Option Change). record {
          entered = p.entered;
          anchor = p.anchor;
          params = params_after p.params change.indication;
          waits = w;
          applied = c.applied;
        }) e
        ∙ ap (λ (n : ℕ). record {
          entered = p.entered;
          anchor = p.anchor;
          params = params_after p.params change.indication;
          waits = None;
          applied = n;
        }) f

pub take_met : (turns : ℕ) (change : Change) (c p : TrackFacts) → IsNamed change → 6 ≤ p.params.interval
    → c.anchor ≡ p.anchor → event_of p < change.at.0 + 32769 → has_passed p change ≡ false
    → Stand turns (Some change) c p
    → IsTaken change c p
take_met turns change c p named slots here near fresh (inl ahead) = take_ahead change c p named ahead
take_met turns change c p named slots here near fresh (inr apart) = by_count (grind (arith, apart.over))
  where
    by_count : (p.entered ≡ suc change.at.0) ⊎ (suc change.at.0 < p.entered) → IsTaken change c p
    by_count (inl count) =
        take_in_instant change apart.place c p named slots here count (apart.in_instant count) apart.free
        apart.central
    by_count (inr later) =
        let late = passed p change named (omega (arith, later)) near in
        absurd (cc)

-- ---- the central sends an indication

-- where the Instants of all before are over, nothing waits and both ends are equal
pub sent_ahead : (c p : TrackFacts) (indication : Indication) → 1 ≤ c.entered → c.waits ≡ None
    → 1 ≤ gap_ahead (event_of c) indication → gap_ahead (event_of c) indication < 32767 → c ≡ p
    → IsAhead (change_of (event_of c) indication) (track_after_take c indication) p
sent_ahead c p indication started free ahead near same =
    let count = ap (λ (t : TrackFacts). t.entered) same in
    record {
      started = omega (arith, count, started);
      not_yet = omega (arith, count, started, ahead);
      near = omega (arith, count, started, near);
      free = sym (ap (λ (t : TrackFacts). t.waits) same) ∙ free;
      central = ap (λ (t : TrackFacts). record t { waits = Some (change_of (event_of c) indication) }) same;
    }

-- an indication that is sent does not bring the next anchor forward
pub later_as_sent : (c : TrackFacts) (indication : Indication) → 1 ≤ c.entered → c.waits ≡ None
    → 1 ≤ gap_ahead (event_of c) indication
    → next_anchor_of c ≤ next_anchor_of (track_after_take c indication)
later_as_sent c indication started free ahead = by_event (grind (arith, ahead, started))
  where
    change : Change
    change = change_of (event_of c) indication

    by_event : (c.entered < event_of c + gap_ahead (event_of c) indication)
        ⊎ (c.entered ≡ event_of c + gap_ahead (event_of c) indication)
        → next_anchor_of c ≤ next_anchor_of (track_after_take c indication)
    by_event (inl later) =
        let moved = next_waiting (track_after_take c indication) (change_of (event_of c) indication) started refl later in
        omega (arith, moved, next_free c started free)
    by_event (inr due) =
        let moved = next_due (track_after_take c indication) (change_of (event_of c) indication) started refl due in
        omega (arith, moved, next_free c started free)
