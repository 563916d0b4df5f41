-- The laws, read off what holds of both ends.
use Rattle.std.proofs.Common.{◌≡◌, ◌⊎◌, ◌↔◌, inl, inr, ℕ, ◌+◌, ◌%◌, ◌^◌, ◌<◌, ◌≤◌, true, take}
use Rattle.std.proofs.Common.{◌++◌, option_to_list, Option, Some, None, IsTrue, refl, ap, subst, arith}
use Rattle.std.specs.List.{All, Contains}
use Rattle.std.proofs.lemmas.List.Elements.{All-contains, All-pop}
use Rattle.instants.specs.declared.indications.Params.{Params}
use Rattle.instants.specs.declared.indications.Indication.{Indication}
use Rattle.instants.specs.declared.track.Change.{Change}
use Rattle.instants.specs.Parameters.{instant_of, win_offset_of}
use Rattle.instants.specs.Track.{TrackFacts, event_of, gap_ahead, is_free, next_anchor_of}
use Rattle.instants.specs.Follows.{AreTogether, Follows}
use Rattle.instants.proofs.Standing.{together}
use Rattle.two_tracks.specs.TwoEnds.{TwoEnds as Ends, MayReach, MaySend, change_of, has_passed}
use Rattle.two_tracks.specs.Reached.{AreOpen, IsLate, IsReached, untaken}
use Rattle.two_tracks.proofs.Anchors.{next_due}
use Rattle.two_tracks.proofs.Gaps.{IsNamed, gap_to, not_passed, passed}
use Rattle.two_tracks.proofs.Joint.{Joint, free_if_over}
use Rattle.two_tracks.proofs.JointHearing.{anchor_of, joint_of, near_of}
use Rattle.two_tracks.proofs.Meeting.{met_or_late, same_change}
use Rattle.two_tracks.proofs.OneEnd.{IsRight}
use Rattle.two_tracks.proofs.Relations.{IsApart, IsBefore, IsBehind, Stand, level_count}

open_of : (s : Ends) → MayReach s → AreOpen s
open_of s may = record { central = may.central_open; peripheral = may.peripheral_open }

-- ---- packets

pub packets : (first : Params) (slot : ℕ) (s : Ends) → IsReached first slot s → MayReach s
    → (s.central.entered ≡ s.peripheral.entered) ⊎ IsLate (untaken s.last) s.peripheral
packets first slot s reached may =
    let joint = joint_of first slot s reached in
    met_or_late s.turns (untaken s.last) s.central s.peripheral joint.peripheral.intervals.now
    (anchor_of first slot s joint may)
    (λ change on_air. (rw on_air at joint.named, near_of first slot s change joint may on_air))
    (joint.joined (open_of s may)).stand

pub anchors : (first : Params) (slot : ℕ) (s : Ends) → IsReached first slot s → MayReach s
    → s.central.anchor ≡ s.peripheral.anchor
anchors first slot s reached may = anchor_of first slot s (joint_of first slot s reached) may

pub replies : (first : Params) (slot : ℕ) (s : Ends) → IsReached first slot s → s.replies ≡ true
    → s.central.entered ≡ s.peripheral.entered
replies first slot s reached does = ((joint_of first slot s reached).replies does).count

-- ---- indications

free_at : (t : TrackFacts) → t.waits ≡ None → IsTrue (is_free t)
free_at t none = rw none refl

pub central_free : (first : Params) (slot : ℕ) (s : Ends) (indication : Indication) → IsReached first slot s
    → MaySend s (Some indication)
    → IsTrue (is_free s.central)
central_free first slot s indication reached may =
    free_at s.central
    (free_if_over first slot s.sent s.central (joint_of first slot s reached).central may.indicates.over)

stand_of : (first : Params) (slot : ℕ) (s : Ends) (change : Change) → IsReached first slot s → AreOpen s
    → untaken s.last ≡ Some change
    → Stand s.turns (Some change) s.central s.peripheral
stand_of first slot s change reached are_open on_air =
    rw on_air at ((joint_of first slot s reached).joined are_open).stand

pub peripheral_free : (first : Params) (slot : ℕ) (s : Ends) (change : Change) → IsReached first slot s → AreOpen s
    → untaken s.last ≡ Some change
    → IsTrue (is_free s.peripheral)
peripheral_free first slot s change reached are_open on_air =
    by_stand (stand_of first slot s change reached are_open on_air)
  where
    by_stand : Stand s.turns (Some change) s.central s.peripheral → IsTrue (is_free s.peripheral)
    by_stand (inl ahead) = free_at s.peripheral ahead.free
    by_stand (inr apart) = free_at s.peripheral apart.free

-- the Instant is fewer than 32767 events ahead
ahead_near : (turns : ℕ) (change : Change) (c p : TrackFacts) → Stand turns (Some change) c p
    → change.at.0 < event_of p + 32767
ahead_near turns change c p (inl ahead) = omega (arith, ahead.near, ahead.started)
ahead_near turns change c p (inr apart) = omega (arith, apart.over)

pub same : (first : Params) (slot : ℕ) (s : Ends) (change : Change) → IsReached first slot s → MayReach s
    → untaken s.last ≡ Some change → event_of s.peripheral ≤ change.at.0
    → change_of (event_of s.peripheral) change.indication ≡ change
same first slot s change reached may on_air ahead =
    let near = ahead_near s.turns change s.central s.peripheral
    (stand_of first slot s change reached (open_of s may) on_air) in
    let named : IsNamed change = rw on_air at (joint_of first slot s reached).named in
    same_change (event_of s.peripheral) change
    (gap_to (event_of s.peripheral) change named ahead (omega (arith, near)))

pub near : (first : Params) (slot : ℕ) (s : Ends) (change : Change) → IsReached first slot s → MayReach s
    → untaken s.last ≡ Some change
    → event_of s.peripheral < change.at.0 + 32769
near first slot s change reached may on_air =
    near_of first slot s change (joint_of first slot s reached) may on_air

pub passed_where_late : (first : Params) (slot : ℕ) (s : Ends) (change : Change) → IsReached first slot s
    → MayReach s → untaken s.last ≡ Some change
    → ((has_passed s.peripheral change ≡ true) ↔ (change.at.0 < event_of s.peripheral))
passed_where_late first slot s change reached may on_air = (only_late, late)
  where
    named : IsNamed change
    named = rw on_air at (joint_of first slot s reached).named

    late : change.at.0 < event_of s.peripheral → has_passed s.peripheral change ≡ true
    late over = passed s.peripheral change named over (near first slot s change reached may on_air)

    by_order : (change.at.0 < event_of s.peripheral) ⊎ (event_of s.peripheral ≤ change.at.0)
        → has_passed s.peripheral change ≡ true → change.at.0 < event_of s.peripheral
    by_order (inl over) is = over
    by_order (inr ahead) is =
        let fresh = not_passed s.peripheral change named ahead
        (ahead_near s.turns change s.central s.peripheral
        (stand_of first slot s change reached (open_of s may) on_air)) in
        absurd (cc)

    only_late : has_passed s.peripheral change ≡ true → change.at.0 < event_of s.peripheral
    only_late is = by_order (grind arith) is

-- ---- the number of events

pub all_taken : (first : Params) (slot : ℕ) (s : Ends) → IsReached first slot s → AreOpen s
    → untaken s.last ≡ None
    → s.central.entered ≡ s.peripheral.entered
all_taken first slot s reached are_open none =
    level_count s.central s.peripheral (rw none at ((joint_of first slot s reached).joined are_open).stand)

pub before_the_instant : (first : Params) (slot : ℕ) (s : Ends) (change : Change) → IsReached first slot s
    → AreOpen s → untaken s.last ≡ Some change → s.peripheral.entered ≤ change.at.0
    → s.central.entered ≡ s.peripheral.entered
before_the_instant first slot s change reached are_open on_air before =
    by_stand (stand_of first slot s change reached are_open on_air)
  where
    by_stand : Stand s.turns (Some change) s.central s.peripheral → s.central.entered ≡ s.peripheral.entered
    by_stand (inl ahead) = ap (λ (t : TrackFacts). t.entered) ahead.central
    by_stand (inr apart) = absurd (omega (arith, apart.over))

-- ends that are apart, with an indication that moves no anchor: it holds at the central
apart_count : (turns : ℕ) (change : Change) (c p : TrackFacts) → IsApart turns change c p
    → win_offset_of change.indication ≡ 0 → turns ≤ next_anchor_of c → c.applied ≡ p.applied
    → c.entered ≡ p.entered
apart_count turns change c p apart unmoved on_time count = by_side apart.central
  where
    by_side : IsBefore change apart.place c p.params p.applied ⊎ IsBehind change apart.place c p.params p.applied
        → c.entered ≡ p.entered
    by_side (inr behind) = absurd (omega (arith, behind.number, count))
    by_side (inl before) =
        let next = next_due c change (omega (arith, apart.started, before.last)) before.waits before.last in
        let interval = ap (λ (q : Params). q.interval) before.params_are in
        absurd (omega (arith, next, interval, before.next, apart.seen, on_time, unmoved))

pub without_offsets : (first : Params) (slot : ℕ) (s : Ends) → IsReached first slot s → AreOpen s
    → All (λ (change : Change). win_offset_of change.indication ≡ 0) s.sent
    → s.central.applied ≡ s.peripheral.applied
    → s.central.entered ≡ s.peripheral.entered
without_offsets first slot s reached are_open unmoved count =
    by_last (untaken s.last) refl joint.peripheral.all (joint.joined are_open).stand
  where
    joint : Joint first slot s
    joint = joint_of first slot s reached

    by_last : (last : Option Change) → untaken s.last ≡ last
        → s.sent ≡ joint.peripheral.held ++ option_to_list s.peripheral.waits ++ option_to_list (untaken s.last)
        → Stand s.turns (untaken s.last) s.central s.peripheral
        → s.central.entered ≡ s.peripheral.entered
    by_last None none all stand = all_taken first slot s reached are_open none
    by_last (Some change) on_air all stand = by_stand (rw on_air at stand)
      where
        last : win_offset_of change.indication ≡ 0
        last =
            let tail = (All-pop (λ (c : Change). win_offset_of c.indication ≡ 0) s.sent
            (joint.peripheral.held ++ option_to_list s.peripheral.waits) (untaken s.last) all unmoved).1 in
            rw on_air at tail

        by_stand : Stand s.turns (Some change) s.central s.peripheral → s.central.entered ≡ s.peripheral.entered
        by_stand (inl ahead) = ap (λ (t : TrackFacts). t.entered) ahead.central
        by_stand (inr apart) =
            apart_count s.turns change s.central s.peripheral apart last
            (joint.central_on_time are_open.central) count

-- ---- the parameters of each event

pub central_event : (first : Params) (slot : ℕ) (s : Ends) (a : TrackFacts) → IsReached first slot s
    → Contains s.central_entries a
    → Follows first slot (take a.applied s.sent) a
central_event first slot s a reached has =
    (All-contains (IsRight first slot s.sent) s.central_entries a (joint_of first slot s reached).central_entries
    has).follows

pub peripheral_event : (first : Params) (slot : ℕ) (s : Ends) (a : TrackFacts) → IsReached first slot s
    → Contains s.peripheral_entries a
    → Follows first slot (take a.applied s.sent) a
peripheral_event first slot s a reached has =
    (All-contains (IsRight first slot s.sent) s.peripheral_entries a
    (joint_of first slot s reached).peripheral_entries has).follows

pub both_events : (first : Params) (slot : ℕ) (s : Ends) (a b : TrackFacts) → IsReached first slot s
    → Contains s.central_entries a → Contains s.peripheral_entries b → a.entered ≡ b.entered
    → a.applied ≡ b.applied
    → AreTogether a b
both_events first slot s a b reached of_a of_b event number =
    let of_central = central_event first slot s a reached of_a in
    let of_peripheral = peripheral_event first slot s b reached of_b in
    together first slot (take b.applied s.sent) a b
    (subst (λ (n : ℕ). Follows first slot (take n s.sent) a) number of_central) of_peripheral event

-- ---- the rest

pub central_on_time : (first : Params) (slot : ℕ) (s : Ends) → IsReached first slot s → s.central_open ≡ true
    → s.turns ≤ next_anchor_of s.central
central_on_time first slot s reached is_open = (joint_of first slot s reached).central_on_time is_open

pub peripheral_on_time : (first : Params) (slot : ℕ) (s : Ends) → IsReached first slot s → s.peripheral_open ≡ true
    → s.turns ≤ next_anchor_of s.peripheral
peripheral_on_time first slot s reached is_open = (joint_of first slot s reached).peripheral_on_time is_open

pub gap_of_instant : (event ahead : ℕ) (indication : Indication)
    → instant_of indication ≡ (event + ahead) % 2 ^ 16 → ahead < 2 ^ 16
    → gap_ahead event indication ≡ ahead
gap_of_instant event ahead indication is few = omega (arith, is)
