-- What holds of both ends is kept as they hear each other, and as one of them ends.
use Rattle.std.proofs.Common.{◌≡◌, ℕ, ◌+◌, ◌<◌, Bool, true, false, List, [], ◌∷◌, Some}
use Rattle.std.proofs.Common.{None, refl, sym, ap, arith}
use Rattle.instants.specs.declared.indications.Params.{Params}
use Rattle.instants.specs.declared.track.Change.{Change}
use Rattle.instants.specs.Track.{event_of, track_after_take}
use Rattle.two_tracks.specs.TwoEnds.{TwoEnds as Ends, LastPdu, Untaken, Taken, Acknowledged, MayReach, May, Step}
use Rattle.two_tracks.specs.TwoEnds.{TurnBegins, CentralSends, PeripheralHears, CentralHears, CentralEnds, PeripheralEnds}
use Rattle.two_tracks.specs.TwoEnds.{after, after_pdu, after_indication, beginning, has_passed, heard_by_peripheral}
use Rattle.two_tracks.specs.TwoEnds.{last_after_reply}
use Rattle.two_tracks.specs.Reached.{AllMay, AreOpen, IsReached, after_all, untaken}
use Rattle.two_tracks.proofs.Gaps.{IsNamed}
use Rattle.two_tracks.proofs.Joint.{Joint, joint_first, joint_sends_none}
use Rattle.two_tracks.proofs.Joint.{joint_sends_some, joint_turn}
use Rattle.two_tracks.proofs.Meeting.{IsTaken, one_anchor, take_met}
use Rattle.two_tracks.proofs.OneEnd.{Knows, knows_taken}
use Rattle.two_tracks.proofs.Relations.{AreLevel, Stand, level_count, level_next}

open_of : (s : Ends) → MayReach s → AreOpen s
open_of s may = record { central = may.central_open; peripheral = may.peripheral_open }

pub anchor_of : (first : Params) (slot : ℕ) (s : Ends) → Joint first slot s → MayReach s
    → s.central.anchor ≡ s.peripheral.anchor
anchor_of first slot s joint may =
    let joined = joint.joined (open_of s may) in
    one_anchor s.turns s.central_heard_at s.peripheral_heard_at s.central s.peripheral may.transmits may.listens
    joined.central_met joined.peripheral_met

-- ---- the peripheral hears a PDU that is no new indication

heard_kept : (first : Params) (slot : ℕ) (s : Ends) (last : LastPdu) → untaken s.last ≡ None → untaken last ≡ None
    → Joint first slot s → MayReach s
    → Joint first slot (record s { peripheral_heard_at = s.turns; last = last; replies = true })
heard_kept first slot s last none none_too joint may =
    let anchor = anchor_of first slot s joint may in
    let joined = joint.joined (open_of s may) in
    let level : AreLevel s.central s.peripheral = rw none at joined.stand in
    let knows : Knows first slot s.sent [] s.peripheral = rw none at joint.peripheral in
    record {
      central = joint.central;
      peripheral = rw none_too knows;
      central_entries = joint.central_entries;
      peripheral_entries = joint.peripheral_entries;
      central_on_time = joint.central_on_time;
      peripheral_on_time = joint.peripheral_on_time;
      central_heard = joint.central_heard;
      peripheral_heard = omega arith;
      named = rw none_too tt;
      joined =
          λ are_open. record {
            stand = rw none_too level;
            awaited = rw none_too tt;
            central_met = joined.central_met;
            peripheral_met = λ at soon. sym anchor;
          };
      replies =
          λ replies. record {
            are_open = record { central = may.central_open; peripheral = may.peripheral_open };
            count = level_count s.central s.peripheral level;
            anchor = anchor;
          };
    }

-- ---- the peripheral hears an indication

-- its Instant has passed: the peripheral ends the link
passed_kept : (first : Params) (slot : ℕ) (s : Ends) → Joint first slot s
    → Joint first slot (record s { peripheral_heard_at = s.turns; peripheral_open = false; replies = false })
passed_kept first slot s joint =
    record {
      central = joint.central;
      peripheral = joint.peripheral;
      central_entries = joint.central_entries;
      peripheral_entries = joint.peripheral_entries;
      central_on_time = joint.central_on_time;
      peripheral_on_time = λ is_open. absurd (cc);
      central_heard = joint.central_heard;
      peripheral_heard = omega arith;
      named = joint.named;
      joined = λ are_open. absurd (let closed : false ≡ true = are_open.peripheral in cc);
      replies = λ replies. absurd (cc);
    }

-- an indication on its way is not as far behind as half of all numbers of events
pub near_of : (first : Params) (slot : ℕ) (s : Ends) (change : Change) → Joint first slot s → MayReach s
    → untaken s.last ≡ Some change
    → event_of s.peripheral < change.at.0 + 32769
near_of first slot s change joint may on_air =
    let awaited = rw on_air at (joint.joined (open_of s may)).awaited in
    omega (arith, awaited, may.supervised)

pub taken_of : (first : Params) (slot : ℕ) (s : Ends) (change : Change) → Joint first slot s → MayReach s
    → untaken s.last ≡ Some change → has_passed s.peripheral change ≡ false
    → IsTaken change s.central s.peripheral
taken_of first slot s change joint may on_air fresh =
    let stand : Stand s.turns (Some change) s.central s.peripheral =
    rw on_air at (joint.joined (open_of s may)).stand in
    let named : IsNamed change = rw on_air at joint.named in
    take_met s.turns change s.central s.peripheral named joint.peripheral.intervals.now
    (anchor_of first slot s joint may)
    (near_of first slot s change joint may on_air)
    fresh
    stand

taken_kept : (first : Params) (slot : ℕ) (s : Ends) (change : Change) → untaken s.last ≡ Some change
    → has_passed s.peripheral change ≡ false → Joint first slot s → MayReach s
    → Joint first slot (record s {
      peripheral_heard_at = s.turns;
      peripheral = track_after_take s.peripheral change.indication;
      last = Taken;
      replies = true;
    })
taken_kept first slot s change on_air fresh joint may =
    let anchor = anchor_of first slot s joint may in
    let joined = joint.joined (open_of s may) in
    let taken = taken_of first slot s change joint may on_air fresh in
    let knows : Knows first slot s.sent (change ∷ []) s.peripheral = rw on_air at joint.peripheral in
    let next = level_next s.central (track_after_take s.peripheral change.indication) taken.level in
    record {
      central = joint.central;
      peripheral =
          knows_taken first slot s.sent change s.peripheral taken.started taken.free taken.same knows;
      central_entries = joint.central_entries;
      peripheral_entries = joint.peripheral_entries;
      central_on_time = joint.central_on_time;
      peripheral_on_time = λ is_open. omega (arith, joint.central_on_time may.central_open, next);
      central_heard = joint.central_heard;
      peripheral_heard = omega arith;
      named = tt;
      joined =
          λ are_open. record {
            stand = taken.level;
            awaited = tt;
            central_met = joined.central_met;
            peripheral_met = λ at soon. sym anchor;
          };
      replies =
          λ replies. record {
            are_open = record { central = may.central_open; peripheral = may.peripheral_open };
            count = level_count s.central (track_after_take s.peripheral change.indication) taken.level;
            anchor = anchor;
          };
    }

-- ---- any good packet

pub joint_hears : (first : Params) (slot : ℕ) (s : Ends) (room : Bool) → Joint first slot s → MayReach s
    → Joint first slot (after_pdu room s.last (heard_by_peripheral s))
joint_hears first slot s room joint may = by_last s.last refl room
  where
    by_passed : (change : Change) (passed : Bool) → s.last ≡ Untaken (Some change)
        → has_passed s.peripheral change ≡ passed
        → Joint first slot (after_indication passed change (heard_by_peripheral s))
    by_passed change true is passed = passed_kept first slot s joint
    by_passed change false is passed = taken_kept first slot s change (ap untaken is) passed joint may

    by_last : (last : LastPdu) → s.last ≡ last → (room : Bool)
        → Joint first slot (after_pdu room s.last (heard_by_peripheral s))
    by_last (Untaken None) is true = rw is (heard_kept first slot s Taken (ap untaken is) refl joint may)
    by_last (Untaken None) is false = rw is (heard_kept first slot s (Untaken None) (ap untaken is) refl joint may)
    by_last (Untaken (Some change)) is room =
        let on : after_pdu room s.last (heard_by_peripheral s)
        ≡ after_indication (has_passed s.peripheral change) change (heard_by_peripheral s) =
        ap (λ (l : LastPdu). after_pdu room l (heard_by_peripheral s)) is in
        rw on (by_passed change (has_passed s.peripheral change) is refl)
    by_last Taken is room = rw is (heard_kept first slot s Taken (ap untaken is) refl joint may)
    by_last Acknowledged is room = rw is (heard_kept first slot s Acknowledged (ap untaken is) refl joint may)

-- ---- the central hears the reply

reply_carries : (last : LastPdu) → untaken (last_after_reply last) ≡ untaken last
reply_carries (Untaken change) = refl
reply_carries Taken = refl
reply_carries Acknowledged = refl

pub joint_replied : (first : Params) (slot : ℕ) (s : Ends) → s.replies ≡ true → Joint first slot s
    → Joint first slot (after CentralHears s)
joint_replied first slot s replies joint =
    let replying = joint.replies replies in
    let joined = joint.joined replying.are_open in
    let same = reply_carries s.last in
    record {
      central = joint.central;
      peripheral = rw same joint.peripheral;
      central_entries = joint.central_entries;
      peripheral_entries = joint.peripheral_entries;
      central_on_time = joint.central_on_time;
      peripheral_on_time = joint.peripheral_on_time;
      central_heard = omega arith;
      peripheral_heard = joint.peripheral_heard;
      named = rw same joint.named;
      joined =
          λ are_open. record {
            stand = rw same joined.stand;
            awaited = rw same joined.awaited;
            central_met = λ at soon. replying.anchor;
            peripheral_met = joined.peripheral_met;
          };
      replies = λ e. absurd (cc);
    }

-- ---- an end is gone

joint_central_ends : (first : Params) (slot : ℕ) (s : Ends) → Joint first slot s
    → Joint first slot (after CentralEnds s)
joint_central_ends first slot s joint =
    record {
      central = joint.central;
      peripheral = joint.peripheral;
      central_entries = joint.central_entries;
      peripheral_entries = joint.peripheral_entries;
      central_on_time = λ is_open. absurd (cc);
      peripheral_on_time = joint.peripheral_on_time;
      central_heard = joint.central_heard;
      peripheral_heard = joint.peripheral_heard;
      named = joint.named;
      joined = λ are_open. absurd (let closed : false ≡ true = are_open.central in cc);
      replies = λ replies. absurd (cc);
    }

joint_peripheral_ends : (first : Params) (slot : ℕ) (s : Ends) → Joint first slot s
    → Joint first slot (after PeripheralEnds s)
joint_peripheral_ends first slot s joint =
    record {
      central = joint.central;
      peripheral = joint.peripheral;
      central_entries = joint.central_entries;
      peripheral_entries = joint.peripheral_entries;
      central_on_time = joint.central_on_time;
      peripheral_on_time = λ is_open. absurd (cc);
      central_heard = joint.central_heard;
      peripheral_heard = joint.peripheral_heard;
      named = joint.named;
      joined = λ are_open. absurd (let closed : false ≡ true = are_open.peripheral in cc);
      replies = λ replies. absurd (cc);
    }

-- ---- each step, and all of them

joint_after : (first : Params) (slot : ℕ) (s : Ends) (step : Step) → Joint first slot s → May step s
    → Joint first slot (after step s)
joint_after first slot s TurnBegins joint may = joint_turn first slot s joint
joint_after first slot s (CentralSends None) joint may = joint_sends_none first slot s may.acknowledged joint
joint_after first slot s (CentralSends (Some indication)) joint may =
    joint_sends_some first slot s indication may.in_event may.acknowledged may.indicates joint
joint_after first slot s (PeripheralHears room) joint may = joint_hears first slot s room joint may
joint_after first slot s CentralHears joint may = joint_replied first slot s may joint
joint_after first slot s CentralEnds joint may = joint_central_ends first slot s joint
joint_after first slot s PeripheralEnds joint may = joint_peripheral_ends first slot s joint

joint_all : (first : Params) (slot : ℕ) (steps : List Step) (s : Ends) → Joint first slot s → AllMay steps s
    → Joint first slot (after_all steps s)
joint_all first slot [] s joint may = joint
joint_all first slot (step ∷ steps) s joint may =
    joint_all first slot steps (after step s) (joint_after first slot s step joint may.0) may.1

pub joint_of : (first : Params) (slot : ℕ) (s : Ends) → IsReached first slot s → Joint first slot s
joint_of first slot s reached =
    rw reached.reaches at (joint_all first slot reached.steps (beginning first slot reached.turns)
    (joint_first first slot reached.turns reached.not_over reached.interval)
    reached.may)
