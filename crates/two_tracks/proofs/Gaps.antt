-- The event that a 16-bit Instant names, and the gap to it (Core 5.2, volume 6 part B, section 5.5.1).
use Rattle.std.proofs.Common.{◌≡◌, ℕ, ◌+◌, ◌%◌, ◌^◌, ◌<◌, ◌≤◌, true, false, nat_lt, refl, arith}
use Rattle.instants.specs.declared.indications.Indication.{Indication}
use Rattle.instants.specs.declared.track.Change.{Change}
use Rattle.instants.specs.Parameters.{instant_of}
use Rattle.instants.specs.Track.{TrackFacts, event_of, gap_ahead}
use Rattle.two_tracks.specs.TwoEnds.{change_of, has_passed}

-- the Instant of an indication is the number of its event, modulo 65536
abbrev pub IsNamed : Change → Type 0
IsNamed change = change.at.0 % 2 ^ 16 ≡ instant_of change.indication % 2 ^ 16

pub named_as_sent : (event : ℕ) (indication : Indication) → IsNamed (change_of event indication)
named_as_sent event indication = omega arith

-- from an event before it, the gap leads to it
pub gap_to : (event : ℕ) (change : Change) → IsNamed change → event ≤ change.at.0 → change.at.0 < event + 2 ^ 16
    → event + gap_ahead event change.indication ≡ change.at.0
gap_to event change named ahead near = omega arith

pub not_passed : (t : TrackFacts) (change : Change) → IsNamed change → event_of t ≤ change.at.0
    → change.at.0 < event_of t + 32767
    → has_passed t change ≡ false
not_passed t change named ahead near =
    let gap = gap_to (event_of t) change named ahead (omega arith) in
    let below : nat_lt (gap_ahead (event_of t) change.indication) 32767 ≡ true = grind arith in
    rw below refl

pub passed : (t : TrackFacts) (change : Change) → IsNamed change → change.at.0 < event_of t
    → event_of t < change.at.0 + 32769
    → has_passed t change ≡ true
passed t change named over near =
    let gap : 32767 ≤ gap_ahead (event_of t) change.indication = omega arith in
    let not_below : nat_lt (gap_ahead (event_of t) change.indication) 32767 ≡ false = grind arith in
    rw not_below refl
