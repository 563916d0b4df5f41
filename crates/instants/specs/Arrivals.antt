-- The indications of a link, event by event: which are taken, and from which event each holds (Core 5.2,
-- volume 6 part B, section 5.5).
use Rattle.std.specs.Prelude.{ℕ, suc, ◌+◌, ◌==◌, nat_le, nat_lt, max, Bool, ◌&&◌, List, [], ◌∷◌, map}
use Rattle.std.specs.Prelude.{filter, Option, Some, None, option_map, if◌then◌else◌}
use Rattle.std.specs.List.{position}
use Rattle.instants.specs.declared.indications.Params.{Params}
use Rattle.instants.specs.declared.indications.Indication.{Indication}
use Rattle.instants.specs.declared.track.Change.{Change}
use Rattle.instants.specs.Track.{TrackFacts, first_facts, event_of, is_free, gap_ahead, track_after_take}
use Rattle.instants.specs.Track.{track_after_enter}

-- an indication that was taken, the event that its Instant names, and the event in which it was taken
pub record Taking : Type 0 where
  pub change : Change
  pub taken_in : ℕ

-- it holds from the event of its Instant, and at the earliest from the event after the one in which it was taken
-- (our choice)
abbrev pub first_event : Taking → ℕ
first_event taking = max taking.change.at.0 (taking.taken_in + 1)

-- an indication that is taken in an event
abbrev pub taking_of : ℕ → Indication → Taking
taking_of event indication =
    record {
      change = record { indication = indication; at = record { 0 = event + gap_ahead event indication } };
      taken_in = event;
    }

-- an indication is taken where none waits, which is from event free on, and its Instant has not passed
abbrev pub is_taken : ℕ → ℕ → Indication → Bool
is_taken event free indication = nat_le free event && nat_lt (gap_ahead event indication) 32767

-- what is taken of the indications that come in this event and those after it, at most one in each
abbrev pub takings_from : ℕ → ℕ → List (Option Indication) → List Taking
takings_from event free [] = []
takings_from event free (None ∷ more) = takings_from (suc event) free more
takings_from event free (Some indication ∷ more) =
    (if is_taken event free indication
    then taking_of event indication ∷ takings_from (suc event) (first_event (taking_of event indication)) more
    else takings_from (suc event) free more)

-- what is taken of the indications that come in events 0, 1, 2 and so on
abbrev pub all_takings : List (Option Indication) → List Taking
all_takings arrivals = takings_from 0 0 arrivals

-- the changes that hold in an event: their first event has come
abbrev pub changes_in_force : ℕ → List Taking → List Change
changes_in_force event takings =
    map (λ taking. taking.change) (filter (λ taking. nat_le (first_event taking) event) takings)

-- the number of the taking of which this is the first event, counted from 1
abbrev pub number_starting_in : ℕ → List Taking → Option ℕ
number_starting_in event takings =
    option_map (λ place. place + 1) (position (λ taking. first_event taking == event) takings)

-- an end that takes an indication where its call may be made and does not answer Passed
abbrev pub track_after_offer : Option Indication → TrackFacts → TrackFacts
track_after_offer None t = t
track_after_offer (Some indication) t =
    (if is_free t && nat_lt (gap_ahead (event_of t) indication) 32767 then track_after_take t indication else t)

-- an end that enters one event after the other, and in each is offered the indication that comes in it
abbrev pub track_from : TrackFacts → List (Option Indication) → TrackFacts
track_from t [] = t
track_from t (arrival ∷ more) = track_from (track_after_offer arrival (track_after_enter t)) more

abbrev pub track_after : Params → ℕ → List (Option Indication) → TrackFacts
track_after first slot arrivals = track_from (first_facts first slot) arrivals
