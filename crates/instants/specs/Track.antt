-- What one end knows of its parameters, and what each call does to it.
use Rattle.std.specs.Prelude.{ℕ, ◌+◌, ◌-◌, ◌%◌, ◌^◌, ◌<◌, ◌≤◌, ◌==◌, ◌||◌, nat_le, nat_lt, Bool, Option, Some, None}
use Rattle.std.specs.Prelude.{is_none, if◌then◌else◌}
use Rattle.std.specs.Option.{ForSome}
use Rattle.ble_base.specs.Instant.{gap_of}
use Rattle.instants.specs.declared.indications.Params.{Params}
use Rattle.instants.specs.declared.indications.Indication.{Indication}
use Rattle.instants.specs.declared.indications.Indication.TheVariants.{Update, Map}
use Rattle.instants.specs.declared.track.Change.{Change}
use Rattle.instants.specs.Parameters.{instant_of, win_offset_of, params_after}

pub record TrackFacts : Type 0 where
  -- how many events were entered
  pub entered : ℕ
  -- the anchor of the event entered last; before event 0 that of event 0
  pub anchor : ℕ
  -- the parameters in the event entered last
  pub params : Params
  -- the indication that was taken and does not hold yet
  pub waits : Option Change
  -- how many indications hold
  pub applied : ℕ

-- an end as the link begins
abbrev pub first_facts : Params → ℕ → TrackFacts
first_facts first slot = record { entered = 0; anchor = slot; params = first; waits = None; applied = 0 }

abbrev pub is_free : TrackFacts → Bool
is_free t = is_none t.waits

-- the event entered last
abbrev pub event_of : TrackFacts → ℕ
event_of t = t.entered - 1

-- how far the Instant of an indication is ahead of an event, modulo 65536 (Core 5.2, volume 6 part B, section 5.5.1)
abbrev pub gap_ahead : ℕ → Indication → ℕ
gap_ahead event indication = gap_of (instant_of indication) (event % 2 ^ 16)

-- an end after it took an indication
abbrev pub track_after_take : TrackFacts → Indication → TrackFacts
track_after_take t indication =
    record t {
      waits = Some (record {
        indication = indication;
        at = record { 0 = event_of t + gap_ahead (event_of t) indication };
      });
    }

-- a change that waits holds from the next event on, if that is its event or its event was entered before it was taken
abbrev pub is_due : Change → ℕ → Bool
is_due change next = nat_le change.at.0 next

-- the slots by which a change moves the next anchor: event 0 keeps the anchor of the CONNECT_IND (our choice)
abbrev pub waiting_offset : Change → ℕ → ℕ
waiting_offset change next =
    (if (change.at.0 == 0) || nat_lt next change.at.0 then 0 else win_offset_of change.indication)

-- the parameters of the event entered last: a change whose event is over counts, though it holds only from the next
abbrev pub last_params : Change → Params → ℕ → Params
last_params change params next = (if nat_lt change.at.0 next then params_after params change.indication else params)

-- the slots from the anchor of the event entered last to that of the next
abbrev pub spacing_of : Option Change → Params → ℕ → ℕ
spacing_of None params next = params.interval
spacing_of (Some change) params next = (last_params change params next).interval + waiting_offset change next

abbrev pub next_anchor_of : TrackFacts → ℕ
next_anchor_of t = (if t.entered == 0 then t.anchor else t.anchor + spacing_of t.waits t.params t.entered)

-- an end in the next event, from which on no further change holds
abbrev pub track_unchanged : TrackFacts → TrackFacts
track_unchanged t = record t { entered = t.entered + 1; anchor = next_anchor_of t }

-- an end in the next event, from which on this change holds
abbrev pub track_changed : Change → TrackFacts → TrackFacts
track_changed change t =
    record {
      entered = t.entered + 1;
      anchor = next_anchor_of t;
      params = params_after t.params change.indication;
      waits = None;
      applied = t.applied + 1;
    }

abbrev pub track_in_next : Option Change → TrackFacts → TrackFacts
track_in_next None t = track_unchanged t
track_in_next (Some change) t = (if is_due change t.entered then track_changed change t else track_unchanged t)

abbrev pub track_after_enter : TrackFacts → TrackFacts
track_after_enter t = track_in_next t.waits t

-- the number of the change that holds from the next event on
abbrev pub number_if_due : Option Change → ℕ → ℕ → Option ℕ
number_if_due None next applied = None
number_if_due (Some change) next applied = (if is_due change next then Some (applied + 1) else None)

abbrev pub next_number : TrackFacts → Option ℕ
next_number t = number_if_due t.waits t.entered t.applied

-- an indication leaves an interval of at least one slot
abbrev pub HasInterval : Indication → Type 0
HasInterval (Update win_offset interval latency timeout instant) = 1 ≤ interval
HasInterval (Map map instant) = Unit {0}

-- what is so of every track: its numbers stay below those of slots, once an event was entered
pub record IsTrack (t : TrackFacts) : Type 0 where
  pub interval : 1 ≤ t.params.interval
  pub next_interval : ForSome t.waits (λ change. HasInterval change.indication)
  pub first_slot : t.anchor < 2 ^ 33
  pub slots : 1 ≤ t.entered → t.anchor < 2 ^ 32
  pub events : t.entered ≤ t.anchor + 1
  pub numbers : t.applied ≤ t.entered
