-- Joint runs with the numbers of events: the rules of a joint run are here about numbers, and the places of the events
-- follow from them.
use Rattle.std.specs.Prelude.{ℕ, ◌+◌, ◌-◌, ◌==◌, nat_le, Bool, true, false, not, ◌&&◌, ◌||◌, if◌then◌else◌}
use Rattle.collisions.specs.declared.events.Event.{Event}
use Rattle.collisions.specs.declared.events.Event.TheVariants.{CentralEnters, CentralSends, PeripheralEnters}
use Rattle.collisions.specs.declared.events.Place.{Place}
use Rattle.collisions.specs.declared.events.Place.TheVariants.{Before, At, After, LateBefore, LateAt}
use Rattle.collisions.specs.declared.joint.Link.{Link}
use Rattle.exclusive_stages.specs.Pdus.{is_timed}
use Rattle.collisions.specs.CentralTable.{next_pdu}
use Rattle.collisions.specs.JointRun.{Timing, act, is_open, is_pdu, may_act, pdu_on_air, start}
use Rattle.machines.specs.Machine.{Machine}

pub record Numbered : Type 0 where
  pub link : Link
  -- the events that the ends entered last, counted from 0
  pub central_event : ℕ
  pub peripheral_event : ℕ
  -- the event after the instant of the last indication that was sent, and of the one before it; 0 where there is none
  pub passed_from : ℕ
  pub earlier_passed_from : ℕ

pub data Move : Type 0 where
  -- an end enters the next event
  central_enters : Move
  peripheral_enters : Move
  -- the central sends its next PDU, with the latency of the link in this event
  central_sends : ℕ → Move
  -- another step
  makes : Event → Move

-- the event after the instant of an indication that is sent now: six events and the latency ahead (Core 5.2, volume 6
-- part B, section 5.5, our choice)
abbrev pub next_passed_from : ℕ → Numbered → ℕ
next_passed_from latency r = r.central_event + latency + 7

-- the next PDU of the central has an instant
abbrev pub is_next_timed : Numbered → Bool
is_next_timed r = is_pdu is_timed (next_pdu r.link.central)

-- where an event is against the event after an instant
abbrev pub place_by : ℕ → ℕ → Place
place_by event passed_from =
    (if nat_le passed_from event then After else (if event + 1 == passed_from then At else Before))

-- where the peripheral's event is against a new instant; an earlier one that it has not passed comes first
abbrev pub place_in : ℕ → Numbered → Place
place_in latency r =
    (if nat_le r.passed_from r.peripheral_event then place_by r.peripheral_event (next_passed_from latency r)
    else (if r.peripheral_event + 1 == r.passed_from then LateAt else LateBefore))

-- the step of a joint run that a move is
abbrev pub event_of : Move → Numbered → Event
event_of central_enters r = CentralEnters (r.central_event + 2 == r.passed_from)
event_of peripheral_enters r =
    PeripheralEnters (r.peripheral_event + 2 == r.passed_from || r.peripheral_event + 2 == r.earlier_passed_from)
event_of (central_sends latency) r = CentralSends (if is_next_timed r then place_in latency r else Before)
event_of (makes event) r = event

-- the steps that have a move of their own
abbrev pub has_move : Event → Bool
has_move (CentralEnters at) = true
has_move (PeripheralEnters at) = true
has_move (CentralSends next) = true
has_move event = false

-- a latency is at most 499 (section 4.5.1)
abbrev pub fits_numbers : Move → Bool
fits_numbers (central_sends latency) = nat_le latency 499
fits_numbers (makes event) = not (has_move event)
fits_numbers move = true

-- the timing as the numbers have it
abbrev pub timing_by : Move → Numbered → Timing
timing_by move r =
    record {
      same = r.central_event == r.peripheral_event;
      late = nat_le r.passed_from r.peripheral_event && is_pdu is_timed (pdu_on_air r.link.down);
      after = nat_le r.passed_from r.central_event;
      fits = fits_numbers move;
    }

abbrev pub may_move : Move → Numbered → Bool
may_move move r = is_open r.link.end && may_act (timing_by move r) (event_of move r) r.link

abbrev pub move : Move → Numbered → Numbered
move central_enters r =
    record r { link = act (event_of central_enters r) r.link; central_event = r.central_event + 1 }
move peripheral_enters r =
    record r { link = act (event_of peripheral_enters r) r.link; peripheral_event = r.peripheral_event + 1 }
move (central_sends latency) r =
    record r {
      link = act (event_of (central_sends latency) r) r.link;
      passed_from = (if is_next_timed r then next_passed_from latency r else r.passed_from);
      earlier_passed_from = (if is_next_timed r then r.passed_from else r.earlier_passed_from);
    }
move (makes event) r = record r { link = act event r.link }

abbrev pub numbered_start : Numbered
numbered_start =
    record { link = start; central_event = 0; peripheral_event = 0; passed_from = 0; earlier_passed_from = 0 }

-- two ends that run procedures which exclude each other, in numbered events
abbrev pub numbered_collisions : Machine Numbered Move
numbered_collisions = record { start = numbered_start; may = may_move; act = move }

-- the instant of the last indication that was sent
abbrev pub last_instant : Numbered → ℕ
last_instant r = r.passed_from - 1
