-- Between two turns each controller has begun all turns so far.
use Rattle.std.proofs.Common.{◌≡◌, ℕ, Bool, true, List, [], ◌∷◌, ◌++◌, ap, ◌∙◌}
use Rattle.std.specs.Prelude.{map, take, Some}
use Rattle.run_model.specs.controller_model.Step.{Step, HostOctet, TurnBegins, TurnEnds}
use Rattle.run_model.specs.controller_model.Side.{notes_after}
use Rattle.run_model.specs.Due.{Each}
use Rattle.run_model.specs.Feeding.{AreDistinct}
use Rattle.run_model.specs.History.{Event, TurnBegan, HostFed, Called, Noted, Transmitted, past_of, turns_begun, packet_received}
use Rattle.run_model.specs.Run.{Given, GoesOn, setup_at, facts_at, octets_left, after_call, after_octets, after_feed, hearings_of, step_of, run_of, history_of}
use Rattle.run_model.proofs.Places.{each_at, each_called, each_event}
use Rattle.run_model.proofs.Stations.{is_in}
use Rattle.run_model.proofs.Walk.{Place, IsKept, IsWhole, IsStopped, ends_with, ends_whole, run_kept}
use Rattle.run_laws.proofs.TurnPlaces.{AllStand, Between, stands_first, stands_kept, standing, turned}
use Rattle.run_laws.proofs.Entering.{IsInTurn, turn_first, turn_kept}

abbrev StoodBefore : Given → List Event → Event → Type 0
StoodBefore given before (TurnBegan slot radios) =
    (station : ℕ) → is_in station given.stations ≡ true → standing (past_of station before) ≡ Some (record { stage = Between; begun = slot })
StoodBefore given before (HostFed station octets) = Unit {0}
StoodBefore given before (Called station step) = Unit {0}
StoodBefore given before (Noted station note) = Unit {0}
StoodBefore given before (Transmitted station channel octets hearings) = Unit {0}

record HaveStood (given : Given) (place : Place) (history : List Event) : Type 0 where
  stand : AllStand given place history
  each : Each (StoodBefore given) [] history

call_stood : (given : Given) (station : ℕ) (step : Step) (history : List Event) → Each (StoodBefore given) [] history
    → Each (StoodBefore given) [] (after_call given station step history)
call_stood given station step history each =
    each_called (StoodBefore given) station step (notes_after (setup_at given station) (facts_at given station history) step) history each tt (λ before note. tt)

octets_stood : (given : Given) (station : ℕ) (octets : List ℕ) (history : List Event) → Each (StoodBefore given) [] history
    → Each (StoodBefore given) [] (after_octets given station octets history)
octets_stood given station [] history each = each
octets_stood given station (octet ∷ octets) history each =
    octets_stood given station octets (after_call given station (HostOctet octet) history) (call_stood given station (HostOctet octet) history each)

feed_stood : (given : Given) (station : ℕ) (octets : List ℕ) (history : List Event) → Each (StoodBefore given) [] history
    → Each (StoodBefore given) [] (after_feed given station octets history)
feed_stood given station [] history each = each
feed_stood given station (octet ∷ octets) history each =
    octets_stood given station (octet ∷ octets) (history ++ HostFed station (octet ∷ octets) ∷ [])
    (each_event (StoodBefore given) history (HostFed station (octet ∷ octets)) each tt)

stood_kept : (given : Given) → AreDistinct given.stations → IsKept given (HaveStood given)
stood_kept given distinct = let kept = stands_kept given distinct in record {
  on_turn = λ slot plan history begun at stood. record {
    stand = kept.on_turn slot plan history begun at stood.stand;
    each = each_event (StoodBefore given) history (TurnBegan slot (map plan.radio_of given.stations)) stood.each
        (λ station is. stood.stand station is ∙ ap (λ n. Some (record { stage = Between; begun = n })) begun);
  };
  on_feed = λ plan done left station history are some now stood. record {
    stand = kept.on_feed plan done left station history are some now stood.stand;
    each = feed_stood given station (take (plan.feed_of station) (octets_left given station history)) history stood.each;
  };
  on_fed = λ history stood. record { stand = kept.on_fed history stood.stand; each = stood.each };
  on_begin = λ slot plan done left station history are due stood. record {
    stand = kept.on_begin slot plan done left station history are due stood.stand;
    each = call_stood given station (TurnBegins slot (plan.radio_of station)) history stood.each;
  };
  on_begun = λ history stood. record { stand = kept.on_begun history stood.stand; each = stood.each };
  on_phase = λ phases history few stood. record { stand = kept.on_phase phases history few stood.stand; each = stood.each };
  on_silence = λ phases done left station history are none stood. record {
    stand = kept.on_silence phases done left station history are none stood.stand;
    each = stood.each;
  };
  on_packet = λ phases plan done left station channel octets history are some due stood. record {
    stand = kept.on_packet phases plan done left station channel octets history are some due stood.stand;
    each = each_event (StoodBefore given) history (Transmitted station channel octets (hearings_of given plan.fates station channel octets history)) stood.each tt;
  };
  on_air = λ phases history stood. record { stand = kept.on_air phases history stood.stand; each = stood.each };
  on_hearing = λ phases done left station history are some stood. record {
    stand = kept.on_hearing phases done left station history are some stood.stand;
    each = call_stood given station (step_of (packet_received station history)) history stood.each;
  };
  on_heard = λ phases history stood. record { stand = kept.on_heard phases history stood.stand; each = stood.each };
  on_phases = λ history stood. record { stand = kept.on_phases history stood.stand; each = stood.each };
  on_end = λ done left station history are some stood. record {
    stand = kept.on_end done left station history are some stood.stand;
    each = call_stood given station TurnEnds history stood.each;
  };
  on_ended = λ history stood. record { stand = kept.on_ended history stood.stand; each = stood.each };
}

run_stood : (given : Given) → AreDistinct given.stations → Each (StoodBefore given) [] (history_of (run_of given))
run_stood given distinct =
    ends_with (run_of given) (IsWhole given (HaveStood given)) (IsStopped given (HaveStood given)) (Each (StoodBefore given) [])
    (run_kept given (HaveStood given) (stood_kept given distinct) (record { stand = stands_first given; each = tt }))
    (λ history whole. whole.is.each) (λ history stop stopped. stopped.kept.each)

begun_at : (given : Given) (station slot : ℕ) (history : List Event) → standing (past_of station history) ≡ Some (record { stage = Between; begun = slot })
    → (facts_at given station history).turn.begun ≡ slot
begun_at given station slot history is =
    let setup = setup_at given station in
    (turned setup (IsInTurn setup) (turn_kept setup) (past_of station history) (record { stage = Between; begun = slot }) (turn_first setup) is).begun_is

pub begun_before : (given : Given) (before rest : List Event) (slot : ℕ) (radios : List Bool) (station : ℕ) → AreDistinct given.stations
    → is_in station given.stations ≡ true → history_of (run_of given) ≡ before ++ TurnBegan slot radios ∷ rest
    → (facts_at given station before).turn.begun ≡ slot
begun_before given before rest slot radios station distinct is at =
    begun_at given station slot before (each_at (StoodBefore given) (history_of (run_of given)) before rest (TurnBegan slot radios) (run_stood given distinct) at station is)

pub begun_last : (given : Given) (history : List Event) (station : ℕ) → AreDistinct given.stations
    → is_in station given.stations ≡ true → run_of given ≡ GoesOn history → (facts_at given station history).turn.begun ≡ turns_begun history
begun_last given history station distinct is goes =
    begun_at given station (turns_begun history) history
    ((ends_whole (run_of given) (IsWhole given (HaveStood given)) (IsStopped given (HaveStood given)) history
    (run_kept given (HaveStood given) (stood_kept given distinct) (record { stand = stands_first given; each = tt })) goes).is.stand station is)
