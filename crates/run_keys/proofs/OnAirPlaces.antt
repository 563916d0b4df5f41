-- While a packet of a run is on the air, each station is in the same phase of one turn.
use Rattle.std.proofs.Common.{◌≡◌, ℕ, true, Some, List, [], ◌∷◌, ◌++◌}
use Rattle.std.specs.Prelude.{map, take}
use Rattle.controller_model.specs.Step.{Step, HostOctet, TurnBegins, TurnEnds}
use Rattle.controller_model.specs.Side.{notes_after}
use Rattle.run_pairs.specs.link_calls.run_model.Due.{Each}
use Rattle.run_pairs.specs.link_calls.run_model.Feeding.{AreDistinct}
use Rattle.run_pairs.specs.link_calls.run_model.History.{Event, TurnBegan, HostFed, Called, Noted, Transmitted, Hearing, packet_received, past_of, turns_begun}
use Rattle.run_pairs.specs.link_calls.run_model.Run.{Given, after_call, after_feed, after_octets, facts_at, hearings_of, history_of, octets_left, run_of, setup_at, step_of}
use Rattle.run_pairs.proofs.link_calls.run_model.Places.{each_at, each_called, each_event}
use Rattle.run_pairs.proofs.link_calls.run_model.Stations.{is_in}
use Rattle.run_pairs.proofs.link_calls.run_model.Walk.{IsKept, IsStopped, IsWhole, Place, ends_with, run_kept}
use Rattle.run_pairs.proofs.link_calls.run_laws.TurnPlaces.{AllStand, Within, at_stage, standing, stands_first, stands_kept}

pub record StandInPhase (given : Given) (before : List Event) : Type 0 where
  pub phases : ℕ
  pub turns : ℕ
  pub all : (station : ℕ) → is_in station given.stations ≡ true → standing (past_of station before) ≡ Some (at_stage (Within phases) turns)

abbrev OnAirIs : Given → List Event → Event → Type 0
OnAirIs given before (Transmitted station channel octets hearings) = StandInPhase given before
OnAirIs given before (TurnBegan slot radios) = Unit {0}
OnAirIs given before (HostFed station octets) = Unit {0}
OnAirIs given before (Called station step) = Unit {0}
OnAirIs given before (Noted station note) = Unit {0}

record AreOnAir (given : Given) (place : Place) (history : List Event) : Type 0 where
  stand : AllStand given place history
  each : Each (OnAirIs given) [] history

called_too : (given : Given) (station : ℕ) (step : Step) (history : List Event) → Each (OnAirIs given) [] history
    → Each (OnAirIs given) [] (after_call given station step history)
called_too given station step history each =
    each_called (OnAirIs given) station step (notes_after (setup_at given station) (facts_at given station history) step) history each tt (λ before note. tt)

octets_too : (given : Given) (station : ℕ) (octets : List ℕ) (history : List Event) → Each (OnAirIs given) [] history
    → Each (OnAirIs given) [] (after_octets given station octets history)
octets_too given station [] history each = each
octets_too given station (octet ∷ octets) history each =
    octets_too given station octets (after_call given station (HostOctet octet) history) (called_too given station (HostOctet octet) history each)

fed_too : (given : Given) (station : ℕ) (octets : List ℕ) (history : List Event) → Each (OnAirIs given) [] history
    → Each (OnAirIs given) [] (after_feed given station octets history)
fed_too given station [] history each = each
fed_too given station (octet ∷ octets) history each =
    octets_too given station (octet ∷ octets) (history ++ HostFed station (octet ∷ octets) ∷ [])
    (each_event (OnAirIs given) history (HostFed station (octet ∷ octets)) each tt)

on_air_kept : (given : Given) → AreDistinct given.stations → IsKept given (AreOnAir given)
on_air_kept given distinct = let kept = stands_kept given distinct in record {
  on_turn = λ slot plan history begun at has. record {
    stand = kept.on_turn slot plan history begun at has.stand;
    each = each_event (OnAirIs given) history (TurnBegan slot (map plan.radio_of given.stations)) has.each tt;
  };
  on_feed = λ plan done left station history are some now has. record {
    stand = kept.on_feed plan done left station history are some now has.stand;
    each = fed_too given station (take (plan.feed_of station) (octets_left given station history)) history has.each;
  };
  on_fed = λ history has. record { stand = kept.on_fed history has.stand; each = has.each };
  on_begin = λ slot plan done left station history are due has. record {
    stand = kept.on_begin slot plan done left station history are due has.stand;
    each = called_too given station (TurnBegins slot (plan.radio_of station)) history has.each;
  };
  on_begun = λ history has. record { stand = kept.on_begun history has.stand; each = has.each };
  on_phase = λ phases history few has. record { stand = kept.on_phase phases history few has.stand; each = has.each };
  on_silence = λ phases done left station history are none has.
      record { stand = kept.on_silence phases done left station history are none has.stand; each = has.each };
  on_packet = λ phases plan done left station channel octets history are some due has. record {
    stand = kept.on_packet phases plan done left station channel octets history are some due has.stand;
    each = each_event (OnAirIs given) history (Transmitted station channel octets (hearings_of given plan.fates station channel octets history)) has.each
        (record { phases = phases; turns = turns_begun history; all = has.stand });
  };
  on_air = λ phases history has. record { stand = kept.on_air phases history has.stand; each = has.each };
  on_hearing = λ phases done left station history are some has. record {
    stand = kept.on_hearing phases done left station history are some has.stand;
    each = called_too given station (step_of (packet_received station history)) history has.each;
  };
  on_heard = λ phases history has. record { stand = kept.on_heard phases history has.stand; each = has.each };
  on_phases = λ history has. record { stand = kept.on_phases history has.stand; each = has.each };
  on_end = λ done left station history are some has. record {
    stand = kept.on_end done left station history are some has.stand;
    each = called_too given station TurnEnds history has.each;
  };
  on_ended = λ history has. record { stand = kept.on_ended history has.stand; each = has.each };
}

run_on_air : (given : Given) → AreDistinct given.stations → Each (OnAirIs given) [] (history_of (run_of given))
run_on_air given distinct =
    ends_with (run_of given) (IsWhole given (AreOnAir given)) (IsStopped given (AreOnAir given)) (Each (OnAirIs given) [])
    (run_kept given (AreOnAir given) (on_air_kept given distinct) (record { stand = stands_first given; each = tt }))
    (λ history whole. whole.is.each) (λ history stop stopped. stopped.kept.each)

pub stand_on_air : (given : Given) (before rest : List Event) (station channel : ℕ) (octets : List ℕ) (hearings : List Hearing) → AreDistinct given.stations
    → history_of (run_of given) ≡ before ++ Transmitted station channel octets hearings ∷ rest → StandInPhase given before
stand_on_air given before rest station channel octets hearings distinct at =
    each_at (OnAirIs given) (history_of (run_of given)) before rest (Transmitted station channel octets hearings) (run_on_air given distinct) at
