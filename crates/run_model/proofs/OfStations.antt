-- Each event of a run is of one of its stations.
use Rattle.std.proofs.Common.{◌≡◌, ℕ, true, List, [], ◌∷◌, ◌++◌}
use Rattle.std.specs.Prelude.{map, take}
use Rattle.ble_base.specs.declared.notes.Note.{Note}
use Rattle.controller_model.specs.Step.{Step, HostOctet, TurnBegins, TurnEnds}
use Rattle.controller_model.specs.Side.{notes_after}
use Rattle.run_model.specs.History.{Event, TurnBegan, HostFed, Called, Noted, Transmitted, packet_received}
use Rattle.run_model.specs.Run.{Given, setup_at, facts_at, octets_left, after_call, after_octets, after_feed, hearings_of, step_of, run_of, history_of}
use Rattle.run_model.specs.Due.{Each}
use Rattle.run_model.specs.Readers.{IsOfStations}
use Rattle.run_model.proofs.Places.{each_append, each_event}
use Rattle.run_model.proofs.Stations.{is_in, among}
use Rattle.run_model.proofs.Walk.{Place, IsKept, IsWhole, IsStopped, ends_with, run_kept}

abbrev pub OfStations : Given → List Event → Event → Type 0
OfStations given before event = IsOfStations given.stations event

notes_of_station : (given : Given) (history : List Event) (station : ℕ) (notes : List Note) → is_in station given.stations ≡ true
    → Each (OfStations given) history (map (Noted station) notes)
notes_of_station given history station [] is = tt
notes_of_station given history station (note ∷ notes) is = (is, notes_of_station given (history ++ Noted station note ∷ []) station notes is)

call_of_station : (given : Given) (station : ℕ) (step : Step) (history : List Event) → is_in station given.stations ≡ true → Each (OfStations given) [] history
    → Each (OfStations given) [] (after_call given station step history)
call_of_station given station step history is each =
    let notes = notes_after (setup_at given station) (facts_at given station history) step in
    each_append (OfStations given) [] history (Called station step ∷ map (Noted station) notes) each
    (is, notes_of_station given (history ++ Called station step ∷ []) station notes is)

octets_of_station : (given : Given) (station : ℕ) (octets : List ℕ) (history : List Event) → is_in station given.stations ≡ true → Each (OfStations given) [] history
    → Each (OfStations given) [] (after_octets given station octets history)
octets_of_station given station [] history is each = each
octets_of_station given station (octet ∷ octets) history is each =
    octets_of_station given station octets (after_call given station (HostOctet octet) history) is (call_of_station given station (HostOctet octet) history is each)

feed_of_station : (given : Given) (station : ℕ) (octets : List ℕ) (history : List Event) → is_in station given.stations ≡ true → Each (OfStations given) [] history
    → Each (OfStations given) [] (after_feed given station octets history)
feed_of_station given station [] history is each = each
feed_of_station given station (octet ∷ octets) history is each =
    octets_of_station given station (octet ∷ octets) _ is (each_event (OfStations given) history (HostFed station (octet ∷ octets)) each is)

of_stations_kept : (given : Given) → IsKept given (λ place history. Each (OfStations given) [] history)
of_stations_kept given = record {
  on_turn = λ slot plan history begun at each. each_event (OfStations given) history (TurnBegan slot (map plan.radio_of given.stations)) each tt;
  on_feed = λ plan done left station history are some now each.
      feed_of_station given station (take (plan.feed_of station) (octets_left given station history)) history (among given.stations done left station are) each;
  on_fed = λ history each. each;
  on_begin = λ slot plan done left station history are due each.
      call_of_station given station (TurnBegins slot (plan.radio_of station)) history (among given.stations done left station are) each;
  on_begun = λ history each. each;
  on_phase = λ phases history few each. each;
  on_silence = λ phases done left station history are none each. each;
  on_packet = λ phases plan done left station channel octets history are some due each.
      each_event (OfStations given) history (Transmitted station channel octets (hearings_of given plan.fates station channel octets history)) each
      (among given.stations done left station are);
  on_air = λ phases history each. each;
  on_hearing = λ phases done left station history are some each.
      call_of_station given station (step_of (packet_received station history)) history (among given.stations done left station are) each;
  on_heard = λ phases history each. each;
  on_phases = λ history each. each;
  on_end = λ done left station history are some each. call_of_station given station TurnEnds history (among given.stations done left station are) each;
  on_ended = λ history each. each;
}

abbrev EachOf : Given → Place → List Event → Type 0
EachOf given place history = Each (OfStations given) [] history

pub run_of_stations : (given : Given) → Each (OfStations given) [] (history_of (run_of given))
run_of_stations given =
    ends_with (run_of given) (IsWhole given (EachOf given)) (IsStopped given (EachOf given)) (Each (OfStations given) [])
    (run_kept given (EachOf given) (of_stations_kept given) tt) (λ history whole. whole.is) (λ history stop stopped. stopped.kept)
