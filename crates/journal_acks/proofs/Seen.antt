-- What is kept at each place of a run is seen before each turn, before each packet, also the one at which a run stops,
-- and at the end.
use Rattle.std.proofs.Common.{◌≡◌, ℕ, Bool, List, [], ◌∷◌, ◌++◌}
use Rattle.std.specs.Prelude.{map, take}
use Rattle.journal_packets.specs.controller_model.Step.{TurnBegins, TurnEnds}
use Rattle.journal_packets.specs.controller_model.Facts.{Sends}
use Rattle.link_calls.specs.run_model.Due.{Each}
use Rattle.link_calls.specs.run_model.History.{Event, TurnBegan, HostFed, Called, Noted, Transmitted, Hearing, packet_received}
use Rattle.link_calls.specs.run_model.Run.{Given, GoesOn, Stop, Stops, hearings_of, history_of, octets_left, run_of, step_of, use_at}
use Rattle.link_calls.proofs.run_model.Places.{each_at, each_event}
use Rattle.link_calls.proofs.run_model.Walk.{Place, NoTurn, AtPackets, IsKept, IsWhole, IsStopped, ends_stopped, ends_whole, ends_with, run_kept}
use Rattle.journal_packets.proofs.EachEvent.{each_call, each_feed}

-- what holds before a turn, and before a packet
pub record IsSeen (given : Given) (P : Place → List Event → Type 0) (T : List Event → Type 0) (S : List Event → ℕ → ℕ → List ℕ → Type 0) : Type 0 where
  pub turn : (history : List Event) → P NoTurn history → T history
  pub packet : (phases : ℕ) (done left : List ℕ) (station channel : ℕ) (octets : List ℕ) (history : List Event) → given.stations ≡ done ++ station ∷ left
      → use_at given station history ≡ Sends channel octets → P (AtPackets phases done (station ∷ left)) history → S history station channel octets

module _ (given : Given) (P : Place → List Event → Type 0) (kept : IsKept given P) (T : List Event → Type 0) (S : List Event → ℕ → ℕ → List ℕ → Type 0)
    (sees : IsSeen given P T S) where
  abbrev SeenBefore : List Event → Event → Type 0
  SeenBefore before (TurnBegan slot radios) = T before
  SeenBefore before (Transmitted station channel octets hearings) = S before station channel octets
  SeenBefore before (HostFed station octets) = Unit {0}
  SeenBefore before (Called station step) = Unit {0}
  SeenBefore before (Noted station note) = Unit {0}

  record SeesAll (place : Place) (history : List Event) : Type 0 where
    is : P place history
    each : Each SeenBefore [] history

  sees_kept : IsKept given SeesAll
  sees_kept = record {
    on_turn = λ slot plan history begun at is. record {
      is = kept.on_turn slot plan history begun at is.is;
      each = each_event SeenBefore history (TurnBegan slot (map plan.radio_of given.stations)) is.each (sees.turn history is.is);
    };
    on_feed = λ plan done left station history are some now is. record {
      is = kept.on_feed plan done left station history are some now is.is;
      each = each_feed given SeenBefore (λ before station step. tt) (λ station before note. tt) (λ before station octets. tt) station
          (take (plan.feed_of station) (octets_left given station history)) history is.each;
    };
    on_fed = λ history is. record { is = kept.on_fed history is.is; each = is.each };
    on_begin = λ slot plan done left station history are due is. record {
      is = kept.on_begin slot plan done left station history are due is.is;
      each = each_call given SeenBefore (λ before station step. tt) (λ station before note. tt) (λ before station octets. tt) station
          (TurnBegins slot (plan.radio_of station)) history is.each;
    };
    on_begun = λ history is. record { is = kept.on_begun history is.is; each = is.each };
    on_phase = λ phases history few is. record { is = kept.on_phase phases history few is.is; each = is.each };
    on_silence = λ phases done left station history are none is. record { is = kept.on_silence phases done left station history are none is.is; each = is.each };
    on_packet = λ phases plan done left station channel octets history are some due is. record {
      is = kept.on_packet phases plan done left station channel octets history are some due is.is;
      each = each_event SeenBefore history (Transmitted station channel octets (hearings_of given plan.fates station channel octets history)) is.each
          (sees.packet phases done left station channel octets history are due.is_wanted is.is);
    };
    on_air = λ phases history is. record { is = kept.on_air phases history is.is; each = is.each };
    on_hearing = λ phases done left station history are some is. record {
      is = kept.on_hearing phases done left station history are some is.is;
      each = each_call given SeenBefore (λ before station step. tt) (λ station before note. tt) (λ before station octets. tt) station
          (step_of (packet_received station history)) history is.each;
    };
    on_heard = λ phases history is. record { is = kept.on_heard phases history is.is; each = is.each };
    on_phases = λ history is. record { is = kept.on_phases history is.is; each = is.each };
    on_end = λ done left station history are some is. record {
      is = kept.on_end done left station history are some is.is;
      each = each_call given SeenBefore (λ before station step. tt) (λ station before note. tt) (λ before station octets. tt) station TurnEnds history is.each;
    };
    on_ended = λ history is. record { is = kept.on_ended history is.is; each = is.each };
  }

  module _ (first : P NoTurn []) where
    run_sees : Each SeenBefore [] (history_of (run_of given))
    run_sees =
        ends_with (run_of given) (IsWhole given SeesAll) (IsStopped given SeesAll) (Each SeenBefore []) (run_kept given SeesAll sees_kept (record { is = first; each = tt }))
        (λ history whole. whole.is.each) (λ history stop stopped. stopped.kept.each)

    pub seen_turn : (before rest : List Event) (slot : ℕ) (radios : List Bool) → history_of (run_of given) ≡ before ++ TurnBegan slot radios ∷ rest → T before
    seen_turn before rest slot radios at = each_at SeenBefore (history_of (run_of given)) before rest (TurnBegan slot radios) run_sees at

    pub seen_packet : (before rest : List Event) (station channel : ℕ) (octets : List ℕ) (hearings : List Hearing)
        → history_of (run_of given) ≡ before ++ Transmitted station channel octets hearings ∷ rest → S before station channel octets
    seen_packet before rest station channel octets hearings at =
        each_at SeenBefore (history_of (run_of given)) before rest (Transmitted station channel octets hearings) run_sees at

    pub seen_last : (history : List Event) → run_of given ≡ GoesOn history → T history
    seen_last history goes =
        sees.turn history (ends_whole (run_of given) (IsWhole given SeesAll) (IsStopped given SeesAll) history (run_kept given SeesAll sees_kept (record { is = first; each = tt })) goes).is.is

    pub seen_stop : (history : List Event) (stop : Stop) → run_of given ≡ Stops history stop → S history stop.sender stop.channel stop.sent
    seen_stop history stop stops =
        let stopped = ends_stopped (run_of given) (IsWhole given SeesAll) (IsStopped given SeesAll) history stop (run_kept given SeesAll sees_kept (record { is = first; each = tt })) stops in
        sees.packet stopped.phases stopped.done stopped.left stop.sender stop.channel stop.sent history stopped.stations_are stopped.is_wanted stopped.kept.is
