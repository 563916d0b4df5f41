-- A fact of each call of a run, by what is kept at each place of it.
use Rattle.std.proofs.Common.{◌≡◌, ℕ, List, [], ◌∷◌, ◌++◌}
use Rattle.std.specs.Prelude.{⊤, map, take}
use Rattle.journal_packets.specs.controller_model.Step.{Step, HostOctet, TurnBegins, TurnEnds}
use Rattle.journal_packets.specs.controller_model.Side.{notes_after}
use Rattle.link_calls.specs.run_model.Due.{Each}
use Rattle.link_calls.specs.run_model.History.{Event, TurnBegan, HostFed, Called, Noted, Transmitted, packet_received}
use Rattle.link_calls.specs.run_model.Run.{Given, Plan, after_call, after_feed, after_octets, facts_at, hearings_of, history_of, octets_left, run_of, setup_at, step_of}
use Rattle.link_calls.proofs.run_model.Places.{each_called, each_event}
use Rattle.link_calls.proofs.run_model.Walk.{Place, NoTurn, AtBegins, AtListening, AtEnds, IsKept, IsStopped, IsWhole, ends_with, run_kept}

module _ (given : Given) (fact : List Event → ℕ → Step → Type 0) where
  -- of a call, after the events before it
  abbrev pub OfCall : List Event → Event → Type 0
  OfCall history (Called station step) = fact history station step
  OfCall history (TurnBegan slot radios) = ⊤
  OfCall history (HostFed station octets) = ⊤
  OfCall history (Noted station note) = ⊤
  OfCall history (Transmitted station channel octets hearings) = ⊤

  -- calls of each kind have it, where this is kept
  pub record HaveCalls (P : Place → List Event → Type 0) : Type 0 where
    pub feeds : (station octet : ℕ) (history : List Event) → fact history station (HostOctet octet)
    pub begins : (plan : Plan) (slot : ℕ) (done left : List ℕ) (station : ℕ) (history : List Event) → given.stations ≡ done ++ station ∷ left → P (AtBegins done (station ∷ left)) history
        → P (AtBegins (done ++ station ∷ []) left) (after_call given station (TurnBegins slot (plan.radio_of station)) history) → fact history station (TurnBegins slot (plan.radio_of station))
    pub passes : (phases : ℕ) (done left : List ℕ) (station : ℕ) (history : List Event) → given.stations ≡ done ++ station ∷ left → P (AtListening phases done (station ∷ left)) history
        → P (AtListening phases (done ++ station ∷ []) left) (after_call given station (step_of (packet_received station history)) history)
        → fact history station (step_of (packet_received station history))
    pub ends : (done left : List ℕ) (station : ℕ) (history : List Event) → given.stations ≡ done ++ station ∷ left → P (AtEnds done (station ∷ left)) history
        → fact history station TurnEnds

  record AreOfCalls (P : Place → List Event → Type 0) (place : Place) (history : List Event) : Type 0 where
    is : P place history
    each : Each OfCall [] history

  module _ (P : Place → List Event → Type 0) (kept : IsKept given P) (have : HaveCalls P) where
    one_call : (station : ℕ) (step : Step) (history : List Event) → fact history station step → Each OfCall [] history → Each OfCall [] (after_call given station step history)
    one_call station step history is each =
        each_called OfCall station step (notes_after (setup_at given station) (facts_at given station history) step) history each is (λ before note. tt)

    each_octet : (station : ℕ) (octets : List ℕ) (history : List Event) → Each OfCall [] history → Each OfCall [] (after_octets given station octets history)
    each_octet station [] history each = each
    each_octet station (octet ∷ octets) history each =
        each_octet station octets (after_call given station (HostOctet octet) history) (one_call station (HostOctet octet) history (have.feeds station octet history) each)

    each_fed : (station : ℕ) (octets : List ℕ) (history : List Event) → Each OfCall [] history → Each OfCall [] (after_feed given station octets history)
    each_fed station [] history each = each
    each_fed station (octet ∷ octets) history each =
        each_octet station (octet ∷ octets) (history ++ HostFed station (octet ∷ octets) ∷ []) (each_event OfCall history (HostFed station (octet ∷ octets)) each tt)

    calls_kept : IsKept given (AreOfCalls P)
    calls_kept = record {
      on_turn = λ slot plan history begun at has. record {
        is = kept.on_turn slot plan history begun at has.is;
        each = each_event OfCall history (TurnBegan slot (map plan.radio_of given.stations)) has.each tt;
      };
      on_feed = λ plan done left station history are some now has. record {
        is = kept.on_feed plan done left station history are some now has.is;
        each = each_fed station (take (plan.feed_of station) (octets_left given station history)) history has.each;
      };
      on_fed = λ history has. record { is = kept.on_fed history has.is; each = has.each };
      on_begin = λ slot plan done left station history are due has.
          let next = kept.on_begin slot plan done left station history are due has.is in record {
            is = next;
            each = one_call station (TurnBegins slot (plan.radio_of station)) history (have.begins plan slot done left station history are has.is next) has.each;
          };
      on_begun = λ history has. record { is = kept.on_begun history has.is; each = has.each };
      on_phase = λ phases history few has. record { is = kept.on_phase phases history few has.is; each = has.each };
      on_silence = λ phases done left station history are none has. record { is = kept.on_silence phases done left station history are none has.is; each = has.each };
      on_packet = λ phases plan done left station channel octets history are some due has. record {
        is = kept.on_packet phases plan done left station channel octets history are some due has.is;
        each = each_event OfCall history (Transmitted station channel octets (hearings_of given plan.fates station channel octets history)) has.each tt;
      };
      on_air = λ phases history has. record { is = kept.on_air phases history has.is; each = has.each };
      on_hearing = λ phases done left station history are some has.
          let next = kept.on_hearing phases done left station history are some has.is in record {
            is = next;
            each = one_call station (step_of (packet_received station history)) history (have.passes phases done left station history are has.is next) has.each;
          };
      on_heard = λ phases history has. record { is = kept.on_heard phases history has.is; each = has.each };
      on_phases = λ history has. record { is = kept.on_phases history has.is; each = has.each };
      on_end = λ done left station history are some has. record {
        is = kept.on_end done left station history are some has.is;
        each = one_call station TurnEnds history (have.ends done left station history are has.is) has.each;
      };
      on_ended = λ history has. record { is = kept.on_ended history has.is; each = has.each };
    }

    -- so each call of the run has it
    pub run_calls : P NoTurn [] → Each OfCall [] (history_of (run_of given))
    run_calls first =
        ends_with (run_of given) (IsWhole given (AreOfCalls P)) (IsStopped given (AreOfCalls P)) (Each OfCall [])
        (run_kept given (AreOfCalls P) calls_kept (record { is = first; each = tt }))
        (λ history wholly. wholly.is.each) (λ history stop stopped. stopped.kept.each)
