-- As a station of a run is called with a packet, it is in a phase of which all packets were on the air, and what its
-- lines say of its links is what its controller has.
use Rattle.std.proofs.Common.{◌≡◌, ℕ, Option, Some, None, List, [], ◌∷◌, ◌++◌, map}
use Rattle.std.specs.Prelude.{take, ⊤}
use Rattle.journal_wants.specs.controller_model.Side.{notes_after}
use Rattle.journal_wants.specs.controller_model.Step.{HostOctet, PacketHeard, Step, TurnBegins, TurnEnds}
use Rattle.journal_wants.specs.run_model.Due.{Each}
use Rattle.journal_wants.specs.run_model.History.{Called, Event, HostFed, Transmitted, TurnBegan, packet_received}
use Rattle.journal_wants.specs.run_model.LinkEnds.{HaveAddresses}
use Rattle.journal_wants.specs.run_model.Run.{Given, after_call, after_feed, after_octets, facts_at, hearings_of, history_of, octets_left, run_of, setup_at, step_of}
use Rattle.journal_wants.proofs.journal_acks.Known.{known_of}
use Rattle.journal_wants.proofs.journal_acks.TwoStations.{IsOfTwo}
use Rattle.journal_wants.proofs.journal_acks.run_laws.DistinctAccess.{AreApart}
use Rattle.journal_wants.proofs.journal_data.FewLinks.{HaveFewLinks}
use Rattle.journal_wants.proofs.journal_data.KeptData.{IsDataAt, data_kept}
use Rattle.journal_wants.proofs.journal_data.Law.{first_data}
use Rattle.journal_wants.proofs.journal_leaving.link_model.Hearing.{IsHeardWhole}
use Rattle.journal_wants.proofs.journal_links.OfTwo.{are_distinct}
use Rattle.journal_wants.proofs.journal_packets.AccessOrder.{AreNth}
use Rattle.journal_wants.proofs.journal_packets.SoFar.{IsBelongingSoFar}
use Rattle.journal_wants.proofs.run_model.LinkEnds.{AreTaken, IsUnderstood}
use Rattle.journal_wants.proofs.run_model.Places.{each_at, each_called, each_event}
use Rattle.journal_wants.proofs.run_model.Walk.{AtListening, IsKept, IsStopped, IsWhole, Place, ends_with, run_kept}

-- a place at which a station is to take what it heard
pub record IsToHear (given : Given) (history : List Event) (station : ℕ) : Type 0 where
  pub phases : ℕ
  pub done : List ℕ
  pub left : List ℕ
  pub stations_are : given.stations ≡ done ++ station ∷ left
  pub lines : IsDataAt given (IsBelongingSoFar given) (AtListening phases done (station ∷ left)) history

abbrev HearsAt : Given → List Event → ℕ → Step → Type 0
HearsAt given before station (PacketHeard octets) = IsToHear given before station
HearsAt given before station step = ⊤

abbrev HearsBefore : Given → List Event → Event → Type 0
HearsBefore given before (Called station step) = HearsAt given before station step
HearsBefore given before event = ⊤

-- ---- calls of which nothing is said

module _ (given : Given) where
  abbrev F : List Event → Event → Type 0
  F = HearsBefore given

  call_each : (station : ℕ) (step : Step) (history : List Event) → Each F [] history
      → HearsAt given history station step → Each F [] (after_call given station step history)
  call_each station step history each is =
      each_called F station step (notes_after (setup_at given station) (facts_at given station history) step) history
      each is (λ before note. tt)

  octets_each : (station : ℕ) (octets : List ℕ) (history : List Event) → Each F [] history
      → Each F [] (after_octets given station octets history)
  octets_each station [] history each = each
  octets_each station (octet ∷ octets) history each =
      octets_each station octets (after_call given station (HostOctet octet) history)
      (call_each station (HostOctet octet) history each tt)

  feed_each : (station : ℕ) (octets : List ℕ) (history : List Event) → Each F [] history
      → Each F [] (after_feed given station octets history)
  feed_each station [] history each = each
  feed_each station (octet ∷ octets) history each =
      octets_each station (octet ∷ octets) (history ++ HostFed station (octet ∷ octets) ∷ [])
      (each_event F history (HostFed station (octet ∷ octets)) each tt)

  heard_at : (station : ℕ) (history : List Event) (received : Option (List ℕ)) → IsToHear given history station
      → HearsAt given history station (step_of received)
  heard_at station history None place = tt
  heard_at station history (Some octets) place = place

-- ---- in a run

module _ (whole : IsHeardWhole) (understood : IsUnderstood) (taken : AreTaken) (nth : AreNth) (apart : AreApart)
    (given : Given) (are_two : IsOfTwo given) (few_links : HaveFewLinks given)
    (six : HaveAddresses given) (eight : (station : ℕ) → (setup_at given station).host_buffers ≡ 8) where
  record AreHearing (place : Place) (history : List Event) : Type 0 where
    is : IsDataAt given (IsBelongingSoFar given) place history
    each : Each (HearsBefore given) [] history

  hearing_kept : IsKept given AreHearing
  hearing_kept =
      let kept =
      data_kept whole given (IsBelongingSoFar given) (known_of understood taken nth apart given are_two six) are_two
      few_links six (are_distinct given are_two) eight in record {
        on_turn = λ slot plan history begun at has. record {
          is = kept.on_turn slot plan history begun at has.is;
          each = each_event (HearsBefore given) history
              (TurnBegan slot (map plan.radio_of given.stations)) has.each tt;
        };
        on_feed = λ plan done left station history are some now has. record {
          is = kept.on_feed plan done left station history are some now has.is;
          each =
              feed_each given station (take (plan.feed_of station) (octets_left given station history)) history
              has.each;
        };
        on_fed = λ history has. record { is = kept.on_fed history has.is; each = has.each };
        on_begin = λ slot plan done left station history are due has. record {
          is = kept.on_begin slot plan done left station history are due has.is;
          each = call_each given station (TurnBegins slot (plan.radio_of station)) history has.each tt;
        };
        on_begun = λ history has. record { is = kept.on_begun history has.is; each = has.each };
        on_phase = λ phases history few has. record { is = kept.on_phase phases history few has.is; each = has.each };
        on_silence =
            λ phases done left station history are none has. record
            { is = kept.on_silence phases done left station history are none has.is; each = has.each };
        on_packet = λ phases plan done left station channel octets history are some due has. record {
          is = kept.on_packet phases plan done left station channel octets history are some due has.is;
          each =
              each_event (HearsBefore given) history
              (Transmitted station channel octets (hearings_of given plan.fates station channel octets history))
              has.each tt;
        };
        on_air = λ phases history has. record { is = kept.on_air phases history has.is; each = has.each };
        on_hearing = λ phases done left station history are some has. record {
          is = kept.on_hearing phases done left station history are some has.is;
          each = call_each given station (step_of (packet_received station history)) history has.each
              (heard_at given station history (packet_received station history)
              (record { phases = phases; done = done; left = left; stations_are = are; lines = has.is }));
        };
        on_heard = λ phases history has. record { is = kept.on_heard phases history has.is; each = has.each };
        on_phases = λ history has. record { is = kept.on_phases history has.is; each = has.each };
        on_end = λ done left station history are some has. record {
          is = kept.on_end done left station history are some has.is;
          each = call_each given station TurnEnds history has.each tt;
        };
        on_ended = λ history has. record { is = kept.on_ended history has.is; each = has.each };
      }

  run_hearing : Each (HearsBefore given) [] (history_of (run_of given))
  run_hearing =
      ends_with (run_of given) (IsWhole given AreHearing) (IsStopped given AreHearing) (Each (HearsBefore given) [])
      (run_kept given AreHearing hearing_kept (record { is = first_data given; each = tt }))
      (λ history wholly. wholly.is.each) (λ history stop stopped. stopped.kept.each)

  pub place_of_heard : (before rest : List Event) (station : ℕ) (octets : List ℕ)
      → history_of (run_of given) ≡ before ++ Called station (PacketHeard octets) ∷ rest
      → IsToHear given before station
  place_of_heard before rest station octets at =
      each_at (HearsBefore given) (history_of (run_of given)) before rest
      (Called station (PacketHeard octets)) run_hearing at
