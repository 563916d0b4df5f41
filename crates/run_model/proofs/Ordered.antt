-- The entries of a journal are in order.
use Rattle.std.proofs.Common.{◌≡◌, ℕ, zero, suc, ◌<◌, List, [], ◌∷◌, ◌++◌, refl, sym, ap, subst, ◌∙◌, append-nil, append_assoc, arith}
use Rattle.std.specs.Prelude.{drop, map, take, Some}
use Rattle.std.specs.List.{IsDistinct}
use Rattle.radio_replay.specs.Script.{Script}
use Rattle.controller_model.specs.Step.{Step, TurnBegins, TurnEnds}
use Rattle.run_model.specs.History.{Event, TurnBegan, Transmitted, packet_received}
use Rattle.run_model.specs.Links.{links_of}
use Rattle.run_model.specs.Journal.{side_of, radio_in, entries_of, journal_of}
use Rattle.run_model.specs.Run.{Given, octets_left, after_call, after_feed, hearings_of, step_of, run_of, history_of}
use Rattle.run_model.specs.Pair.{given_of}
use Rattle.run_model.specs.Feeding.{AreDistinct}
use Rattle.run_model.specs.Order.{IsInOrder, Part, Feeding, Sending, Noting, turn_parts}
use Rattle.run_model.proofs.Walk.{Place, NoTurn, AtFeeds, AtBegins, AfterPhases, AtPackets, AtListening, AtEnds, IsKept, IsWhole, IsStopped, ends_with, run_kept}
use Rattle.run_model.proofs.Parts.{Adds, IsInTurn, call_adds, feed_adds, journal_event, notes_part, packet_part, turn_begins, turn_goes_on, turn_stops}

-- ---- the parts of a turn that are done

abbrev feedings : List ℕ → List Part
feedings stations = map (λ station. Feeding (side_of station)) stations

abbrev sendings : List ℕ → List Part
sendings stations = map (λ station. Sending (side_of station)) stations

abbrev notings : List ℕ → List Part
notings stations = map (λ station. Noting (side_of station)) stations

abbrev parts_begun : Given → ℕ → List Part
parts_begun given zero = feedings given.stations ++ notings given.stations
parts_begun given (suc phases) = parts_begun given phases ++ sendings given.stations ++ notings given.stations

abbrev parts_done : Given → Place → List Part
parts_done given NoTurn = []
parts_done given (AtFeeds done left) = feedings done
parts_done given (AtBegins done left) = feedings given.stations ++ notings done
parts_done given (AfterPhases phases) = parts_begun given phases
parts_done given (AtPackets phases done left) = parts_begun given phases ++ sendings done
parts_done given (AtListening phases done left) = parts_begun given phases ++ sendings given.stations ++ notings done
parts_done given (AtEnds done left) = parts_begun given 3 ++ notings done

-- one station more
map_more : (f : ℕ → Part) (done : List ℕ) (station : ℕ) → map f (done ++ station ∷ []) ≡ map f done ++ f station ∷ []
map_more f [] station = refl
map_more f (first ∷ done) station = ap (λ parts. f first ∷ parts) (map_more f done station)

one_part : (before : List Part) (f : ℕ → Part) (done : List ℕ) (station : ℕ) → before ++ map f (done ++ station ∷ []) ≡ (before ++ map f done) ++ f station ∷ []
one_part before f done station = ap (λ parts. before ++ parts) (map_more f done station) ∙ sym (append_assoc before (map f done) (f station ∷ []))

-- ---- what each step keeps

abbrev IsPhase : Place → Type 0
IsPhase (AtPackets phases done left) = phases < 3
IsPhase (AtListening phases done left) = phases < 3
IsPhase _ = Unit {0}

abbrev Stands : Given → Place → List Event → Type 0
Stands given NoTurn history = IsInOrder (journal_of history)
Stands given place history = IsInTurn (parts_done given place) (journal_of history)

pub record IsOrderedSoFar (given : Given) (place : Place) (history : List Event) : Type 0 where
  pub phase : IsPhase place
  pub stands : Stands given place history

in_turn : (parts more : List Part) (history : List Event) → parts ≡ more → IsInTurn parts (journal_of history) → IsInTurn more (journal_of history)
in_turn parts more history are turn = subst (λ all. IsInTurn all (journal_of history)) are turn

part_added : (before : List Part) (f : ℕ → Part) (done : List ℕ) (station : ℕ) (history after : List Event) → IsInTurn (before ++ map f done) (journal_of history)
    → Adds (f station) history after → IsInTurn (before ++ map f (done ++ station ∷ [])) (journal_of after)
part_added before f done station history after turn adds =
    subst (λ parts. IsInTurn parts (journal_of after)) (sym (one_part before f done station))
    (subst (IsInTurn ((before ++ map f done) ++ f station ∷ [])) (sym adds.journal_is)
    (turn_goes_on (before ++ map f done) (journal_of history) (f station) adds.entries turn adds.are_of))

call_part : (given : Given) (station : ℕ) (step : Step) (history : List Event) → Adds (Noting (side_of station)) history (after_call given station step history)
call_part given station step history =
    let notes = call_adds given station step history in
    record { entries = notes.entries; journal_is = notes.journal_is; are_of = notes_part (side_of station) notes.entries notes.are_notes }

ordered_kept : (given : Given) → turn_parts ≡ parts_begun given 3 ++ notings given.stations → IsKept given (IsOrderedSoFar given)
ordered_kept given are_all = record {
  on_turn = λ slot plan history begun at so_far.
      let radios = map plan.radio_of given.stations in record {
        phase = tt;
        stands = subst (IsInTurn []) (sym (journal_event history (TurnBegan slot radios)))
            (turn_begins (journal_of history) slot (radio_in 0 radios) (Some (radio_in 1 radios)) so_far.stands);
      };
  on_feed = λ plan done left station history are some now so_far.
      let octets = take (plan.feed_of station) (octets_left given station history) in record {
        phase = tt;
        stands = part_added [] (λ s. Feeding (side_of s)) done station history (after_feed given station octets history) so_far.stands
            (feed_adds given station octets history);
      };
  on_fed = λ history so_far. record {
    phase = tt;
    stands = in_turn (feedings given.stations) (feedings given.stations ++ []) history (sym (append-nil (feedings given.stations))) so_far.stands;
  };
  on_begin = λ slot plan done left station history are due so_far.
      let step = TurnBegins slot (plan.radio_of station) in record {
        phase = tt;
        stands = part_added (feedings given.stations) (λ s. Noting (side_of s)) done station history (after_call given station step history) so_far.stands
            (call_part given station step history);
      };
  on_begun = λ history so_far. record { phase = tt; stands = so_far.stands };
  on_phase = λ phases history few so_far. record {
    phase = few;
    stands = in_turn (parts_begun given phases) (parts_begun given phases ++ []) history (sym (append-nil (parts_begun given phases))) so_far.stands;
  };
  on_silence = λ phases done left station history are none so_far. record {
    phase = so_far.phase;
    stands = part_added (parts_begun given phases) (λ s. Sending (side_of s)) done station history history so_far.stands
        (record { entries = []; journal_is = sym (append-nil (journal_of history)); are_of = tt });
  };
  on_packet = λ phases plan done left station channel octets history are some due so_far.
      let hearings = hearings_of given plan.fates station channel octets history in
      let event = Transmitted station channel octets hearings in record {
        phase = so_far.phase;
        stands = part_added (parts_begun given phases) (λ s. Sending (side_of s)) done station history (history ++ event ∷ []) so_far.stands (record {
          entries = entries_of (links_of history) event;
          journal_is = journal_event history event;
          are_of = packet_part (side_of station) channel octets hearings;
        });
      };
  on_air = λ phases history so_far.
      let before = parts_begun given phases ++ sendings given.stations in record {
        phase = so_far.phase;
        stands = in_turn before (before ++ []) history (sym (append-nil before)) so_far.stands;
      };
  on_hearing = λ phases done left station history are some so_far.
      let step = step_of (packet_received station history) in record {
        phase = so_far.phase;
        stands = part_added (parts_begun given phases ++ sendings given.stations) (λ s. Noting (side_of s)) done station history (after_call given station step history)
            so_far.stands (call_part given station step history);
      };
  on_heard = λ phases history so_far. record { phase = tt; stands = so_far.stands };
  on_phases = λ history so_far. record {
    phase = tt;
    stands = in_turn (parts_begun given 3) (parts_begun given 3 ++ []) history (sym (append-nil (parts_begun given 3))) so_far.stands;
  };
  on_end = λ done left station history are some so_far. record {
    phase = tt;
    stands = part_added (parts_begun given 3) (λ s. Noting (side_of s)) done station history (after_call given station TurnEnds history) so_far.stands
        (call_part given station TurnEnds history);
  };
  on_ended = λ history so_far. record {
    phase = tt;
    stands = turn_stops (parts_begun given 3 ++ notings given.stations) [] (journal_of history)
        (are_all ∙ sym (append-nil (parts_begun given 3 ++ notings given.stations))) so_far.stands;
  };
}

first_ordered : IsInOrder (journal_of [])
unfolding journal_of
first_ordered = record { turns = []; journal_is = refl; in_parts = tt }

-- ---- a pair

-- the parts that are left where a station is to transmit
record AreLeft (given : Given) (phases : ℕ) (done : List ℕ) : Type 0 where
  pub left : List Part
  pub parts_are : turn_parts ≡ (parts_begun given phases ++ sendings done) ++ left

first_left : (a b : List ℕ) (script : Script) (phases : ℕ) → phases < 3 → AreLeft (given_of a b script) phases []
first_left a b script zero few = record { left = drop 4 turn_parts; parts_are = refl }
first_left a b script (suc zero) few = record { left = drop 8 turn_parts; parts_are = refl }
first_left a b script (suc (suc zero)) few = record { left = drop 12 turn_parts; parts_are = refl }
first_left a b script (suc (suc (suc phases))) few = absurd (omega (arith, few))

second_left : (a b : List ℕ) (script : Script) (phases : ℕ) → phases < 3 → AreLeft (given_of a b script) phases (0 ∷ [])
second_left a b script zero few = record { left = drop 5 turn_parts; parts_are = refl }
second_left a b script (suc zero) few = record { left = drop 9 turn_parts; parts_are = refl }
second_left a b script (suc (suc zero)) few = record { left = drop 13 turn_parts; parts_are = refl }
second_left a b script (suc (suc (suc phases))) few = absurd (omega (arith, few))

pair_left : (a b : List ℕ) (script : Script) (phases : ℕ) (done left : List ℕ) (station : ℕ) → (given_of a b script).stations ≡ done ++ station ∷ left → phases < 3
    → AreLeft (given_of a b script) phases done
pair_left a b script phases [] left station are few = first_left a b script phases few
pair_left a b script phases (first ∷ []) left station are few =
    let same : 0 ≡ first = cc in
    subst (λ one. AreLeft (given_of a b script) phases (one ∷ [])) same (second_left a b script phases few)
pair_left a b script phases (first ∷ second ∷ []) left station are few = absurd cc
pair_left a b script phases (first ∷ second ∷ third ∷ done) left station are few = absurd cc

pub pair_distinct : (a b : List ℕ) (script : Script) → AreDistinct (given_of a b script).stations
unfolding IsDistinct
pair_distinct a b script = ((refl, tt), (tt, tt))

pub pair_in_order : (a b : List ℕ) (script : Script) → IsInOrder (journal_of (history_of (run_of (given_of a b script))))
pair_in_order a b script =
    let given = given_of a b script in
    ends_with (run_of given) (IsWhole given (IsOrderedSoFar given)) (IsStopped given (IsOrderedSoFar given)) (λ history. IsInOrder (journal_of history))
    (run_kept given (IsOrderedSoFar given) (ordered_kept given refl) (record { phase = tt; stands = first_ordered }))
    (λ history whole. whole.is.stands)
    (λ history stop stopped.
    let left = pair_left a b script stopped.phases stopped.done stopped.left stop.sender stopped.stations_are stopped.kept.phase in
    turn_stops (parts_begun given stopped.phases ++ sendings stopped.done) left.left (journal_of history) left.parts_are stopped.kept.stands)
