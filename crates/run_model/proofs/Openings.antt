-- The turns of a run are those of the schedule.
use Rattle.std.proofs.Common.{◌≡◌, ℕ, suc, ◌+◌, ◌<◌, List, [], ◌∷◌, ◌++◌, length, take, refl, sym, ap, subst, ◌∙◌, arith}
use Rattle.std.specs.Prelude.{map, Some, slice_get}
use Rattle.std.proofs.lemmas.List.{length-take-le}
use Rattle.std.proofs.lemmas.Option.{slice_get_within}
use Rattle.ble_base.specs.declared.notes.Note.{Note}
use Rattle.controller_model.specs.Step.{Step, HostOctet, TurnBegins, TurnEnds}
use Rattle.controller_model.specs.Side.{notes_after}
use Rattle.run_model.specs.History.{Event, TurnBegan, HostFed, Called, Noted, Transmitted, turns_begun, turns_in, packet_received}
use Rattle.run_model.specs.Run.{Given, Plan, GoesOn, Stops, Stop, setup_at, facts_at, octets_left, after_call, after_octets, after_feed, hearings_of, step_of, run_of, history_of}
use Rattle.run_model.specs.Due.{Each}
use Rattle.run_model.specs.Turns.{Opening, IsInTurn, openings_in, openings_of, openings_from}
use Rattle.run_model.proofs.Calls.{flat_event, flat_nothing, flat_unread, turns_called, turns_more, turns_same}
use Rattle.run_model.proofs.Places.{each_append, each_event}
use Rattle.run_model.proofs.Feeds.{take_plan}
use Rattle.run_model.proofs.Walk.{Place, IsKept, IsWhole, IsStopped, called_turns, ends_with, ends_whole, ends_stopped, run_kept}

-- ---- openings

openings_more : (stations : List ℕ) (slot : ℕ) (plans : List Plan) (plan : Plan)
    → openings_from stations slot (plans ++ plan ∷ []) ≡ openings_from stations slot plans ++ record { slot = slot + length plans; radios = map plan.radio_of stations } ∷ []
openings_more stations slot [] plan = ap (λ n. record { slot = n; radios = map plan.radio_of stations } ∷ []) (same slot)
  where
    same : (n : ℕ) → n ≡ n + 0
    same n = omega arith
openings_more stations slot (first ∷ plans) plan =
    ap (λ xs. record { slot = slot; radios = map first.radio_of stations } ∷ xs)
    (openings_more stations (slot + 1) plans plan
    ∙ ap (λ n. openings_from stations (slot + 1) plans ++ record { slot = n; radios = map plan.radio_of stations } ∷ []) (one_on slot (length plans)))
  where
    one_on : (n m : ℕ) → n + 1 + m ≡ n + suc m
    one_on n m = omega arith

abbrev begun_in : Given → ℕ → List Opening
begun_in given turns = openings_from given.stations 0 (take turns given.plans)

zero_on : (n : ℕ) → 0 + n ≡ n
zero_on n = omega arith

one_more : (n : ℕ) → suc n ≡ n + 1
one_more n = omega arith

length_taken : (plans : List Plan) (turns : ℕ) (plan : Plan) → slice_get plans turns ≡ Some plan → length (take turns plans) ≡ turns
length_taken plans turns plan at = let within = slice_get_within plans turns plan at in length-take-le turns plans (omega (arith, within))

begun_more : (given : Given) (turns : ℕ) (plan : Plan) → slice_get given.plans turns ≡ Some plan
    → begun_in given (turns + 1) ≡ begun_in given turns ++ record { slot = turns; radios = map plan.radio_of given.stations } ∷ []
begun_more given turns plan at =
    ap (begun_in given) (sym (one_more turns))
    ∙ ap (openings_from given.stations 0) (take_plan turns given.plans plan at)
    ∙ openings_more given.stations 0 (take turns given.plans) plan
    ∙ ap (λ n. begun_in given turns ++ record { slot = n; radios = map plan.radio_of given.stations } ∷ []) (zero_on (length (take turns given.plans)) ∙ length_taken given.plans turns plan at)

-- ---- what each step keeps

pub record IsBegunSoFar (given : Given) (history : List Event) : Type 0 where
  pub each : Each IsInTurn [] history
  pub openings : openings_of history ≡ begun_in given (turns_begun history)

notes_in_turn : (history : List Event) (station : ℕ) (notes : List Note) → 0 < turns_begun history → Each IsInTurn history (map (Noted station) notes)
notes_in_turn history station [] some = tt
notes_in_turn history station (note ∷ notes) some =
    (some, notes_in_turn (history ++ Noted station note ∷ []) station notes (subst (λ n. 0 < n) (sym (turns_same history (Noted station note) refl)) some))

call_begun : (given : Given) (station : ℕ) (step : Step) (history : List Event) → 0 < turns_begun history → IsBegunSoFar given history
    → IsBegunSoFar given (after_call given station step history)
call_begun given station step history some so_far =
    let notes = notes_after (setup_at given station) (facts_at given station history) step in record {
      each = each_append IsInTurn [] history (Called station step ∷ map (Noted station) notes) so_far.each
          (some, notes_in_turn (history ++ Called station step ∷ []) station notes (subst (λ n. 0 < n) (sym (turns_same history (Called station step) refl)) some));
      openings = flat_unread openings_in station step notes history refl (λ note. refl) ∙ so_far.openings
          ∙ ap (begun_in given) (sym (turns_called station step notes history));
    }

event_begun : (given : Given) (history : List Event) (event : Event) → turns_in event ≡ 0 → openings_in event ≡ [] → IsInTurn history event
    → IsBegunSoFar given history → IsBegunSoFar given (history ++ event ∷ [])
event_begun given history event turns opening is so_far = record {
  each = each_event IsInTurn history event so_far.each is;
  openings = flat_nothing openings_in history event opening ∙ so_far.openings ∙ ap (begun_in given) (sym (turns_same history event turns));
}

octets_begun : (given : Given) (station : ℕ) (octets : List ℕ) (history : List Event) → 0 < turns_begun history → IsBegunSoFar given history
    → IsBegunSoFar given (after_octets given station octets history)
octets_begun given station [] history some so_far = so_far
octets_begun given station (octet ∷ octets) history some so_far =
    octets_begun given station octets (after_call given station (HostOctet octet) history)
    (subst (λ n. 0 < n) (sym (called_turns given (turns_begun history) station (HostOctet octet) history refl)) some)
    (call_begun given station (HostOctet octet) history some so_far)

feed_begun : (given : Given) (station : ℕ) (octets : List ℕ) (history : List Event) → 0 < turns_begun history → IsBegunSoFar given history
    → IsBegunSoFar given (after_feed given station octets history)
feed_begun given station [] history some so_far = so_far
feed_begun given station (octet ∷ octets) history some so_far =
    octets_begun given station (octet ∷ octets) (history ++ HostFed station (octet ∷ octets) ∷ [])
    (subst (λ n. 0 < n) (sym (turns_same history (HostFed station (octet ∷ octets)) refl)) some)
    (event_begun given history (HostFed station (octet ∷ octets)) refl refl some so_far)

pub some_before : (begun slot : ℕ) → begun ≡ slot + 1 → 0 < begun
some_before begun slot is = omega (arith, is)

turn_begun : (given : Given) (slot : ℕ) (plan : Plan) (history : List Event) → turns_begun history ≡ slot → slice_get given.plans slot ≡ Some plan
    → IsBegunSoFar given history → IsBegunSoFar given (history ++ TurnBegan slot (map plan.radio_of given.stations) ∷ [])
turn_begun given slot plan history begun at so_far =
    let event = TurnBegan slot (map plan.radio_of given.stations) in record {
      each = each_event IsInTurn history event so_far.each (sym begun);
      openings = flat_event openings_in history event
          ∙ ap (λ xs. xs ++ record { slot = slot; radios = map plan.radio_of given.stations } ∷ []) (so_far.openings ∙ ap (begun_in given) begun)
          ∙ sym (begun_more given slot plan at)
          ∙ ap (λ n. begun_in given (n + 1)) (sym begun)
          ∙ ap (begun_in given) (sym (turns_more history event));
    }

begun_kept : (given : Given) → IsKept given (λ place history. IsBegunSoFar given history)
begun_kept given = record {
  on_turn = λ slot plan history begun at so_far. turn_begun given slot plan history begun at so_far;
  on_feed = λ plan done left station history are some now so_far. feed_begun given station (take (plan.feed_of station) (octets_left given station history)) history some so_far;
  on_fed = λ history so_far. so_far;
  on_begin = λ slot plan done left station history are due so_far.
      call_begun given station (TurnBegins slot (plan.radio_of station)) history (some_before (turns_begun history) slot due.slot_is) so_far;
  on_begun = λ history so_far. so_far;
  on_phase = λ phases history few so_far. so_far;
  on_silence = λ phases done left station history are none so_far. so_far;
  on_packet = λ phases plan done left station channel octets history are some due so_far.
      event_begun given history (Transmitted station channel octets (hearings_of given plan.fates station channel octets history)) refl refl some so_far;
  on_air = λ phases history so_far. so_far;
  on_hearing = λ phases done left station history are some so_far. call_begun given station (step_of (packet_received station history)) history some so_far;
  on_heard = λ phases history so_far. so_far;
  on_phases = λ history so_far. so_far;
  on_end = λ done left station history are some so_far. call_begun given station TurnEnds history some so_far;
  on_ended = λ history so_far. so_far;
}

abbrev Begun : Given → Place → List Event → Type 0
Begun given place history = IsBegunSoFar given history

first_begun : (given : Given) → IsBegunSoFar given []
unfolding turns_begun
first_begun given = record { each = tt; openings = refl }

pub run_begun : (given : Given) → IsBegunSoFar given (history_of (run_of given))
run_begun given =
    ends_with (run_of given) (IsWhole given (Begun given)) (IsStopped given (Begun given)) (IsBegunSoFar given)
    (run_kept given (Begun given) (begun_kept given) (first_begun given)) (λ history whole. whole.is) (λ history stop stopped. stopped.kept)

pub whole_turns : (given : Given) (history : List Event) → run_of given ≡ GoesOn history → turns_begun history ≡ length given.plans
whole_turns given history is =
    (ends_whole (run_of given) (IsWhole given (Begun given)) (IsStopped given (Begun given)) history (run_kept given (Begun given) (begun_kept given) (first_begun given)) is).begun

pub stopped_turns : (given : Given) (history : List Event) (stop : Stop) → run_of given ≡ Stops history stop → turns_begun history ≡ stop.slot + 1
stopped_turns given history stop is =
    (ends_stopped (run_of given) (IsWhole given (Begun given)) (IsStopped given (Begun given)) history stop (run_kept given (Begun given) (begun_kept given) (first_begun given)) is).slot_is
