-- Each controller begins each turn, has three phases in it, and ends it.
use Rattle.std.proofs.Common.{◌≡◌, ℕ, zero, suc, ◌<◌, ◌==◌, Bool, true, false, List, [], ◌∷◌, ◌++◌, replicate, refl, sym, ap, ◌∙◌, append-nil, arith}
use Rattle.std.specs.Prelude.{map, take, Option, Some, None, if◌then◌else◌}
use Rattle.std.proofs.lemmas.Bool.{eqb-true}
use Rattle.ble_base.specs.declared.notes.Note.{Note}
use Rattle.controller_model.specs.Step.{Step, HostOctet, TurnBegins, TurnEnds}
use Rattle.controller_model.specs.Side.{notes_after}
use Rattle.run_model.specs.History.{Event, TurnBegan, HostFed, Called, Noted, Transmitted, turns_begun, packet_received}
use Rattle.run_model.specs.Run.{Given, GoesOn, setup_at, facts_at, octets_left, after_call, after_octets, after_feed, hearings_of, step_of, run_of, history_of}
use Rattle.run_model.specs.Due.{Each}
use Rattle.run_model.specs.Feeding.{AreDistinct}
use Rattle.run_model.specs.Turns.{Call, BeginsTurn, EndsPhase, call_in, calls_after, calls_in_turn, calls_of_a_turn}
use Rattle.run_model.proofs.Calls.{with_notes, fold_called, fold_event}
use Rattle.run_model.proofs.Places.{each_event, each_called}
use Rattle.run_model.proofs.Openings.{some_before}
use Rattle.run_model.proofs.Stations.{is_in, in_more_same, in_more_other, not_before}
use Rattle.run_model.proofs.Walk.{Place, NoTurn, AtFeeds, AtBegins, AfterPhases, AtPackets, AtListening, AtEnds, IsKept, IsWhole, IsStopped, ends_with, ends_whole, run_kept}

-- ---- calls

calls_called : (other station : ℕ) (step : Step) (notes : List Note) (history : List Event)
    → calls_in_turn other (with_notes station step notes history) ≡ calls_in_turn other history ++ (if other == station then call_in step else [])
unfolding calls_in_turn
calls_called other station step notes history = fold_called (calls_after other) [] station step notes history (λ before note. refl)

calls_by : (other station : ℕ) (step : Step) (notes : List Note) (history : List Event) (same : Bool) → (other == station) ≡ same
    → calls_in_turn other (with_notes station step notes history) ≡ calls_in_turn other history ++ (if same then call_in step else [])
calls_by other station step notes history same is =
    calls_called other station step notes history ∙ ap (λ b. calls_in_turn other history ++ (if b then call_in step else [])) is

calls_event : (other : ℕ) (history : List Event) (event : Event) → calls_in_turn other (history ++ event ∷ []) ≡ calls_after other (calls_in_turn other history) event
unfolding calls_in_turn
calls_event other history event = fold_event (calls_after other) [] history event

either_none : (same : Bool) → (if same then call_in (HostOctet 0) else []) ≡ []
either_none true = refl
either_none false = refl

octet_calls : (other station octet : ℕ) (notes : List Note) (history : List Event)
    → calls_in_turn other (with_notes station (HostOctet octet) notes history) ≡ calls_in_turn other history
octet_calls other station octet notes history =
    calls_called other station (HostOctet octet) notes history
    ∙ ap (λ xs. calls_in_turn other history ++ xs) (either_none (other == station)) ∙ append-nil (calls_in_turn other history)

octets_calls : (given : Given) (other station : ℕ) (octets : List ℕ) (history : List Event)
    → calls_in_turn other (after_octets given station octets history) ≡ calls_in_turn other history
octets_calls given other station [] history = refl
octets_calls given other station (octet ∷ octets) history =
    octets_calls given other station octets (after_call given station (HostOctet octet) history)
    ∙ octet_calls other station octet (notes_after (setup_at given station) (facts_at given station history) (HostOctet octet)) history

feed_calls : (given : Given) (other station : ℕ) (octets : List ℕ) (history : List Event)
    → calls_in_turn other (after_feed given station octets history) ≡ calls_in_turn other history
feed_calls given other station [] history = refl
feed_calls given other station (octet ∷ octets) history =
    octets_calls given other station (octet ∷ octets) (history ++ HostFed station (octet ∷ octets) ∷ [])
    ∙ calls_event other history (HostFed station (octet ∷ octets))

-- ---- what each step keeps

abbrev phases_over : ℕ → List Call
phases_over phases = BeginsTurn ∷ replicate phases EndsPhase

abbrev calls_at : Place → ℕ → List Call
calls_at NoTurn station = calls_of_a_turn
calls_at (AtFeeds done left) station = []
calls_at (AtBegins done left) station = if is_in station done then phases_over 0 else []
calls_at (AfterPhases phases) station = phases_over phases
calls_at (AtPackets phases done left) station = phases_over phases
calls_at (AtListening phases done left) station = if is_in station done then phases_over (suc phases) else phases_over phases
calls_at (AtEnds done left) station = if is_in station done then calls_of_a_turn else phases_over 3

abbrev pub CalledBefore : Given → List Event → Event → Type 0
CalledBefore given before (TurnBegan slot radios) =
    (station : ℕ) → is_in station given.stations ≡ true → 0 < turns_begun before → calls_in_turn station before ≡ calls_of_a_turn
CalledBefore given before (HostFed station octets) = Unit {0}
CalledBefore given before (Called station step) = Unit {0}
CalledBefore given before (Noted station note) = Unit {0}
CalledBefore given before (Transmitted station channel octets hearings) = Unit {0}

pub record IsCalledSoFar (given : Given) (place : Place) (history : List Event) : Type 0 where
  pub each : Each (CalledBefore given) [] history
  pub called : (station : ℕ) → is_in station given.stations ≡ true → 0 < turns_begun history → calls_in_turn station history ≡ calls_at place station

-- a round of calls of one kind
round_by : (given : Given) (done : List ℕ) (station : ℕ) (step : Step) (history : List Event) (before after : List Call) → is_in station done ≡ false
    → before ++ call_in step ≡ after → (other : ℕ) → calls_in_turn other history ≡ (if is_in other done then after else before)
    → (same : Bool) → (other == station) ≡ same
    → calls_in_turn other (after_call given station step history) ≡ (if is_in other (done ++ station ∷ []) then after else before)
round_by given done station step history before after first more other so_far true is =
    let same = eqb-true other station is in
    let notes = notes_after (setup_at given station) (facts_at given station history) step in
    let early : calls_in_turn other history ≡ before = so_far ∙ ap (λ b. if b then after else before) (ap (λ s. is_in s done) same ∙ first) in
    calls_by other station step notes history true is
    ∙ ap (λ xs. xs ++ call_in step) early ∙ more
    ∙ ap (λ b. if b then after else before) (sym (in_more_same other station done is))
round_by given done station step history before after first more other so_far false is =
    let notes = notes_after (setup_at given station) (facts_at given station history) step in
    calls_by other station step notes history false is ∙ append-nil (calls_in_turn other history) ∙ so_far
    ∙ ap (λ b. if b then after else before) (sym (in_more_other other station done is))

each_call : (given : Given) (station : ℕ) (step : Step) (history : List Event) → Each (CalledBefore given) [] history
    → Each (CalledBefore given) [] (after_call given station step history)
each_call given station step history each =
    each_called (CalledBefore given) station step (notes_after (setup_at given station) (facts_at given station history) step) history each tt (λ before note. tt)

octets_each : (given : Given) (station : ℕ) (octets : List ℕ) (history : List Event) → Each (CalledBefore given) [] history
    → Each (CalledBefore given) [] (after_octets given station octets history)
octets_each given station [] history each = each
octets_each given station (octet ∷ octets) history each =
    octets_each given station octets (after_call given station (HostOctet octet) history) (each_call given station (HostOctet octet) history each)

feed_each : (given : Given) (station : ℕ) (octets : List ℕ) (history : List Event) → Each (CalledBefore given) [] history
    → Each (CalledBefore given) [] (after_feed given station octets history)
feed_each given station [] history each = each
feed_each given station (octet ∷ octets) history each =
    octets_each given station (octet ∷ octets) _ (each_event (CalledBefore given) history (HostFed station (octet ∷ octets)) each tt)

one_phase : (phases : ℕ) → replicate phases EndsPhase ++ EndsPhase ∷ [] ≡ EndsPhase ∷ replicate phases EndsPhase
one_phase zero = refl
one_phase (suc phases) = ap (λ xs. EndsPhase ∷ xs) (one_phase phases)

phase_more : (phases : ℕ) (received : Option (List ℕ)) → phases_over phases ++ call_in (step_of received) ≡ phases_over (suc phases)
phase_more phases None = ap (λ xs. BeginsTurn ∷ xs) (one_phase phases)
phase_more phases (Some octets) = ap (λ xs. BeginsTurn ∷ xs) (one_phase phases)

-- ---- the run

called_kept : (given : Given) → AreDistinct given.stations → IsKept given (IsCalledSoFar given)
called_kept given distinct = record {
  on_turn = λ slot plan history begun at so_far. record {
    each = each_event (CalledBefore given) history (TurnBegan slot (map plan.radio_of given.stations)) so_far.each so_far.called;
    called = λ station is turns. calls_event station history (TurnBegan slot (map plan.radio_of given.stations));
  };
  on_feed = λ plan done left station history are some now so_far.
      let octets = take (plan.feed_of station) (octets_left given station history) in record {
        each = feed_each given station octets history so_far.each;
        called = λ other is turns. feed_calls given other station octets history ∙ so_far.called other is some;
      };
  on_fed = λ history so_far. record { each = so_far.each; called = so_far.called };
  on_begin = λ slot plan done left station history are due so_far. record {
    each = each_call given station (TurnBegins slot (plan.radio_of station)) history so_far.each;
    called = λ other is turns. round_by given done station (TurnBegins slot (plan.radio_of station)) history [] (phases_over 0)
        (not_before given.stations done left station distinct are) refl other
        (so_far.called other is (some_before (turns_begun history) slot due.slot_is)) (other == station) refl;
  };
  on_begun = λ history so_far. record {
    each = so_far.each;
    called = λ station is turns. so_far.called station is turns ∙ ap (λ b. if b then phases_over 0 else []) is;
  };
  on_phase = λ phases history few so_far. record { each = so_far.each; called = so_far.called };
  on_silence = λ phases done left station history are none so_far. record { each = so_far.each; called = so_far.called };
  on_packet = λ phases plan done left station channel octets history are some due so_far.
      let event = Transmitted station channel octets (hearings_of given plan.fates station channel octets history) in record {
        each = each_event (CalledBefore given) history event so_far.each tt;
        called = λ other is turns. calls_event other history event ∙ so_far.called other is some;
      };
  on_air = λ phases history so_far. record { each = so_far.each; called = so_far.called };
  on_hearing = λ phases done left station history are some so_far.
      let step = step_of (packet_received station history) in record {
        each = each_call given station step history so_far.each;
        called = λ other is turns. round_by given done station step history (phases_over phases) (phases_over (suc phases))
            (not_before given.stations done left station distinct are) (phase_more phases (packet_received station history)) other
            (so_far.called other is some) (other == station) refl;
      };
  on_heard = λ phases history so_far. record {
    each = so_far.each;
    called = λ station is turns. so_far.called station is turns ∙ ap (λ b. if b then phases_over (suc phases) else phases_over phases) is;
  };
  on_phases = λ history so_far. record { each = so_far.each; called = so_far.called };
  on_end = λ done left station history are some so_far. record {
    each = each_call given station TurnEnds history so_far.each;
    called = λ other is turns. round_by given done station TurnEnds history (phases_over 3) calls_of_a_turn
        (not_before given.stations done left station distinct are) refl other (so_far.called other is some) (other == station) refl;
  };
  on_ended = λ history so_far. record {
    each = so_far.each;
    called = λ station is turns. so_far.called station is turns ∙ ap (λ b. if b then calls_of_a_turn else phases_over 3) is;
  };
}

no_turn : (station : ℕ) → 0 < turns_begun [] → calls_in_turn station [] ≡ calls_of_a_turn
unfolding turns_begun
no_turn station some = absurd (omega (arith, some))

pub run_called : (given : Given) → AreDistinct given.stations → Each (CalledBefore given) [] (history_of (run_of given))
run_called given distinct =
    ends_with (run_of given) (IsWhole given (IsCalledSoFar given)) (IsStopped given (IsCalledSoFar given)) (Each (CalledBefore given) [])
    (run_kept given (IsCalledSoFar given) (called_kept given distinct) (record { each = tt; called = λ station is some. no_turn station some }))
    (λ history whole. whole.is.each) (λ history stop stopped. stopped.kept.each)

pub whole_called : (given : Given) → AreDistinct given.stations → (history : List Event) → run_of given ≡ GoesOn history
    → (station : ℕ) → is_in station given.stations ≡ true → 0 < turns_begun history → calls_in_turn station history ≡ calls_of_a_turn
whole_called given distinct history is =
    (ends_whole (run_of given) (IsWhole given (IsCalledSoFar given)) (IsStopped given (IsCalledSoFar given)) history
    (run_kept given (IsCalledSoFar given) (called_kept given distinct) (record { each = tt; called = λ station is some. no_turn station some })) is).is.called
