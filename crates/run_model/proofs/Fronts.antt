-- What happened up to a place of a run is a front of all that happens in it.
use Rattle.std.proofs.Common.{◌≡◌, ℕ, zero, suc, ◌+◌, ◌-◌, ◌<◌, Bool, List, [], ◌∷◌, ◌++◌, length, refl, sym, ap, ◌∙◌, append-nil, append_assoc, arith}
use Rattle.std.specs.Prelude.{map, take, Option, Some, None, slice_get}
use Rattle.std.proofs.lemmas.List.{length_push}
use Rattle.radio_replay.specs.declared.fates.Fate.{Fate}
use Rattle.controller_model.specs.Step.{Step, HostOctet, TurnBegins, TurnEnds}
use Rattle.controller_model.specs.Facts.{Use, Sends, Listens, Idle}
use Rattle.run_model.specs.Due.{packet_in, plan_at}
use Rattle.run_model.specs.History.{Event, TurnBegan, HostFed, Hearing, Transmitted, packet_received, turns_begun}
use Rattle.run_model.specs.Run.{Given, Plan, Run, GoesOn, Stops, after_begins, after_call, after_ends, after_feed, after_feeds, after_listening, after_listenings, after_octets, after_opening, after_packet, after_packets, after_phase, after_phases, after_turn, and_then, hearings_of, history_of, octets_left, packet_outcome, packet_with, run_from, run_of, step_of, unseen_in, use_at}
use Rattle.run_model.proofs.Calls.{turns_more, turns_same}
use Rattle.run_model.proofs.Walk.{AfterPhases, AtBegins, AtEnds, AtFeeds, AtListening, AtPackets, IsKept, NoTurn, Place, called_turns, feed_turns, plan_after}

-- ---- a history with more events

pub record More (history later : List Event) : Type 0 where
  pub rest : List Event
  pub is : later ≡ history ++ rest

abbrev Grows : List Event → Run → Type 0
Grows history run = More history (history_of run)

no_more : (history : List Event) → More history history
no_more history = record { rest = []; is = sym (append-nil history) }

more_then : (first second third : List Event) → More first second → More second third → More first third
more_then first second third more next = record {
  rest = more.rest ++ next.rest;
  is = next.is ∙ ap (λ xs. xs ++ next.rest) more.is ∙ append_assoc first more.rest next.rest;
}

grows_then : (history : List Event) (run : Run) (next : List Event → Run) → Grows history run → ((later : List Event) → Grows later (next later)) → Grows history (and_then run next)
grows_then history (GoesOn later) next grows more = more_then history later (history_of (next later)) grows (more later)
grows_then history (Stops later stop) next grows more = grows

event_more : (history : List Event) (event : Event) → More history (history ++ event ∷ [])
event_more history event = record { rest = event ∷ []; is = refl }

call_more : (given : Given) (station : ℕ) (step : Step) (history : List Event) → More history (after_call given station step history)
call_more given station step history = record { rest = _; is = refl }

octets_more : (given : Given) (station : ℕ) (octets : List ℕ) (history : List Event) → More history (after_octets given station octets history)
octets_more given station [] history = no_more history
octets_more given station (octet ∷ octets) history =
    let next = after_call given station (HostOctet octet) history in
    more_then history next _ (call_more given station (HostOctet octet) history) (octets_more given station octets next)

pub feed_more : (given : Given) (station : ℕ) (octets : List ℕ) (history : List Event) → More history (after_feed given station octets history)
feed_more given station [] history = no_more history
feed_more given station (octet ∷ octets) history =
    let next = history ++ HostFed station (octet ∷ octets) ∷ [] in
    more_then history next _ (event_more history (HostFed station (octet ∷ octets))) (octets_more given station (octet ∷ octets) next)

feeds_more : (given : Given) (plan : Plan) (stations : List ℕ) (history : List Event) → More history (after_feeds given plan stations history)
feeds_more given plan [] history = no_more history
feeds_more given plan (station ∷ stations) history =
    let octets = take (plan.feed_of station) (octets_left given station history) in
    more_then history (after_feed given station octets history) _ (feed_more given station octets history) (feeds_more given plan stations _)

begins_more : (given : Given) (slot : ℕ) (plan : Plan) (stations : List ℕ) (history : List Event) → More history (after_begins given slot plan stations history)
begins_more given slot plan [] history = no_more history
begins_more given slot plan (station ∷ stations) history =
    let step = TurnBegins slot (plan.radio_of station) in
    more_then history (after_call given station step history) _ (call_more given station step history) (begins_more given slot plan stations _)

listenings_more : (given : Given) (stations : List ℕ) (history : List Event) → More history (after_listenings given stations history)
listenings_more given [] history = no_more history
listenings_more given (station ∷ stations) history =
    let step = step_of (packet_received station history) in
    more_then history (after_call given station step history) _ (call_more given station step history) (listenings_more given stations _)

ends_more : (given : Given) (stations : List ℕ) (history : List Event) → More history (after_ends given stations history)
ends_more given [] history = no_more history
ends_more given (station ∷ stations) history =
    more_then history (after_call given station TurnEnds history) _ (call_more given station TurnEnds history) (ends_more given stations _)

outcome_grows : (unseen : Option (List ℕ)) (station channel : ℕ) (octets : List ℕ) (hearings : List Hearing) (history : List Event)
    → Grows history (packet_outcome unseen station channel octets hearings history)
outcome_grows None station channel octets hearings history = event_more history (Transmitted station channel octets hearings)
outcome_grows (Some heard) station channel octets hearings history = no_more history

packet_grows : (wanted : Use) (given : Given) (fates : List Fate) (station : ℕ) (history : List Event) → Grows history (packet_with wanted given fates station history)
packet_grows (Sends channel octets) given fates station history =
    let hearings = hearings_of given fates station channel octets history in
    outcome_grows (unseen_in octets hearings) station channel octets hearings history
packet_grows (Listens channel) given fates station history = no_more history
packet_grows Idle given fates station history = no_more history

packets_grow : (given : Given) (fates : List Fate) (stations : List ℕ) (history : List Event) → Grows history (after_packets given fates stations history)
packets_grow given fates [] history = no_more history
packets_grow given fates (station ∷ stations) history =
    grows_then history (after_packet given fates station history) (after_packets given fates stations) (packet_grows (use_at given station history) given fates station history)
    (packets_grow given fates stations)

phase_grows : (given : Given) (fates : List Fate) (history : List Event) → Grows history (after_phase given fates history)
unfolding after_phase
phase_grows given fates history =
    grows_then history (after_packets given fates given.stations history) (λ then_on. GoesOn (after_listenings given given.stations then_on))
    (packets_grow given fates given.stations history) (listenings_more given given.stations)

phases_grow : (given : Given) (fates : List Fate) (history : List Event) → Grows history (after_phases given fates history)
unfolding after_phases
phases_grow given fates history =
    grows_then history (after_phase given fates history) (λ second. and_then (after_phase given fates second) (after_phase given fates)) (phase_grows given fates history)
    (λ second. grows_then second (after_phase given fates second) (after_phase given fates) (phase_grows given fates second) (phase_grows given fates))

turn_grows : (given : Given) (slot : ℕ) (plan : Plan) (history : List Event) → Grows history (after_turn given slot plan history)
unfolding after_turn after_opening
turn_grows given slot plan history =
    let begun = history ++ TurnBegan slot (map plan.radio_of given.stations) ∷ [] in
    let fed = after_feeds given plan given.stations begun in
    let opened = after_begins given slot plan given.stations fed in
    grows_then history (after_phases given plan.fates opened) (λ ending. GoesOn (after_ends given given.stations ending))
    (more_then history opened _
    (more_then history fed opened (more_then history begun fed (event_more history (TurnBegan slot (map plan.radio_of given.stations))) (feeds_more given plan given.stations begun))
    (begins_more given slot plan given.stations fed))
    (phases_grow given plan.fates opened))
    (ends_more given given.stations)

run_grows : (given : Given) (plans : List Plan) (slot : ℕ) (history : List Event) → Grows history (run_from given slot plans history)
run_grows given [] slot history = no_more history
run_grows given (plan ∷ plans) slot history =
    grows_then history (after_turn given slot plan history) (run_from given (slot + 1) plans) (turn_grows given slot plan history) (run_grows given plans (slot + 1))

-- ---- what is left of a turn

-- the phases after this number of them
abbrev phases_from : Given → List Fate → ℕ → List Event → Run
phases_from given fates zero history = after_phases given fates history
phases_from given fates (suc zero) history = and_then (after_phase given fates history) (after_phase given fates)
phases_from given fates (suc (suc zero)) history = after_phase given fates history
phases_from given fates (suc (suc (suc more))) history = GoesOn history

abbrev packets_from : Given → List Fate → ℕ → List ℕ → List Event → Run
packets_from given fates phases left history =
    and_then (and_then (after_packets given fates left history) (λ then_on. GoesOn (after_listenings given given.stations then_on))) (phases_from given fates (suc phases))

abbrev ending : Given → Run → Run
ending given run = and_then run (λ ending. GoesOn (after_ends given given.stations ending))

abbrev turn_from : Given → ℕ → Plan → Place → List Event → Run
turn_from given slot plan NoTurn history = GoesOn history
turn_from given slot plan (AtFeeds done left) history =
    ending given (after_phases given plan.fates (after_begins given slot plan given.stations (after_feeds given plan left history)))
turn_from given slot plan (AtBegins done left) history = ending given (after_phases given plan.fates (after_begins given slot plan left history))
turn_from given slot plan (AfterPhases phases) history = ending given (phases_from given plan.fates phases history)
turn_from given slot plan (AtPackets phases done left) history = ending given (packets_from given plan.fates phases left history)
turn_from given slot plan (AtListening phases done left) history = ending given (phases_from given plan.fates (suc phases) (after_listenings given left history))
turn_from given slot plan (AtEnds done left) history = GoesOn (after_ends given left history)

phases_from_grow : (given : Given) (fates : List Fate) (phases : ℕ) (history : List Event) → Grows history (phases_from given fates phases history)
phases_from_grow given fates zero history = phases_grow given fates history
phases_from_grow given fates (suc zero) history =
    grows_then history (after_phase given fates history) (after_phase given fates) (phase_grows given fates history) (phase_grows given fates)
phases_from_grow given fates (suc (suc zero)) history = phase_grows given fates history
phases_from_grow given fates (suc (suc (suc more))) history = no_more history

ending_grows : (given : Given) (history : List Event) (run : Run) → Grows history run → Grows history (ending given run)
ending_grows given history run grows = grows_then history run (λ ending. GoesOn (after_ends given given.stations ending)) grows (ends_more given given.stations)

turn_from_grows : (given : Given) (slot : ℕ) (plan : Plan) (place : Place) (history : List Event) → Grows history (turn_from given slot plan place history)
turn_from_grows given slot plan NoTurn history = no_more history
turn_from_grows given slot plan (AtFeeds done left) history =
    let fed = after_feeds given plan left history in
    let opened = after_begins given slot plan given.stations fed in
    ending_grows given history (after_phases given plan.fates opened)
    (more_then history opened _ (more_then history fed opened (feeds_more given plan left history) (begins_more given slot plan given.stations fed)) (phases_grow given plan.fates opened))
turn_from_grows given slot plan (AtBegins done left) history =
    let opened = after_begins given slot plan left history in
    ending_grows given history (after_phases given plan.fates opened) (more_then history opened _ (begins_more given slot plan left history) (phases_grow given plan.fates opened))
turn_from_grows given slot plan (AfterPhases phases) history = ending_grows given history (phases_from given plan.fates phases history) (phases_from_grow given plan.fates phases history)
turn_from_grows given slot plan (AtPackets phases done left) history =
    let packets = after_packets given plan.fates left history in
    ending_grows given history (packets_from given plan.fates phases left history)
    (grows_then history (and_then packets (λ then_on. GoesOn (after_listenings given given.stations then_on))) (phases_from given plan.fates (suc phases))
    (grows_then history packets (λ then_on. GoesOn (after_listenings given given.stations then_on)) (packets_grow given plan.fates left history) (listenings_more given given.stations))
    (phases_from_grow given plan.fates (suc phases)))
turn_from_grows given slot plan (AtListening phases done left) history =
    let heard = after_listenings given left history in
    ending_grows given history (phases_from given plan.fates (suc phases) heard)
    (more_then history heard _ (listenings_more given left history) (phases_from_grow given plan.fates (suc phases) heard))
turn_from_grows given slot plan (AtEnds done left) history = ends_more given left history

-- ---- at each place

-- the run goes on from here between two turns
pub record IsBetween (given : Given) (history : List Event) : Type 0 where
  before : List Plan
  plans : List Plan
  all : given.plans ≡ before ++ plans
  begun : turns_begun history ≡ length before
  goes : run_of given ≡ run_from given (length before) plans history

-- and in a turn
pub record IsWithin (given : Given) (place : Place) (history : List Event) : Type 0 where
  before : List Plan
  plan : Plan
  plans : List Plan
  all : given.plans ≡ before ++ plan ∷ plans
  begun : turns_begun history ≡ length before + 1
  goes : run_of given ≡ and_then (turn_from given (length before) plan place history) (run_from given (length before + 1) plans)

abbrev pub IsFrontAt : Given → Place → List Event → Type 0
IsFrontAt given NoTurn history = IsBetween given history
IsFrontAt given (AtFeeds done left) history = IsWithin given (AtFeeds done left) history
IsFrontAt given (AtBegins done left) history = IsWithin given (AtBegins done left) history
IsFrontAt given (AfterPhases phases) history = IsWithin given (AfterPhases phases) history
IsFrontAt given (AtPackets phases done left) history = IsWithin given (AtPackets phases done left) history
IsFrontAt given (AtListening phases done left) history = IsWithin given (AtListening phases done left) history
IsFrontAt given (AtEnds done left) history = IsWithin given (AtEnds done left) history

-- what happens in the run begins with this history
pub record IsFront (given : Given) (history : List Event) : Type 0 where
  pub rest : List Event
  pub at : history_of (run_of given) ≡ history ++ rest

within_front : (given : Given) (place : Place) (history : List Event) → IsWithin given place history → IsFront given history
within_front given place history is =
    let slot = length is.before in
    let turn = turn_from given slot is.plan place history in
    let next = run_from given (slot + 1) is.plans in
    let grows = grows_then history turn next (turn_from_grows given slot is.plan place history) (run_grows given is.plans (slot + 1)) in
    record { rest = grows.rest; at = ap history_of is.goes ∙ grows.is }

pub front_at : (given : Given) (place : Place) (history : List Event) → IsFrontAt given place history → IsFront given history
front_at given NoTurn history is =
    let grows = run_grows given is.plans (length is.before) history in record { rest = grows.rest; at = ap history_of is.goes ∙ grows.is }
front_at given (AtFeeds done left) history is = within_front given (AtFeeds done left) history is
front_at given (AtBegins done left) history is = within_front given (AtBegins done left) history is
front_at given (AfterPhases phases) history is = within_front given (AfterPhases phases) history is
front_at given (AtPackets phases done left) history is = within_front given (AtPackets phases done left) history is
front_at given (AtListening phases done left) history is = within_front given (AtListening phases done left) history is
front_at given (AtEnds done left) history is = within_front given (AtEnds done left) history is

-- ---- steps

-- the plan of the turn is the one of the place
one_plan : (given : Given) (place : Place) (history : List Event) (plan : Plan) (is : IsWithin given place history) → plan_at given history ≡ Some plan → is.plan ≡ plan
one_plan given place history plan is now =
    let slot : turns_begun history - 1 ≡ length is.before = let begun = is.begun in omega (arith, begun) in
    let same : Some is.plan ≡ Some plan =
    sym (plan_after is.before is.plans is.plan) ∙ ap (λ xs. slice_get xs (length is.before)) (sym is.all) ∙ ap (slice_get given.plans) (sym slot) ∙ now in cc

-- the same turn, with what is left of it at the next place
within_next : (given : Given) (place next : Place) (history later : List Event) (is : IsWithin given place history)
    → (turns_begun history ≡ length is.before + 1 → turns_begun later ≡ length is.before + 1)
    → turn_from given (length is.before) is.plan place history ≡ turn_from given (length is.before) is.plan next later → IsWithin given next later
within_next given place next history later is turns same = record {
  before = is.before;
  plan = is.plan;
  plans = is.plans;
  all = is.all;
  begun = turns is.begun;
  goes = is.goes ∙ ap (λ run. and_then run (run_from given (length is.before + 1) is.plans)) same;
}

no_plan : (before : List Plan) → slice_get (before ++ []) (length before) ≡ None
no_plan [] = refl
no_plan (plan ∷ before) = no_plan before

turn_opens : (given : Given) (slot : ℕ) (plan : Plan) (history : List Event) → turns_begun history ≡ slot → slice_get given.plans slot ≡ Some plan → IsBetween given history
    → IsWithin given (AtFeeds [] given.stations) (history ++ TurnBegan slot (map plan.radio_of given.stations) ∷ [])
unfolding after_turn after_opening
turn_opens given slot plan history begun at is = by is.plans is.all is.goes
  where
    slot_is : length is.before ≡ slot
    slot_is = sym is.begun ∙ begun

    by : (plans : List Plan) → given.plans ≡ is.before ++ plans → run_of given ≡ run_from given (length is.before) plans history
        → IsWithin given (AtFeeds [] given.stations) (history ++ TurnBegan slot (map plan.radio_of given.stations) ∷ [])
    by [] all goes =
        let h : Some plan ≡ None = sym at ∙ ap (slice_get given.plans) (sym slot_is) ∙ ap (λ xs. slice_get xs (length is.before)) all ∙ no_plan is.before in absurd cc
    by (first ∷ plans) all goes =
        let found : Some first ≡ Some plan = sym (plan_after is.before plans first) ∙ ap (λ xs. slice_get xs (length is.before)) (sym all) ∙ ap (slice_get given.plans) slot_is ∙ at in
        let same : first ≡ plan = cc in record {
          before = is.before;
          plan = plan;
          plans = plans;
          all = all ∙ ap (λ p. is.before ++ p ∷ plans) same;
          begun = turns_more history (TurnBegan slot (map plan.radio_of given.stations)) ∙ ap (λ n. n + 1) is.begun;
          goes = goes ∙ ap (λ p. run_from given (length is.before) (p ∷ plans) history) same
              ∙ ap (λ n. and_then (turn_from given (length is.before) plan (AtFeeds [] given.stations) (history ++ TurnBegan n (map plan.radio_of given.stations) ∷ []))
              (run_from given (length is.before + 1) plans)) slot_is;
        }

turn_over : (given : Given) (history : List Event) → IsWithin given (AtEnds given.stations []) history → IsBetween given history
turn_over given history is =
    let many = length_push is.before is.plan in record {
      before = is.before ++ is.plan ∷ [];
      plans = is.plans;
      all = is.all ∙ sym (append_assoc is.before (is.plan ∷ []) is.plans);
      begun = is.begun ∙ sym many;
      goes = is.goes ∙ ap (λ n. run_from given n is.plans history) (sym many);
    }

whole_run : (run : Run) → run ≡ and_then run GoesOn
whole_run (GoesOn history) = refl
whole_run (Stops history stop) = refl

-- a phase is its packets and what is heard of them
next_phase : (given : Given) (fates : List Fate) (phases : ℕ) (history : List Event) → phases < 3
    → phases_from given fates phases history ≡ packets_from given fates phases given.stations history
unfolding after_phases after_phase
next_phase given fates zero history few = refl
next_phase given fates (suc zero) history few = refl
next_phase given fates (suc (suc zero)) history few = whole_run (after_phase given fates history)
next_phase given fates (suc (suc (suc more))) history few = absurd (omega (arith, few))

silent_with : (wanted : Use) (given : Given) (fates : List Fate) (station : ℕ) (history : List Event) → packet_in wanted ≡ [] → packet_with wanted given fates station history ≡ GoesOn history
silent_with (Sends channel octets) given fates station history none = absurd cc
silent_with (Listens channel) given fates station history none = refl
silent_with Idle given fates station history none = refl

packets_next : (given : Given) (fates : List Fate) (phases station : ℕ) (left : List ℕ) (history later : List Event) → after_packet given fates station history ≡ GoesOn later
    → packets_from given fates phases (station ∷ left) history ≡ packets_from given fates phases left later
packets_next given fates phases station left history later is =
    ap (λ run. and_then (and_then (and_then run (after_packets given fates left)) (λ then_on. GoesOn (after_listenings given given.stations then_on))) (phases_from given fates (suc phases))) is

sent_packet : (given : Given) (plan other : Plan) (station channel : ℕ) (octets : List ℕ) (history : List Event) → plan ≡ other
    → use_at given station history ≡ Sends channel octets → (hearings : List Hearing) → hearings ≡ hearings_of given other.fates station channel octets history
    → unseen_in octets hearings ≡ None → after_packet given plan.fates station history ≡ GoesOn (history ++ Transmitted station channel octets hearings ∷ [])
sent_packet given plan other station channel octets history same wanted hearings are seen =
    ap (λ (p : Plan). after_packet given p.fates station history) same
    ∙ ap (λ want. packet_with want given other.fates station history) wanted
    ∙ ap (λ xs. packet_outcome (unseen_in octets xs) station channel octets xs history) (sym are)
    ∙ ap (λ may. packet_outcome may station channel octets hearings history) seen

begins_step : (given : Given) (place : Place) (history : List Event) (is : IsWithin given place history) (slot station : ℕ) (on : Bool) (plan : Plan) → turns_begun history ≡ slot + 1
    → on ≡ plan.radio_of station → is.plan ≡ plan → TurnBegins (length is.before) (is.plan.radio_of station) ≡ TurnBegins slot on
begins_step given place history is slot station on plan begun radio same =
    let own = is.begun in
    let slots : length is.before ≡ slot = omega (arith, own, begun) in
    ap (λ n. TurnBegins n (is.plan.radio_of station)) slots ∙ ap (λ (p : Plan). TurnBegins slot (p.radio_of station)) same ∙ ap (TurnBegins slot) (sym radio)

pub fronts_kept : (given : Given) → IsKept given (IsFrontAt given)
fronts_kept given = record {
  on_turn = λ slot plan history begun at is. turn_opens given slot plan history begun at is;
  on_feed = λ plan done left station history are some now is.
      let same = one_plan given (AtFeeds done (station ∷ left)) history plan is now in
      let octets = take (plan.feed_of station) (octets_left given station history) in
      within_next given (AtFeeds done (station ∷ left)) (AtFeeds (done ++ station ∷ []) left) history (after_feed given station octets history) is
      (feed_turns given (length is.before + 1) station octets history)
      (ap (λ (p : Plan). ending given (after_phases given is.plan.fates (after_begins given (length is.before) is.plan given.stations
      (after_feeds given is.plan left (after_feed given station (take (p.feed_of station) (octets_left given station history)) history))))) same);
  on_fed = λ history is. within_next given (AtFeeds given.stations []) (AtBegins [] given.stations) history history is (λ begun. begun) refl;
  on_begin = λ slot plan done left station history are due is.
      let step = begins_step given (AtBegins done (station ∷ left)) history is slot station (plan.radio_of station) due.plan due.slot_is due.radio_is
      (one_plan given (AtBegins done (station ∷ left)) history due.plan is due.is_now) in
      within_next given (AtBegins done (station ∷ left)) (AtBegins (done ++ station ∷ []) left) history (after_call given station (TurnBegins slot (plan.radio_of station)) history) is
      (called_turns given (length is.before + 1) station (TurnBegins slot (plan.radio_of station)) history)
      (ap (λ s. ending given (after_phases given is.plan.fates (after_begins given (length is.before) is.plan left (after_call given station s history)))) step);
  on_begun = λ history is. within_next given (AtBegins given.stations []) (AfterPhases 0) history history is (λ begun. begun) refl;
  on_phase = λ phases history few is.
      within_next given (AfterPhases phases) (AtPackets phases [] given.stations) history history is (λ begun. begun) (ap (ending given) (next_phase given is.plan.fates phases history few));
  on_silence = λ phases done left station history are none is.
      within_next given (AtPackets phases done (station ∷ left)) (AtPackets phases (done ++ station ∷ []) left) history history is (λ begun. begun)
      (ap (ending given) (packets_next given is.plan.fates phases station left history history (silent_with (use_at given station history) given is.plan.fates station history none)));
  on_packet = λ phases plan done left station channel octets history are some due is.
      let hearings = hearings_of given plan.fates station channel octets history in
      let event = Transmitted station channel octets hearings in
      let same = one_plan given (AtPackets phases done (station ∷ left)) history due.plan is due.is_now in
      within_next given (AtPackets phases done (station ∷ left)) (AtPackets phases (done ++ station ∷ []) left) history (history ++ event ∷ []) is
      (λ begun. turns_same history event refl ∙ begun)
      (ap (ending given) (packets_next given is.plan.fates phases station left history (history ++ event ∷ [])
      (sent_packet given is.plan due.plan station channel octets history same due.is_wanted hearings due.hearings_are due.is_seen)));
  on_air = λ phases history is. within_next given (AtPackets phases given.stations []) (AtListening phases [] given.stations) history history is (λ begun. begun) refl;
  on_hearing = λ phases done left station history are some is.
      within_next given (AtListening phases done (station ∷ left)) (AtListening phases (done ++ station ∷ []) left) history (after_listening given station history) is
      (called_turns given (length is.before + 1) station (step_of (packet_received station history)) history) refl;
  on_heard = λ phases history is. within_next given (AtListening phases given.stations []) (AfterPhases (suc phases)) history history is (λ begun. begun) refl;
  on_phases = λ history is. within_next given (AfterPhases 3) (AtEnds [] given.stations) history history is (λ begun. begun) refl;
  on_end = λ done left station history are some is.
      within_next given (AtEnds done (station ∷ left)) (AtEnds (done ++ station ∷ []) left) history (after_call given station TurnEnds history) is
      (called_turns given (length is.before + 1) station TurnEnds history) refl;
  on_ended = λ history is. turn_over given history is;
}

pub front_first : (given : Given) → IsFrontAt given NoTurn []
unfolding run_of turns_begun
front_first given = record { before = []; plans = given.plans; all = refl; begun = refl; goes = refl }
