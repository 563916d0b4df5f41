-- What every step of a run keeps holds wherever a run ends.
use Rattle.std.proofs.Common.{◌≡◌, ℕ, suc, ◌+◌, ◌-◌, ◌<◌, Bool, true, false, List, [], ◌∷◌, ◌++◌, length, refl, sym, ap, subst, ◌∙◌, append-nil, append_assoc, arith}
use Rattle.std.specs.Prelude.{map, take, Option, Some, None, slice_get}
use Rattle.std.proofs.lemmas.List.{length_push}
use Rattle.controller_model.specs.Step.{Step, HostOctet, TurnBegins, TurnEnds}
use Rattle.controller_model.specs.Facts.{Use, Sends, Listens, Idle}
use Rattle.controller_model.specs.Side.{notes_after}
use Rattle.run_model.specs.History.{Event, TurnBegan, HostFed, Called, Noted, Transmitted, turns_begun, packets_on_air, packet_received}
use Rattle.run_model.specs.Run.{Given, Plan, Run, GoesOn, Stops, Stop, setup_at, facts_at, use_at, octets_left, and_then, after_call, after_octets, after_feed, after_feeds, after_begins, after_opening, hearings_of, unseen_in, packet_outcome, packet_with, after_packet, after_packets, step_of, after_listening, after_listenings, after_phase, after_phases, after_ends, after_turn, run_from, run_of, history_of}
use Rattle.run_model.specs.Due.{plan_at, packet_in, IsBeginDue, IsPacketDue}
use Rattle.run_model.proofs.Calls.{turns_called, turns_more, turns_same}

-- ---- the ends of a run

abbrev pub Ends : Run → (List Event → Type 0) → (List Event → Stop → Type 0) → Type 0
Ends (GoesOn history) whole stopped = whole history
Ends (Stops history stop) whole stopped = stopped history stop

pub ends_then : (run : Run) (next : List Event → Run) (first whole : List Event → Type 0) (stopped : List Event → Stop → Type 0)
    → Ends run first stopped → ((history : List Event) → first history → Ends (next history) whole stopped) → Ends (and_then run next) whole stopped
ends_then (GoesOn history) next first whole stopped ends after = after history ends
ends_then (Stops history stop) next first whole stopped ends after = ends

pub ends_with : (run : Run) (whole : List Event → Type 0) (stopped : List Event → Stop → Type 0) (either : List Event → Type 0)
    → Ends run whole stopped → ((history : List Event) → whole history → either history) → ((history : List Event) (stop : Stop) → stopped history stop → either history)
    → either (history_of run)
ends_with (GoesOn history) whole stopped either ends on off = on history ends
ends_with (Stops history stop) whole stopped either ends on off = off history stop ends

pub ends_whole : (run : Run) (whole : List Event → Type 0) (stopped : List Event → Stop → Type 0) (history : List Event)
    → Ends run whole stopped → run ≡ GoesOn history → whole history
ends_whole run whole stopped history ends is = subst (λ r. Ends r whole stopped) is ends

pub ends_stopped : (run : Run) (whole : List Event → Type 0) (stopped : List Event → Stop → Type 0) (history : List Event) (stop : Stop)
    → Ends run whole stopped → run ≡ Stops history stop → stopped history stop
ends_stopped run whole stopped history stop ends is = subst (λ r. Ends r whole stopped) is ends

-- ---- steps

-- where a run stands; in a round of all stations, those of which the step is done, and those that are left
pub data Place : Type 0 where
  -- no turn is under way
  NoTurn : Place
  -- the turn feeds the stations
  AtFeeds : (done left : List ℕ) → Place
  -- the controllers begin the turn
  AtBegins : (done left : List ℕ) → Place
  -- this number of phases of the turn are over
  AfterPhases : (phases : ℕ) → Place
  -- in the phase after this number of phases, the stations transmit what they want to
  AtPackets : (phases : ℕ) (done left : List ℕ) → Place
  -- they take what they heard in it
  AtListening : (phases : ℕ) (done left : List ℕ) → Place
  -- the controllers end the turn
  AtEnds : (done left : List ℕ) → Place

-- what each step of a run keeps
pub record IsKept (given : Given) (P : Place → List Event → Type 0) : Type 0 where
  pub on_turn : (slot : ℕ) (plan : Plan) (history : List Event) → turns_begun history ≡ slot → slice_get given.plans slot ≡ Some plan → P NoTurn history
      → P (AtFeeds [] given.stations) (history ++ TurnBegan slot (map plan.radio_of given.stations) ∷ [])
  pub on_feed : (plan : Plan) (done left : List ℕ) (station : ℕ) (history : List Event) → given.stations ≡ done ++ station ∷ left
      → 0 < turns_begun history → plan_at given history ≡ Some plan → P (AtFeeds done (station ∷ left)) history
      → P (AtFeeds (done ++ station ∷ []) left) (after_feed given station (take (plan.feed_of station) (octets_left given station history)) history)
  pub on_fed : (history : List Event) → P (AtFeeds given.stations []) history → P (AtBegins [] given.stations) history
  pub on_begin : (slot : ℕ) (plan : Plan) (done left : List ℕ) (station : ℕ) (history : List Event) → given.stations ≡ done ++ station ∷ left
      → IsBeginDue given history station slot (plan.radio_of station) → P (AtBegins done (station ∷ left)) history
      → P (AtBegins (done ++ station ∷ []) left) (after_call given station (TurnBegins slot (plan.radio_of station)) history)
  pub on_begun : (history : List Event) → P (AtBegins given.stations []) history → P (AfterPhases 0) history
  pub on_phase : (phases : ℕ) (history : List Event) → phases < 3 → P (AfterPhases phases) history → P (AtPackets phases [] given.stations) history
  pub on_silence : (phases : ℕ) (done left : List ℕ) (station : ℕ) (history : List Event) → given.stations ≡ done ++ station ∷ left
      → packet_in (use_at given station history) ≡ [] → P (AtPackets phases done (station ∷ left)) history → P (AtPackets phases (done ++ station ∷ []) left) history
  pub on_packet : (phases : ℕ) (plan : Plan) (done left : List ℕ) (station channel : ℕ) (octets : List ℕ) (history : List Event)
      → given.stations ≡ done ++ station ∷ left → 0 < turns_begun history
      → IsPacketDue given history station channel octets (hearings_of given plan.fates station channel octets history)
      → P (AtPackets phases done (station ∷ left)) history
      → P (AtPackets phases (done ++ station ∷ []) left) (history ++ Transmitted station channel octets (hearings_of given plan.fates station channel octets history) ∷ [])
  pub on_air : (phases : ℕ) (history : List Event) → P (AtPackets phases given.stations []) history → P (AtListening phases [] given.stations) history
  pub on_hearing : (phases : ℕ) (done left : List ℕ) (station : ℕ) (history : List Event) → given.stations ≡ done ++ station ∷ left
      → 0 < turns_begun history → P (AtListening phases done (station ∷ left)) history
      → P (AtListening phases (done ++ station ∷ []) left) (after_listening given station history)
  pub on_heard : (phases : ℕ) (history : List Event) → P (AtListening phases given.stations []) history → P (AfterPhases (suc phases)) history
  pub on_phases : (history : List Event) → P (AfterPhases 3) history → P (AtEnds [] given.stations) history
  pub on_end : (done left : List ℕ) (station : ℕ) (history : List Event) → given.stations ≡ done ++ station ∷ left
      → 0 < turns_begun history → P (AtEnds done (station ∷ left)) history → P (AtEnds (done ++ station ∷ []) left) (after_call given station TurnEnds history)
  pub on_ended : (history : List Event) → P (AtEnds given.stations []) history → P NoTurn history

-- what holds where damage stops a run
pub record IsStopped (given : Given) (P : Place → List Event → Type 0) (history : List Event) (stop : Stop) : Type 0 where
  pub plan : Plan
  pub is_now : plan_at given history ≡ Some plan
  pub slot_is : turns_begun history ≡ stop.slot + 1
  pub phases : ℕ
  pub done : List ℕ
  pub left : List ℕ
  pub stations_are : given.stations ≡ done ++ stop.sender ∷ left
  pub kept : P (AtPackets phases done (stop.sender ∷ left)) history
  pub place_is : stop.place ≡ packets_on_air history + 1
  pub is_wanted : use_at given stop.sender history ≡ Sends stop.channel stop.sent
  pub is_heard : unseen_in stop.sent (hearings_of given plan.fates stop.sender stop.channel stop.sent history) ≡ Some stop.heard

-- at a place of the turn in this slot
record Stands (P : Place → List Event → Type 0) (slot : ℕ) (place : Place) (history : List Event) : Type 0 where
  pub begun : turns_begun history ≡ slot + 1
  pub is : P place history

last_turn : (slot begun : ℕ) → begun ≡ slot + 1 → begun - 1 ≡ slot
last_turn slot begun is = omega (arith, is)

some_turn : (slot begun : ℕ) → begun ≡ slot + 1 → 0 < begun
some_turn slot begun is = omega (arith, is)

-- the turn that began last is this one
now : (given : Given) (slot : ℕ) (plan : Plan) (history : List Event) → slice_get given.plans slot ≡ Some plan → turns_begun history ≡ slot + 1 → plan_at given history ≡ Some plan
now given slot plan history at begun = ap (slice_get given.plans) (last_turn slot (turns_begun history) begun) ∙ at

pub called_turns : (given : Given) (count station : ℕ) (step : Step) (history : List Event) → turns_begun history ≡ count
    → turns_begun (after_call given station step history) ≡ count
called_turns given count station step history begun = turns_called station step (notes_after (setup_at given station) (facts_at given station history) step) history ∙ begun

-- the next station of a round
one_on : (given : Given) (done left : List ℕ) (station : ℕ) → given.stations ≡ done ++ station ∷ left → given.stations ≡ (done ++ station ∷ []) ++ left
one_on given done left station are = are ∙ sym (append_assoc done (station ∷ []) left)

all_done : (given : Given) (done : List ℕ) → given.stations ≡ done ++ [] → done ≡ given.stations
all_done given done are = sym (are ∙ append-nil done)

-- ---- a turn opens

pub octets_turns : (given : Given) (count station : ℕ) (octets : List ℕ) (history : List Event) → turns_begun history ≡ count
    → turns_begun (after_octets given station octets history) ≡ count
octets_turns given count station [] history begun = begun
octets_turns given count station (octet ∷ octets) history begun =
    octets_turns given count station octets _ (called_turns given count station _ history begun)

pub feed_turns : (given : Given) (count station : ℕ) (octets : List ℕ) (history : List Event) → turns_begun history ≡ count
    → turns_begun (after_feed given station octets history) ≡ count
feed_turns given count station [] history begun = begun
feed_turns given count station (octet ∷ octets) history begun =
    octets_turns given count station (octet ∷ octets) _ (turns_same history _ refl ∙ begun)

feeds_kept : (given : Given) (P : Place → List Event → Type 0) → IsKept given P → (slot : ℕ) (plan : Plan) → slice_get given.plans slot ≡ Some plan
    → (left done : List ℕ) (history : List Event) → given.stations ≡ done ++ left → Stands P slot (AtFeeds done left) history
    → Stands P slot (AtFeeds given.stations []) (after_feeds given plan left history)
feeds_kept given P kept slot plan at [] done history are stands = subst (λ xs. Stands P slot (AtFeeds xs []) history) (all_done given done are) stands
feeds_kept given P kept slot plan at (station ∷ left) done history are stands =
    feeds_kept given P kept slot plan at left (done ++ station ∷ []) _ (one_on given done left station are) (record {
      begun = feed_turns given (slot + 1) station (take (plan.feed_of station) (octets_left given station history)) history stands.begun;
      is = kept.on_feed plan done left station history are (some_turn slot (turns_begun history) stands.begun) (now given slot plan history at stands.begun) stands.is;
    })

begins_kept : (given : Given) (P : Place → List Event → Type 0) → IsKept given P → (slot : ℕ) (plan : Plan) → slice_get given.plans slot ≡ Some plan
    → (left done : List ℕ) (history : List Event) → given.stations ≡ done ++ left → Stands P slot (AtBegins done left) history
    → Stands P slot (AtBegins given.stations []) (after_begins given slot plan left history)
begins_kept given P kept slot plan at [] done history are stands = subst (λ xs. Stands P slot (AtBegins xs []) history) (all_done given done are) stands
begins_kept given P kept slot plan at (station ∷ left) done history are stands =
    begins_kept given P kept slot plan at left (done ++ station ∷ []) _ (one_on given done left station are) (record {
      begun = called_turns given (slot + 1) station _ history stands.begun;
      is = kept.on_begin slot plan done left station history are
          (record { slot_is = stands.begun; plan = plan; is_now = now given slot plan history at stands.begun; radio_is = refl }) stands.is;
    })

opening_kept : (given : Given) (P : Place → List Event → Type 0) → IsKept given P → (slot : ℕ) (plan : Plan) → slice_get given.plans slot ≡ Some plan
    → (history : List Event) → turns_begun history ≡ slot → P NoTurn history → Stands P slot (AfterPhases 0) (after_opening given slot plan history)
unfolding after_opening
opening_kept given P kept slot plan at history begun is =
    let opened : Stands P slot (AtFeeds [] given.stations) (history ++ TurnBegan slot (map plan.radio_of given.stations) ∷ []) = record {
      begun = turns_more history (TurnBegan slot (map plan.radio_of given.stations)) ∙ ap (λ n. n + 1) begun;
      is = kept.on_turn slot plan history begun at is;
    } in
    let fed = feeds_kept given P kept slot plan at given.stations [] _ refl opened in
    let begun = begins_kept given P kept slot plan at given.stations [] _ refl (record { begun = fed.begun; is = kept.on_fed _ fed.is }) in
    record { begun = begun.begun; is = kept.on_begun _ begun.is }

-- ---- a phase

outcome_kept : (given : Given) (P : Place → List Event → Type 0) → IsKept given P → (slot phases : ℕ) (plan : Plan) → slice_get given.plans slot ≡ Some plan
    → (done left : List ℕ) (station : ℕ) (history : List Event) → given.stations ≡ done ++ station ∷ left
    → (channel : ℕ) (octets : List ℕ) → use_at given station history ≡ Sends channel octets
    → (unseen : Option (List ℕ)) → unseen_in octets (hearings_of given plan.fates station channel octets history) ≡ unseen
    → Stands P slot (AtPackets phases done (station ∷ left)) history
    → Ends (packet_outcome unseen station channel octets (hearings_of given plan.fates station channel octets history) history)
    (Stands P slot (AtPackets phases (done ++ station ∷ []) left)) (IsStopped given P)
outcome_kept given P kept slot phases plan at done left station history are channel octets wanted None seen stands = record {
  begun = turns_same history _ refl ∙ stands.begun;
  is = kept.on_packet phases plan done left station channel octets history are (some_turn slot (turns_begun history) stands.begun)
      (record { plan = plan; is_now = now given slot plan history at stands.begun; is_wanted = wanted; hearings_are = refl; is_seen = seen }) stands.is;
}
outcome_kept given P kept slot phases plan at done left station history are channel octets wanted (Some heard) seen stands = record {
  plan = plan;
  is_now = now given slot plan history at stands.begun;
  slot_is = stands.begun ∙ ap (λ n. n + 1) (sym (last_turn slot (turns_begun history) stands.begun));
  phases = phases;
  done = done;
  left = left;
  stations_are = are;
  kept = stands.is;
  place_is = refl;
  is_wanted = wanted;
  is_heard = seen;
}

packet_kept : (given : Given) (P : Place → List Event → Type 0) → IsKept given P → (slot phases : ℕ) (plan : Plan) → slice_get given.plans slot ≡ Some plan
    → (done left : List ℕ) (station : ℕ) (history : List Event) → given.stations ≡ done ++ station ∷ left
    → (wanted : Use) → use_at given station history ≡ wanted → Stands P slot (AtPackets phases done (station ∷ left)) history
    → Ends (packet_with wanted given plan.fates station history) (Stands P slot (AtPackets phases (done ++ station ∷ []) left)) (IsStopped given P)
packet_kept given P kept slot phases plan at done left station history are (Sends channel octets) is stands =
    outcome_kept given P kept slot phases plan at done left station history are channel octets is (unseen_in octets (hearings_of given plan.fates station channel octets history)) refl stands
packet_kept given P kept slot phases plan at done left station history are (Listens channel) is stands = record {
  begun = stands.begun;
  is = kept.on_silence phases done left station history are (ap packet_in is) stands.is;
}
packet_kept given P kept slot phases plan at done left station history are Idle is stands = record {
  begun = stands.begun;
  is = kept.on_silence phases done left station history are (ap packet_in is) stands.is;
}

packets_kept : (given : Given) (P : Place → List Event → Type 0) → IsKept given P → (slot phases : ℕ) (plan : Plan) → slice_get given.plans slot ≡ Some plan
    → (left done : List ℕ) (history : List Event) → given.stations ≡ done ++ left → Stands P slot (AtPackets phases done left) history
    → Ends (after_packets given plan.fates left history) (Stands P slot (AtPackets phases given.stations [])) (IsStopped given P)
packets_kept given P kept slot phases plan at [] done history are stands = subst (λ xs. Stands P slot (AtPackets phases xs []) history) (all_done given done are) stands
packets_kept given P kept slot phases plan at (station ∷ left) done history are stands =
    ends_then (after_packet given plan.fates station history) (after_packets given plan.fates left)
    (Stands P slot (AtPackets phases (done ++ station ∷ []) left)) (Stands P slot (AtPackets phases given.stations [])) (IsStopped given P)
    (packet_kept given P kept slot phases plan at done left station history are (use_at given station history) refl stands)
    (λ next stood. packets_kept given P kept slot phases plan at left (done ++ station ∷ []) next (one_on given done left station are) stood)

listenings_kept : (given : Given) (P : Place → List Event → Type 0) → IsKept given P → (slot phases : ℕ) (left done : List ℕ) (history : List Event)
    → given.stations ≡ done ++ left → Stands P slot (AtListening phases done left) history → Stands P slot (AtListening phases given.stations []) (after_listenings given left history)
listenings_kept given P kept slot phases [] done history are stands = subst (λ xs. Stands P slot (AtListening phases xs []) history) (all_done given done are) stands
listenings_kept given P kept slot phases (station ∷ left) done history are stands =
    listenings_kept given P kept slot phases left (done ++ station ∷ []) _ (one_on given done left station are) (record {
      begun = called_turns given (slot + 1) station _ history stands.begun;
      is = kept.on_hearing phases done left station history are (some_turn slot (turns_begun history) stands.begun) stands.is;
    })

phase_kept : (given : Given) (P : Place → List Event → Type 0) → IsKept given P → (slot phases : ℕ) (plan : Plan) → slice_get given.plans slot ≡ Some plan
    → phases < 3 → (history : List Event) → Stands P slot (AfterPhases phases) history → Ends (after_phase given plan.fates history) (Stands P slot (AfterPhases (suc phases))) (IsStopped given P)
unfolding after_phase
phase_kept given P kept slot phases plan at few history stands =
    ends_then (after_packets given plan.fates given.stations history) (λ then_on. GoesOn (after_listenings given given.stations then_on))
    (Stands P slot (AtPackets phases given.stations [])) (Stands P slot (AfterPhases (suc phases))) (IsStopped given P)
    (packets_kept given P kept slot phases plan at given.stations [] history refl (record { begun = stands.begun; is = kept.on_phase phases history few stands.is }))
    (λ then_on sent. let heard = listenings_kept given P kept slot phases given.stations [] then_on refl (record { begun = sent.begun; is = kept.on_air phases then_on sent.is }) in
    record { begun = heard.begun; is = kept.on_heard phases _ heard.is })

phases_kept : (given : Given) (P : Place → List Event → Type 0) → IsKept given P → (slot : ℕ) (plan : Plan) → slice_get given.plans slot ≡ Some plan
    → (history : List Event) → Stands P slot (AfterPhases 0) history → Ends (after_phases given plan.fates history) (Stands P slot (AfterPhases 3)) (IsStopped given P)
unfolding after_phases
phases_kept given P kept slot plan at history stands =
    ends_then (after_phase given plan.fates history) (λ second. and_then (after_phase given plan.fates second) (after_phase given plan.fates))
    (Stands P slot (AfterPhases 1)) (Stands P slot (AfterPhases 3)) (IsStopped given P)
    (phase_kept given P kept slot 0 plan at (omega arith) history stands)
    (λ second stood. ends_then (after_phase given plan.fates second) (after_phase given plan.fates) (Stands P slot (AfterPhases 2)) (Stands P slot (AfterPhases 3)) (IsStopped given P)
    (phase_kept given P kept slot 1 plan at (omega arith) second stood)
    (phase_kept given P kept slot 2 plan at (omega arith)))

-- ---- a turn, and a run

ends_kept : (given : Given) (P : Place → List Event → Type 0) → IsKept given P → (slot : ℕ) (left done : List ℕ) (history : List Event)
    → given.stations ≡ done ++ left → Stands P slot (AtEnds done left) history → Stands P slot (AtEnds given.stations []) (after_ends given left history)
ends_kept given P kept slot [] done history are stands = subst (λ xs. Stands P slot (AtEnds xs []) history) (all_done given done are) stands
ends_kept given P kept slot (station ∷ left) done history are stands =
    ends_kept given P kept slot left (done ++ station ∷ []) _ (one_on given done left station are) (record {
      begun = called_turns given (slot + 1) station TurnEnds history stands.begun;
      is = kept.on_end done left station history are (some_turn slot (turns_begun history) stands.begun) stands.is;
    })

turn_kept : (given : Given) (P : Place → List Event → Type 0) → IsKept given P → (slot : ℕ) (plan : Plan) → slice_get given.plans slot ≡ Some plan
    → (history : List Event) → turns_begun history ≡ slot → P NoTurn history → Ends (after_turn given slot plan history) (Stands P slot NoTurn) (IsStopped given P)
unfolding after_turn
turn_kept given P kept slot plan at history begun is =
    ends_then (after_phases given plan.fates (after_opening given slot plan history)) (λ ending. GoesOn (after_ends given given.stations ending))
    (Stands P slot (AfterPhases 3)) (Stands P slot NoTurn) (IsStopped given P)
    (phases_kept given P kept slot plan at (after_opening given slot plan history) (opening_kept given P kept slot plan at history begun is))
    (λ ending stood. let ended = ends_kept given P kept slot given.stations [] ending refl (record { begun = stood.begun; is = kept.on_phases ending stood.is }) in
    record { begun = ended.begun; is = kept.on_ended _ ended.is })

-- what holds where a run is whole
pub record IsWhole (given : Given) (P : Place → List Event → Type 0) (history : List Event) : Type 0 where
  pub begun : turns_begun history ≡ length given.plans
  pub is : P NoTurn history

pub plan_after : (before after : List Plan) (plan : Plan) → slice_get (before ++ plan ∷ after) (length before) ≡ Some plan
plan_after [] after plan = refl
plan_after (first ∷ before) after plan = plan_after before after plan

turns_kept : (given : Given) (P : Place → List Event → Type 0) → IsKept given P → (plans before : List Plan) (slot : ℕ) (history : List Event)
    → given.plans ≡ before ++ plans → length before ≡ slot → turns_begun history ≡ slot → P NoTurn history
    → Ends (run_from given slot plans history) (IsWhole given P) (IsStopped given P)
turns_kept given P kept [] before slot history all many begun is = record {
  begun = begun ∙ sym many ∙ sym (ap length (all ∙ append-nil before));
  is = is;
}
turns_kept given P kept (plan ∷ plans) before slot history all many begun is =
    ends_then (after_turn given slot plan history) (run_from given (slot + 1) plans) (Stands P slot NoTurn) (IsWhole given P) (IsStopped given P)
    (turn_kept given P kept slot plan (ap (λ xs. slice_get xs slot) all ∙ ap (slice_get (before ++ plan ∷ plans)) (sym many) ∙ plan_after before plans plan) history begun is)
    (λ next stood. turns_kept given P kept plans (before ++ plan ∷ []) (slot + 1) next (all ∙ sym (append_assoc before (plan ∷ []) plans))
    (length_push before plan ∙ ap (λ n. n + 1) many) stood.begun stood.is)

pub run_kept : (given : Given) (P : Place → List Event → Type 0) → IsKept given P → P NoTurn [] → Ends (run_of given) (IsWhole given P) (IsStopped given P)
unfolding run_of turns_begun
run_kept given P kept start = turns_kept given P kept given.plans [] 0 [] refl refl refl start

-- ---- what any call and any other event keeps

-- an event that is no call, and no note of one
abbrev pub is_outside : Event → Bool
is_outside (TurnBegan slot radios) = true
is_outside (HostFed station octets) = true
is_outside (Transmitted station channel octets hearings) = true
is_outside (Called station step) = false
is_outside (Noted station note) = false

pub record IsStepped (given : Given) (P : List Event → Type 0) : Type 0 where
  pub on_event : (history : List Event) (event : Event) → is_outside event ≡ true → P history → P (history ++ event ∷ [])
  pub on_call : (station : ℕ) (step : Step) (history : List Event) → P history → P (after_call given station step history)

octets_stepped : (given : Given) (P : List Event → Type 0) → IsStepped given P → (station : ℕ) (octets : List ℕ) (history : List Event)
    → P history → P (after_octets given station octets history)
octets_stepped given P stepped station [] history is = is
octets_stepped given P stepped station (octet ∷ octets) history is =
    octets_stepped given P stepped station octets _ (stepped.on_call station (HostOctet octet) history is)

pub feed_stepped : (given : Given) (P : List Event → Type 0) → IsStepped given P → (station : ℕ) (octets : List ℕ) (history : List Event)
    → P history → P (after_feed given station octets history)
feed_stepped given P stepped station [] history is = is
feed_stepped given P stepped station (octet ∷ octets) history is =
    octets_stepped given P stepped station (octet ∷ octets) _ (stepped.on_event history (HostFed station (octet ∷ octets)) refl is)

pub stepped_kept : (given : Given) (P : List Event → Type 0) → IsStepped given P → IsKept given (λ place history. P history)
stepped_kept given P stepped = record {
  on_turn = λ slot plan history begun at is. stepped.on_event history (TurnBegan slot (map plan.radio_of given.stations)) refl is;
  on_feed = λ plan done left station history are some now is. feed_stepped given P stepped station (take (plan.feed_of station) (octets_left given station history)) history is;
  on_fed = λ history is. is;
  on_begin = λ slot plan done left station history are due is. stepped.on_call station (TurnBegins slot (plan.radio_of station)) history is;
  on_begun = λ history is. is;
  on_phase = λ phases history few is. is;
  on_silence = λ phases done left station history are none is. is;
  on_packet = λ phases plan done left station channel octets history are some due is.
      stepped.on_event history (Transmitted station channel octets (hearings_of given plan.fates station channel octets history)) refl is;
  on_air = λ phases history is. is;
  on_hearing = λ phases done left station history are some is. stepped.on_call station (step_of (packet_received station history)) history is;
  on_heard = λ phases history is. is;
  on_phases = λ history is. is;
  on_end = λ done left station history are some is. stepped.on_call station TurnEnds history is;
  on_ended = λ history is. is;
}

-- what holds wherever a run ends
pub run_stepped : (given : Given) (P : List Event → Type 0) → IsStepped given P → P [] → P (history_of (run_of given))
run_stepped given P stepped start =
    ends_with (run_of given) (IsWhole given (λ place history. P history)) (IsStopped given (λ place history. P history)) P
    (run_kept given (λ place history. P history) (stepped_kept given P stepped) start)
    (λ history whole. whole.is) (λ history stop stopped. stopped.kept)
