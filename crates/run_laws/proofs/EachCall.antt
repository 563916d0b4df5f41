-- Each call of a run: where its controller stands then, and that what it hears in it was on the air.
use Rattle.std.proofs.Common.{◌≡◌, ℕ, suc, ◌+◌, ◌-◌, ◌==◌, true, false, Option, Some, None, List, [], ◌∷◌, ◌++◌, refl, sym, ap, subst, ◌∙◌, append-nil, append_assoc}
use Rattle.std.specs.Prelude.{map, take, if◌then◌else◌}
use Rattle.run_model.specs.controller_model.Step.{Step, HostOctet, TurnBegins, PacketHeard, NothingHeard, TurnEnds}
use Rattle.run_model.specs.controller_model.Facts.{Facts}
use Rattle.run_model.specs.controller_model.Side.{facts_of, notes_after}
use Rattle.run_model.proofs.controller_model.Pasts.{facts_more}
use Rattle.run_model.specs.Due.{Each}
use Rattle.run_model.specs.Feeding.{AreDistinct}
use Rattle.run_model.specs.History.{Event, TurnBegan, HostFed, Called, Noted, Transmitted, packet_received, past_of, turns_begun}
use Rattle.run_model.specs.LinkEnds.{HaveAddresses}
use Rattle.run_model.specs.Run.{Given, after_call, after_feed, after_octets, facts_at, hearings_of, history_of, octets_left, run_of, setup_at, step_of}
use Rattle.run_model.proofs.Calls.{past_other, past_own}
use Rattle.run_model.proofs.Places.{each_at, each_called, each_event}
use Rattle.run_model.proofs.Stations.{among, is_in, not_before}
use Rattle.run_model.proofs.Walk.{AtBegins, AtListening, IsKept, IsStopped, IsWhole, Place, ends_with, run_kept}
use Rattle.run_laws.proofs.ByCalls.{IsCalled, StandsBy, WasSent, all_facts, at_turn, first_hears, last_turn, one_slot, same_facts, was_sent}
use Rattle.run_laws.proofs.Entering.{IsInTurn}
use Rattle.run_laws.proofs.Hearings.{AreHearing, hearing_kept}
use Rattle.run_laws.proofs.LinkPhases.{IsInPhase, in_phase}
use Rattle.run_laws.proofs.TurnPlaces.{Between, Within, at_stage, stands_first}

-- a turn begins
pub record IsBegin (given : Given) (before : List Event) (station slot : ℕ) : Type 0 where
  pub is_one : is_in station given.stations ≡ true
  pub in_turn : IsInTurn (setup_at given station) Between slot (facts_at given station before)

-- a phase ends in which this was received
pub record IsPhase (given : Given) (before : List Event) (station : ℕ) (received : Option (List ℕ)) : Type 0 where
  pub is_one : is_in station given.stations ≡ true
  pub phases : ℕ
  pub turns : ℕ
  pub in_turn : IsInTurn (setup_at given station) (Within phases) turns (facts_at given station before)
  pub in_phase : IsInPhase phases (facts_at given station before).links (facts_at given station before).turn.doing
  pub slots : (other : ℕ) → is_in other given.stations ≡ true → (facts_at given other before).turn.slot + 1 ≡ turns
  pub sent : (octets : List ℕ) → received ≡ Some octets → WasSent given phases (all_facts given before) station octets

abbrev pub IsCallOf : Given → List Event → ℕ → Step → Type 0
IsCallOf given before station (HostOctet octet) = is_in station given.stations ≡ true
IsCallOf given before station (TurnBegins slot on) = IsBegin given before station slot
IsCallOf given before station (PacketHeard octets) = IsPhase given before station (Some octets)
IsCallOf given before station NothingHeard = IsPhase given before station None
IsCallOf given before station TurnEnds = is_in station given.stations ≡ true

abbrev CallIs : Given → List Event → Event → Type 0
CallIs given before (Called station step) = IsCallOf given before station step
CallIs given before (TurnBegan slot radios) = Unit {0}
CallIs given before (HostFed station octets) = Unit {0}
CallIs given before (Noted station note) = Unit {0}
CallIs given before (Transmitted station channel octets hearings) = Unit {0}

record AreCalled (given : Given) (place : Place) (history : List Event) : Type 0 where
  hearing : AreHearing given place history
  each : Each (CallIs given) [] history

call_is : (given : Given) (station : ℕ) (step : Step) (history : List Event) → IsCallOf given history station step → Each (CallIs given) [] history
    → Each (CallIs given) [] (after_call given station step history)
call_is given station step history is each =
    each_called (CallIs given) station step (notes_after (setup_at given station) (facts_at given station history) step) history each is (λ before note. tt)

octets_are : (given : Given) (station : ℕ) (octets : List ℕ) (history : List Event) → is_in station given.stations ≡ true → Each (CallIs given) [] history
    → Each (CallIs given) [] (after_octets given station octets history)
octets_are given station [] history is each = each
octets_are given station (octet ∷ octets) history is each =
    octets_are given station octets (after_call given station (HostOctet octet) history) is (call_is given station (HostOctet octet) history is each)

feed_is : (given : Given) (station : ℕ) (octets : List ℕ) (history : List Event) → is_in station given.stations ≡ true → Each (CallIs given) [] history
    → Each (CallIs given) [] (after_feed given station octets history)
feed_is given station [] history is each = each
feed_is given station (octet ∷ octets) history is each =
    octets_are given station (octet ∷ octets) (history ++ HostFed station (octet ∷ octets) ∷ []) is
    (each_event (CallIs given) history (HostFed station (octet ∷ octets)) each tt)

phase_call : (given : Given) (before : List Event) (station : ℕ) (received : Option (List ℕ)) → IsPhase given before station received
    → IsCallOf given before station (step_of received)
phase_call given before station None is = is
phase_call given before station (Some octets) is = is

begin_at : (given : Given) (slot : ℕ) (done left : List ℕ) (station : ℕ) (history : List Event) → AreDistinct given.stations → given.stations ≡ done ++ station ∷ left
    → turns_begun history ≡ slot + 1 → AreHearing given (AtBegins done (station ∷ left)) history → IsBegin given history station slot
begin_at given slot done left station history distinct are now hearing =
    let is = among given.stations done left station are in record {
      is_one = is;
      in_turn = subst (λ n. StandsBy given history station (at_stage Between n)) (last_turn (turns_begun history) slot now)
          (subst (λ b. StandsBy given history station (if b then at_stage (Within 0) (turns_begun history) else at_stage Between (turns_begun history - 1)))
          (not_before given.stations done left station distinct are) (at_turn given (AtBegins done (station ∷ left)) history hearing.stand station is));
    }

phase_at : (given : Given) → HaveAddresses given → (phases : ℕ) (done left : List ℕ) (station : ℕ) (history : List Event) → AreDistinct given.stations
    → given.stations ≡ done ++ station ∷ left → AreHearing given (AtListening phases done (station ∷ left)) history
    → IsPhase given history station (packet_received station history)
phase_at given six phases done left station history distinct are hearing =
    let is = among given.stations done left station are in
    let out = not_before given.stations done left station distinct are in
    let turns = turns_begun history in
    let place = AtListening phases done (station ∷ left) in record {
      is_one = is;
      phases = phases;
      turns = turns;
      in_turn = subst (λ b. StandsBy given history station (if b then at_stage (Within (suc phases)) turns else at_stage (Within phases) turns)) out
          (at_turn given place history hearing.stand station is);
      in_phase = in_phase (setup_at given station) (past_of station history) phases turns
          (hearing.stand station is ∙ ap (λ b. Some (if b then at_stage (Within (suc phases)) turns else at_stage (Within phases) turns)) out);
      slots = λ other in_it. one_slot given history other phases turns (is_in other done) (at_turn given place history hearing.stand other in_it);
      sent = was_sent given six phases done left station history distinct are hearing;
    }

calls_kept : (given : Given) → HaveAddresses given → AreDistinct given.stations → IsKept given (AreCalled given)
calls_kept given six distinct = let kept = hearing_kept given six distinct in record {
  on_turn = λ slot plan history begun at called. record {
    hearing = kept.on_turn slot plan history begun at called.hearing;
    each = each_event (CallIs given) history (TurnBegan slot (map plan.radio_of given.stations)) called.each tt;
  };
  on_feed = λ plan done left station history are some now called. record {
    hearing = kept.on_feed plan done left station history are some now called.hearing;
    each = feed_is given station (take (plan.feed_of station) (octets_left given station history)) history (among given.stations done left station are) called.each;
  };
  on_fed = λ history called. record { hearing = kept.on_fed history called.hearing; each = called.each };
  on_begin = λ slot plan done left station history are due called. record {
    hearing = kept.on_begin slot plan done left station history are due called.hearing;
    each = call_is given station (TurnBegins slot (plan.radio_of station)) history (begin_at given slot done left station history distinct are due.slot_is called.hearing) called.each;
  };
  on_begun = λ history called. record { hearing = kept.on_begun history called.hearing; each = called.each };
  on_phase = λ phases history few called. record { hearing = kept.on_phase phases history few called.hearing; each = called.each };
  on_silence = λ phases done left station history are none called.
      record { hearing = kept.on_silence phases done left station history are none called.hearing; each = called.each };
  on_packet = λ phases plan done left station channel octets history are some due called. record {
    hearing = kept.on_packet phases plan done left station channel octets history are some due called.hearing;
    each = each_event (CallIs given) history (Transmitted station channel octets (hearings_of given plan.fates station channel octets history)) called.each tt;
  };
  on_air = λ phases history called. record { hearing = kept.on_air phases history called.hearing; each = called.each };
  on_hearing = λ phases done left station history are some called. record {
    hearing = kept.on_hearing phases done left station history are some called.hearing;
    each = call_is given station (step_of (packet_received station history)) history
        (phase_call given history station (packet_received station history) (phase_at given six phases done left station history distinct are called.hearing)) called.each;
  };
  on_heard = λ phases history called. record { hearing = kept.on_heard phases history called.hearing; each = called.each };
  on_phases = λ history called. record { hearing = kept.on_phases history called.hearing; each = called.each };
  on_end = λ done left station history are some called. record {
    hearing = kept.on_end done left station history are some called.hearing;
    each = call_is given station TurnEnds history (among given.stations done left station are) called.each;
  };
  on_ended = λ history called. record { hearing = kept.on_ended history called.hearing; each = called.each };
}

run_called : (given : Given) → HaveAddresses given → AreDistinct given.stations → Each (CallIs given) [] (history_of (run_of given))
run_called given six distinct =
    ends_with (run_of given) (IsWhole given (AreCalled given)) (IsStopped given (AreCalled given)) (Each (CallIs given) [])
    (run_kept given (AreCalled given) (calls_kept given six distinct)
    (record { hearing = record { stand = stands_first given; hears = λ station is. first_hears given station }; each = tt }))
    (λ history whole. whole.is.each) (λ history stop stopped. stopped.kept.each)

pub call_at : (given : Given) (before rest : List Event) (station : ℕ) (step : Step) → HaveAddresses given → AreDistinct given.stations
    → history_of (run_of given) ≡ before ++ Called station step ∷ rest → IsCallOf given before station step
call_at given before rest station step six distinct at =
    each_at (CallIs given) (history_of (run_of given)) before rest (Called station step) (run_called given six distinct) at

-- ---- along a history

pub facts_others : (given : Given) (station : ℕ) (step : Step) (before : List Event) (other : ℕ) → (other == station) ≡ false
    → facts_at given other (before ++ Called station step ∷ []) ≡ facts_at given other before
facts_others given station step before other differs = ap (facts_of (setup_at given other)) (past_other other station step [] before differs)

pub facts_called : (given : Given) (station : ℕ) (step : Step) (before : List Event) → is_in station given.stations ≡ true
    → IsCalled given station step (all_facts given before) (all_facts given (before ++ Called station step ∷ []))
facts_called given station step before is = record {
  is_one = is;
  own = let setup = setup_at given station in ap (facts_of setup) (past_own station step [] before) ∙ facts_more setup (past_of station before) step;
  others = λ other differs. facts_others given station step before other differs;
}

-- a fact of what the stations hold, which each call of a history keeps
module _ (given : Given) (M : (ℕ → Facts) → Type 0) (whole : List Event)
    (calls : (before after : List Event) (station : ℕ) (step : Step) → whole ≡ before ++ Called station step ∷ after → M (all_facts given before)
    → M (all_facts given (before ++ Called station step ∷ []))) where
  event_keeps : (before after : List Event) (event : Event) → whole ≡ before ++ event ∷ after → M (all_facts given before) → M (all_facts given (before ++ event ∷ []))
  event_keeps before after (Called station step) is holds = calls before after station step is holds
  event_keeps before after (TurnBegan slot radios) is holds = subst M (sym (same_facts given before (TurnBegan slot radios) (λ station. refl))) holds
  event_keeps before after (HostFed station octets) is holds = subst M (sym (same_facts given before (HostFed station octets) (λ other. refl))) holds
  event_keeps before after (Noted station note) is holds = subst M (sym (same_facts given before (Noted station note) (λ other. refl))) holds
  event_keeps before after (Transmitted station channel octets hearings) is holds =
      subst M (sym (same_facts given before (Transmitted station channel octets hearings) (λ other. refl))) holds

  along : (before events : List Event) → whole ≡ before ++ events → M (all_facts given before) → M (all_facts given (before ++ events))
  along before [] is holds = subst (λ history. M (all_facts given history)) (sym (append-nil before)) holds
  along before (event ∷ events) is holds =
      subst (λ history. M (all_facts given history)) (append_assoc before (event ∷ []) events)
      (along (before ++ event ∷ []) events (is ∙ sym (append_assoc before (event ∷ []) events)) (event_keeps before events event is holds))

  pub kept_along : M (all_facts given []) → M (all_facts given whole)
  kept_along first = along [] whole refl first
