-- At each call of a run: at which place of its turns the station that is called is, and at which any other one is.
use Rattle.std.proofs.Common.{◌≡◌, ℕ, suc, ◌+◌, ◌-◌, ◌==◌, Bool, true, false, Option, Some, None, List, [], ◌∷◌, ◌++◌, append-nil, refl, sym, ap, ◌∙◌, arith}
use Rattle.std.specs.Prelude.{fold, map, take, if◌then◌else◌}
use Rattle.link_calls.specs.controller_model.Step.{Step, HostOctet, TurnBegins, PacketHeard, NothingHeard, TurnEnds}
use Rattle.link_calls.specs.controller_model.Side.{notes_after}
use Rattle.link_calls.specs.run_model.Due.{Each}
use Rattle.link_calls.specs.run_model.Feeding.{AreDistinct}
use Rattle.link_calls.specs.run_model.History.{Event, TurnBegan, HostFed, Called, Noted, Transmitted, packet_received, past_of, turns_begun}
use Rattle.link_calls.specs.run_model.Run.{Given, GoesOn, after_call, after_feed, after_octets, facts_at, hearings_of, history_of, octets_left, run_of, setup_at, step_of}
use Rattle.std.proofs.lemmas.List.Sums.{fold-append}
use Rattle.link_calls.proofs.run_model.Calls.{past_by, past_other}
use Rattle.link_calls.proofs.run_model.Places.{each_at, each_called, each_event}
use Rattle.link_calls.proofs.run_model.Stations.{among, is_in, not_before}
use Rattle.link_calls.proofs.run_model.Walk.{AtBegins, AtEnds, AtListening, IsKept, IsStopped, IsWhole, Place, ends_whole, ends_with, run_kept}
use Rattle.link_calls.proofs.run_laws.TurnPlaces.{AllStand, Between, Standing, Within, at_stage, event_past, standing, stands_first, stands_kept}

-- the station is at the place `one`; any other is there too, or at `called` if it was called before in the round
pub record StandSo (given : Given) (before : List Event) (station : ℕ) (one called : Standing) : Type 0 where
  pub is_one : is_in station given.stations ≡ true
  pub own : standing (past_of station before) ≡ Some one
  pub was_called : ℕ → Bool
  pub others : (other : ℕ) → is_in other given.stations ≡ true → standing (past_of other before) ≡ Some (if was_called other then called else one)

-- a turn begins
abbrev pub StandsAtBegin : Given → List Event → ℕ → ℕ → Type 0
StandsAtBegin given before station slot = StandSo given before station (at_stage Between slot) (at_stage (Within 0) (slot + 1))

-- a phase ends, or a turn, or an octet of the host comes
pub record StandsInPhase (given : Given) (before : List Event) (station : ℕ) : Type 0 where
  pub phases : ℕ
  pub turns : ℕ
  pub stand : StandSo given before station (at_stage (Within phases) turns) (at_stage (Within (suc phases)) turns)

pub record StandsAtEnd (given : Given) (before : List Event) (station : ℕ) : Type 0 where
  pub turns : ℕ
  pub stand : StandSo given before station (at_stage (Within 3) turns) (at_stage Between turns)

pub record StandsAtFeed (given : Given) (before : List Event) (station : ℕ) : Type 0 where
  pub turns : ℕ
  pub stand : StandSo given before station (at_stage Between turns) (at_stage Between turns)

abbrev pub StandsAt : Given → List Event → ℕ → Step → Type 0
StandsAt given before station (HostOctet octet) = StandsAtFeed given before station
StandsAt given before station (TurnBegins slot on) = StandsAtBegin given before station slot
StandsAt given before station (PacketHeard octets) = StandsInPhase given before station
StandsAt given before station NothingHeard = StandsInPhase given before station
StandsAt given before station TurnEnds = StandsAtEnd given before station

-- each controller is between two turns
abbrev pub AllBetween : Given → List Event → ℕ → Type 0
AllBetween given before turns = (station : ℕ) → is_in station given.stations ≡ true → standing (past_of station before) ≡ Some (at_stage Between turns)

abbrev StandsIs : Given → List Event → Event → Type 0
StandsIs given before (Called station step) = StandsAt given before station step
StandsIs given before (TurnBegan slot radios) = AllBetween given before slot
StandsIs given before (HostFed station octets) = Unit {0}
StandsIs given before (Noted station note) = Unit {0}
StandsIs given before (Transmitted station channel octets hearings) = Unit {0}

record AreStanding (given : Given) (place : Place) (history : List Event) : Type 0 where
  stand : AllStand given place history
  each : Each (StandsIs given) [] history

call_stands : (given : Given) (station : ℕ) (step : Step) (history : List Event) → StandsAt given history station step → Each (StandsIs given) [] history
    → Each (StandsIs given) [] (after_call given station step history)
call_stands given station step history is each =
    each_called (StandsIs given) station step (notes_after (setup_at given station) (facts_at given station history) step) history each is (λ before note. tt)

-- ---- an octet of the host

all_between : (given : Given) (history : List Event) (turns station : ℕ) → is_in station given.stations ≡ true
    → ((other : ℕ) → is_in other given.stations ≡ true → standing (past_of other history) ≡ Some (at_stage Between turns)) → StandsAtFeed given history station
all_between given history turns station is all = record {
  turns = turns;
  stand = record { is_one = is; own = all station is; was_called = λ other. false; others = λ other in_it. all other in_it };
}

-- a fold over one more
pub more_of : {A B : Type 0} (f : A → B → A) (start : A) (past : List B) (one : B) (so_far : A) → fold f start past ≡ so_far → fold f start (past ++ one ∷ []) ≡ f so_far one
more_of f start past one so_far is = fold-append f start past (one ∷ []) ∙ ap (λ a. f a one) is

-- an octet leaves each station between two turns
stands_more : (past : List Step) (octet turns : ℕ) → standing past ≡ Some (at_stage Between turns) → standing (past ++ HostOctet octet ∷ []) ≡ Some (at_stage Between turns)
stands_more past octet turns is = more_of _ _ past (HostOctet octet) _ is

octet_by : (given : Given) (station octet other turns : ℕ) (history : List Event) (same : Bool) → (other == station) ≡ same
    → standing (past_of other history) ≡ Some (at_stage Between turns)
    → standing (past_of other (after_call given station (HostOctet octet) history)) ≡ Some (at_stage Between turns)
octet_by given station octet other turns history true is stands =
    let notes = notes_after (setup_at given station) (facts_at given station history) (HostOctet octet) in
    ap standing (past_by other station (HostOctet octet) notes history true is) ∙ stands_more (past_of other history) octet turns stands
octet_by given station octet other turns history false is stands =
    let notes = notes_after (setup_at given station) (facts_at given station history) (HostOctet octet) in
    ap standing (past_other other station (HostOctet octet) notes history is) ∙ stands

octets_each : (given : Given) (station : ℕ) (octets : List ℕ) (turns : ℕ) (history : List Event) → is_in station given.stations ≡ true
    → ((other : ℕ) → is_in other given.stations ≡ true → standing (past_of other history) ≡ Some (at_stage Between turns)) → Each (StandsIs given) [] history
    → Each (StandsIs given) [] (after_octets given station octets history)
octets_each given station [] turns history is all each = each
octets_each given station (octet ∷ octets) turns history is all each =
    octets_each given station octets turns (after_call given station (HostOctet octet) history) is
    (λ other in_it. octet_by given station octet other turns history (other == station) refl (all other in_it))
    (call_stands given station (HostOctet octet) history (all_between given history turns station is all) each)

feed_each : (given : Given) (station : ℕ) (octets : List ℕ) (turns : ℕ) (history : List Event) → is_in station given.stations ≡ true
    → ((other : ℕ) → is_in other given.stations ≡ true → standing (past_of other history) ≡ Some (at_stage Between turns)) → Each (StandsIs given) [] history
    → Each (StandsIs given) [] (after_feed given station octets history)
feed_each given station [] turns history is all each = each
feed_each given station (octet ∷ octets) turns history is all each =
    let event = HostFed station (octet ∷ octets) in
    octets_each given station (octet ∷ octets) turns (history ++ event ∷ []) is
    (λ other in_it. ap standing (event_past other history event refl) ∙ all other in_it)
    (each_event (StandsIs given) history event each tt)

-- ---- each round

last_turn : (turns slot : ℕ) → turns ≡ slot + 1 → turns - 1 ≡ slot
last_turn turns slot is = omega (arith, is)

begin_stands : (given : Given) (slot : ℕ) (done left : List ℕ) (station : ℕ) (history : List Event) → AreDistinct given.stations → given.stations ≡ done ++ station ∷ left
    → turns_begun history ≡ slot + 1 → AllStand given (AtBegins done (station ∷ left)) history → StandsAtBegin given history station slot
begin_stands given slot done left station history distinct are now stand =
    let is = among given.stations done left station are in
    let out = not_before given.stations done left station distinct are in
    let all : (other : ℕ) → is_in other given.stations ≡ true → standing (past_of other history) ≡ Some (if is_in other done then at_stage (Within 0) (slot + 1) else at_stage Between slot) =
    λ other in_it. stand other in_it ∙ (λ i. Some (if is_in other done then at_stage (Within 0) (now i) else at_stage Between (last_turn (turns_begun history) slot now i))) in record {
      is_one = is;
      own = all station is ∙ ap (λ b. Some (if b then at_stage (Within 0) (slot + 1) else at_stage Between slot)) out;
      was_called = λ other. is_in other done;
      others = all;
    }

phase_stands : (given : Given) (phases : ℕ) (done left : List ℕ) (station : ℕ) (history : List Event) → AreDistinct given.stations → given.stations ≡ done ++ station ∷ left
    → AllStand given (AtListening phases done (station ∷ left)) history → StandsInPhase given history station
phase_stands given phases done left station history distinct are stand =
    let is = among given.stations done left station are in
    let out = not_before given.stations done left station distinct are in
    let turns = turns_begun history in record {
      phases = phases;
      turns = turns;
      stand = record {
        is_one = is;
        own = stand station is ∙ ap (λ b. Some (if b then at_stage (Within (suc phases)) turns else at_stage (Within phases) turns)) out;
        was_called = λ other. is_in other done;
        others = stand;
      };
    }

end_stands : (given : Given) (done left : List ℕ) (station : ℕ) (history : List Event) → AreDistinct given.stations → given.stations ≡ done ++ station ∷ left
    → AllStand given (AtEnds done (station ∷ left)) history → StandsAtEnd given history station
end_stands given done left station history distinct are stand =
    let is = among given.stations done left station are in
    let out = not_before given.stations done left station distinct are in
    let turns = turns_begun history in record {
      turns = turns;
      stand = record {
        is_one = is;
        own = stand station is ∙ ap (λ b. Some (if b then at_stage Between turns else at_stage (Within 3) turns)) out;
        was_called = λ other. is_in other done;
        others = stand;
      };
    }

phase_call : (given : Given) (before : List Event) (station : ℕ) (received : Option (List ℕ)) → StandsInPhase given before station
    → StandsAt given before station (step_of received)
phase_call given before station None is = is
phase_call given before station (Some octets) is = is

standing_kept : (given : Given) → AreDistinct given.stations → IsKept given (AreStanding given)
standing_kept given distinct = let kept = stands_kept given distinct in record {
  on_turn = λ slot plan history begun at are. record {
    stand = kept.on_turn slot plan history begun at are.stand;
    each = each_event (StandsIs given) history (TurnBegan slot (map plan.radio_of given.stations)) are.each
        (λ station is. are.stand station is ∙ ap (λ n. Some (at_stage Between n)) begun);
  };
  on_feed = λ plan done left station history are some now has. record {
    stand = kept.on_feed plan done left station history are some now has.stand;
    each = feed_each given station (take (plan.feed_of station) (octets_left given station history)) (turns_begun history - 1) history
        (among given.stations done left station are) has.stand has.each;
  };
  on_fed = λ history has. record { stand = kept.on_fed history has.stand; each = has.each };
  on_begin = λ slot plan done left station history are due has. record {
    stand = kept.on_begin slot plan done left station history are due has.stand;
    each = call_stands given station (TurnBegins slot (plan.radio_of station)) history (begin_stands given slot done left station history distinct are due.slot_is has.stand) has.each;
  };
  on_begun = λ history has. record { stand = kept.on_begun history has.stand; each = has.each };
  on_phase = λ phases history few has. record { stand = kept.on_phase phases history few has.stand; each = has.each };
  on_silence = λ phases done left station history are none has. record { stand = kept.on_silence phases done left station history are none has.stand; each = has.each };
  on_packet = λ phases plan done left station channel octets history are some due has. record {
    stand = kept.on_packet phases plan done left station channel octets history are some due has.stand;
    each = each_event (StandsIs given) history (Transmitted station channel octets (hearings_of given plan.fates station channel octets history)) has.each tt;
  };
  on_air = λ phases history has. record { stand = kept.on_air phases history has.stand; each = has.each };
  on_hearing = λ phases done left station history are some has. record {
    stand = kept.on_hearing phases done left station history are some has.stand;
    each = call_stands given station (step_of (packet_received station history)) history
        (phase_call given history station (packet_received station history) (phase_stands given phases done left station history distinct are has.stand)) has.each;
  };
  on_heard = λ phases history has. record { stand = kept.on_heard phases history has.stand; each = has.each };
  on_phases = λ history has. record { stand = kept.on_phases history has.stand; each = has.each };
  on_end = λ done left station history are some has. record {
    stand = kept.on_end done left station history are some has.stand;
    each = call_stands given station TurnEnds history (end_stands given done left station history distinct are has.stand) has.each;
  };
  on_ended = λ history has. record { stand = kept.on_ended history has.stand; each = has.each };
}

run_standing : (given : Given) → AreDistinct given.stations → Each (StandsIs given) [] (history_of (run_of given))
run_standing given distinct =
    ends_with (run_of given) (IsWhole given (AreStanding given)) (IsStopped given (AreStanding given)) (Each (StandsIs given) [])
    (run_kept given (AreStanding given) (standing_kept given distinct) (record { stand = stands_first given; each = tt }))
    (λ history whole. whole.is.each) (λ history stop stopped. stopped.kept.each)

pub stands_called : (given : Given) (before rest : List Event) (station : ℕ) (step : Step) → AreDistinct given.stations
    → history_of (run_of given) ≡ before ++ Called station step ∷ rest → StandsAt given before station step
stands_called given before rest station step distinct at =
    each_at (StandsIs given) (history_of (run_of given)) before rest (Called station step) (run_standing given distinct) at

pub stands_before_turn : (given : Given) (before rest : List Event) (slot : ℕ) (radios : List Bool) → AreDistinct given.stations
    → history_of (run_of given) ≡ before ++ TurnBegan slot radios ∷ rest → AllBetween given before slot
stands_before_turn given before rest slot radios distinct at =
    each_at (StandsIs given) (history_of (run_of given)) before rest (TurnBegan slot radios) (run_standing given distinct) at

pub stands_last : (given : Given) (history : List Event) → AreDistinct given.stations → run_of given ≡ GoesOn history → AllBetween given history (turns_begun history)
stands_last given history distinct goes =
    (ends_whole (run_of given) (IsWhole given (AreStanding given)) (IsStopped given (AreStanding given)) history
    (run_kept given (AreStanding given) (standing_kept given distinct) (record { stand = stands_first given; each = tt })) goes).is.stand

-- the history of a run that is whole
pub whole_history : (given : Given) (history : List Event) → run_of given ≡ GoesOn history → history_of (run_of given) ≡ history ++ []
whole_history given history goes = ap history_of goes ∙ sym (append-nil history)
