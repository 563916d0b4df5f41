-- A run, turn by turn, from its first station on.
use Rattle.std.proofs.Common.{◌≡◌, ℕ, zero, suc, ◌+◌, ◌<◌, ◌≤◌, ◌⊎◌, inl, inr, List, [], ◌∷◌, map, length, drop, Some, refl, sym, ap, subst, ◌∙◌, arith}
use Rattle.std.proofs.lemmas.List.{get_or-replicate}
use Rattle.std.specs.Prelude.{slice_get}
use Rattle.journal.specs.declared.entries.Entry.{Entry}
use Rattle.radio_replay.specs.Script.{Script, Turn as ScriptTurn}
use Rattle.run_model.specs.History.{Event, turns_begun}
use Rattle.run_model.specs.Journal.{journal_of}
use Rattle.run_model.specs.Links.{links_of}
use Rattle.run_model.specs.Pair.{IsRun, given_of, plan_of}
use Rattle.run_model.specs.Run.{Given, Plan, Run, after_turn, and_then, run_from, run_of, setup_at}
use Rattle.pair_world.specs.declared.links.TheConstants.{LINKS}
use Rattle.pair_world.specs.declared.run.RunFault.{RunFault}
use Rattle.pair_world.specs.declared.run.RunFault.TheVariants.{Memory as OutOfMemory}
use Rattle.pair_world.specs.declared.stops.Stop.{Stop}
use Rattle.pair_world.specs.declared.stops.Stop.TheVariants.{Unseen, Memory}
use Rattle.pair_world.specs.Faults.{IsRunFault, fault_of}
use Rattle.pair_world.specs.KnownLinks.{first_known, number_in}
use Rattle.pair_world.specs.Logs.{LogState, first_log}
use Rattle.pair_world.specs.Outcomes.{Reaches, IsStopped}
use Rattle.pair_world.specs.Stations.{StationState, IsFirst, Keeps, KnowsLinks, Writes}
use Rattle.pair_world.specs.Turns.{HasPlans, PairIsUpTo}

-- ---- the first station

nothing_opened : (handle : ℕ) → handle < LINKS → number_in first_known handle ≡ 0
nothing_opened handle below = get_or-replicate LINKS handle 0 0 below

knows_none : (station : ℕ) → KnowsLinks station (links_of []) first_known
unfolding links_of
knows_none station = record { last_is = refl; size = refl; by_handle_are = λ handle below. nothing_opened handle below }

first_keeps : (given : Given) (station : ℕ) (state : StationState) → (setup_at given station).links ≡ LINKS
    → IsFirst (setup_at given station) (given.station_of station).stream state → Keeps given station [] state
first_keeps given station state own first = record {
  handles = own;
  knows = first.knows;
  unfed_are = first.unfed_are;
  links_are = subst (KnowsLinks station (links_of [])) (sym first.links_are) (knows_none station);
}

writes_none : Writes [] first_log
unfolding journal_of links_of
writes_none = record { entries_are = refl; links_are = refl }

no_turns : turns_begun [] ≡ 0
unfolding turns_begun
no_turns = refl

pub both_first : (a b : List ℕ) (script : Script) (first second : StationState)
    → IsFirst (setup_at (given_of a b script) 0) a first → IsFirst (setup_at (given_of a b script) 1) b second
    → PairIsUpTo (given_of a b script) 0 first second first_log []
both_first a b script first second is_first is_second = record {
  stations_are = refl;
  keeps_a = first_keeps (given_of a b script) 0 first refl is_first;
  keeps_b = first_keeps (given_of a b script) 1 second refl is_second;
  writes = writes_none;
  turns_are = no_turns;
}

-- ---- before a turn

-- the run came to this turn, and the rest of it is that of the turns from here on
pub record AtTurn (given : Given) (turn : ℕ) (a b : StationState) (log : LogState) : Type 0 where
  pub history : List Event
  pub up : PairIsUpTo given turn a b log history
  pub rest : run_from given turn (drop turn given.plans) history ≡ run_of given

pub at_first : (given : Given) (a b : StationState) (log : LogState) → log ≡ first_log → PairIsUpTo given 0 a b first_log [] → AtTurn given 0 a b log
unfolding run_of
at_first given a b log is up = record { history = []; up = subst (λ (now : LogState). PairIsUpTo given 0 a b now []) (sym is) up; rest = refl }

pub place_in : (turns : List ScriptTurn) (n : ℕ) → n < length turns → (plan : ScriptTurn) × (slice_get turns n ≡ Some plan)
place_in [] n below = absurd (omega arith)
place_in (turn ∷ turns) zero below = (turn, refl)
place_in (turn ∷ turns) (suc n) below = place_in turns n (omega arith)

drop_at : (turns : List ScriptTurn) (n : ℕ) (plan : ScriptTurn) → slice_get turns n ≡ Some plan
    → drop n (map plan_of turns) ≡ plan_of plan ∷ drop (suc n) (map plan_of turns)
drop_at [] n plan is = absurd (cc)
drop_at (turn ∷ turns) zero plan is = let same : turn ≡ plan = cc in ap (λ (one : ScriptTurn). plan_of one ∷ map plan_of turns) same
drop_at (turn ∷ turns) (suc n) plan is = drop_at turns n plan is

-- the turns that are left, of which this is the first
left_at : (given : Given) (turns : List ScriptTurn) (n : ℕ) (plan : ScriptTurn) → HasPlans given turns → slice_get turns n ≡ Some plan
    → drop n given.plans ≡ plan_of plan ∷ drop (n + 1) given.plans
left_at given turns n plan plans is =
    let next : suc n ≡ n + 1 = omega arith in
    ap (λ (all : List Plan). drop n all) plans ∙ drop_at turns n plan is
    ∙ (λ i. plan_of plan ∷ drop (next i) (sym plans i))

-- the run goes on as this turn does
pub rest_at : (given : Given) (turns : List ScriptTurn) (n : ℕ) (plan : ScriptTurn) (history : List Event) → HasPlans given turns
    → slice_get turns n ≡ Some plan → run_from given n (drop n given.plans) history ≡ run_of given
    → and_then (after_turn given n (plan_of plan) history) (run_from given (n + 1) (drop (n + 1) given.plans)) ≡ run_of given
rest_at given turns n plan history plans is rest =
    ap (λ (left : List Plan). run_from given n left history) (sym (left_at given turns n plan plans is)) ∙ rest

pub next_turn : (given : Given) (turns : List ScriptTurn) (n : ℕ) (plan : ScriptTurn) (a b new_a new_b : StationState) (log new_log : LogState) → HasPlans given turns
    → slice_get turns n ≡ Some plan → (at : AtTurn given n a b log)
    → Reaches (after_turn given n (plan_of plan) at.history) (PairIsUpTo given (n + 1) new_a new_b new_log)
    → AtTurn given (n + 1) new_a new_b new_log
next_turn given turns n plan a b new_a new_b log new_log plans is at turn = record {
  history = turn.after;
  up = turn.holds;
  rest = ap (λ (run : Run). and_then run (run_from given (n + 1) (drop (n + 1) given.plans))) (sym turn.goes_on)
      ∙ rest_at given turns n plan at.history plans is at.rest;
}

-- ---- the end

drop_all : (turns : List ScriptTurn) (n : ℕ) → length turns ≤ n → drop n (map plan_of turns) ≡ []
drop_all [] zero past = refl
drop_all [] (suc n) past = refl
drop_all (turn ∷ turns) zero past = absurd (omega arith)
drop_all (turn ∷ turns) (suc n) past = drop_all turns n (omega arith)

pub is_run : (given : Given) (turns : List ScriptTurn) (n : ℕ) (a b : StationState) (log : LogState) (entries : List Entry) → HasPlans given turns
    → length turns ≤ n → entries ≡ log.entries → AtTurn given n a b log → IsRun given entries
is_run given turns n a b log entries plans past same at = record {
  history = at.history;
  is_whole = sym (ap (λ (left : List Plan). run_from given n left at.history)
      (sym (ap (λ (all : List Plan). drop n all) plans ∙ drop_all turns n past)) ∙ at.rest);
  written = same ∙ at.up.writes.entries_are;
}

-- ---- a fault

pub is_fault : (given : Given) (turns : List ScriptTurn) (n : ℕ) (plan : ScriptTurn) (a b : StationState) (log : LogState) (entries : List Entry) (stop : Stop)
    → HasPlans given turns → slice_get turns n ≡ Some plan → (at : AtTurn given n a b log)
    → IsStopped (after_turn given n (plan_of plan) at.history) n entries stop → IsRunFault given (fault_of stop n entries)
is_fault given turns n plan a b log entries Memory plans is at stopped = tt
is_fault given turns n plan a b log entries (Unseen unseen) plans is at stopped = record {
  history = stopped.before;
  stop = stopped.stop;
  stops = sym (ap (λ (run : Run). and_then run (run_from given (n + 1) (drop (n + 1) given.plans))) (sym stopped.stops)
      ∙ rest_at given turns n plan at.history plans is at.rest);
  written = stopped.written;
  turn_is = stopped.slot_is;
  packet_is = stopped.packet_is;
  sent_is = stopped.sent_is;
  heard_is = stopped.heard_is;
}

-- the fault of a stop, or that there is no memory to tell it
pub told : (given : Given) (fault made : RunFault) → (fault ≡ made) ⊎ (fault ≡ OutOfMemory) → IsRunFault given made → IsRunFault given fault
told given fault made (inl is) holds = subst (IsRunFault given) (sym is) holds
told given fault made (inr is) holds = subst (IsRunFault given) (sym is) tt
