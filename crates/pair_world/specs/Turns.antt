-- A turn of a run, as the code of both stations goes through it (our choice).
use Rattle.std.specs.Prelude.{◌≡◌, ℕ, ◌+◌, List, [], ◌∷◌, ◌++◌, map, Option}
use Rattle.radio_replay.specs.Script.{Turn as ScriptTurn}
use Rattle.run_model.specs.History.{Event, TurnBegan, turns_begun, packets_on_air, fates_used, packet_received}
use Rattle.run_model.specs.Pair.{plan_of}
use Rattle.run_model.specs.Run.{Given, Plan, after_feeds}
use Rattle.pair_world.specs.Logs.{LogState}
use Rattle.pair_world.specs.Stations.{StationState, Keeps, Writes}

-- both stations and the log are up to this history, in which this number of turns began
pub record PairIsUpTo (given : Given) (turns : ℕ) (a b : StationState) (log : LogState)
    (history : List Event) : Type 0 where
  pub stations_are : given.stations ≡ 0 ∷ 1 ∷ []
  pub keeps_a : Keeps given 0 history a
  pub keeps_b : Keeps given 1 history b
  pub writes : Writes history log
  pub turns_are : turns_begun history ≡ turns

-- both are fed, and have still to begin the turn in this slot
pub record HasFed (given : Given) (slot : ℕ) (a b : StationState) (log : LogState) (history : List Event) : Type 0 where
  pub is : PairIsUpTo given (slot + 1) a b log history
  pub fates_are : fates_used history ≡ 0
  pub packets_are : packets_on_air history ≡ 0

-- the packets of a phase were on the air, and the stations have still to take what they heard
pub record HasHeard (given : Given) (slot : ℕ) (a b : StationState) (log : LogState) (packets : ℕ) (at_a at_b : Option
    (List ℕ)) (history : List Event) : Type 0 where
  pub is : PairIsUpTo given (slot + 1) a b log history
  pub fates_are : fates_used history ≡ packets
  pub packets_are : packets_on_air history ≡ packets
  pub heard_a : packet_received 0 history ≡ at_a
  pub heard_b : packet_received 1 history ≡ at_b

-- a turn begins, and all stations are fed
abbrev pub after_feeding : Given → ℕ → Plan → List Event → List Event
after_feeding given slot plan history =
    after_feeds given plan given.stations (history ++ TurnBegan slot (map plan.radio_of given.stations) ∷ [])

-- the schedule of a run
abbrev pub HasPlans : Given → List ScriptTurn → Type 0
HasPlans given turns = given.plans ≡ map plan_of turns
