-- Invariants of `run::run_turns`.
use Rattle.std.proofs.Common.{◌≡◌, ◌*◌, ◌≤◌, []}
use Rattle.run_model.specs.Run.{Given}
use Rattle.pair_world.specs.Logs.{first_log}
use Rattle.pair_world.specs.Order.{MayBothBegin}
use Rattle.pair_world.specs.Turns.{HasPlans, PairIsUpTo}
use Rattle.pair_world.proofs.WholeRuns.{AtTurn}
use Rattle.pair_world.proofs.run.run_turns.Given as goal

abbrev pub invariant-loop-turn : goal.invariant-loop-turn
invariant-loop-turn l = record {
  empty : l.out.items ≡ [];
  links : l.log.links ≤ 6 * l.turn;
  order : MayBothBegin l.turn l.pair.a l.pair.b;
  at : (given : Given) → HasPlans given l.schedule.turns → PairIsUpTo given 0 l.fn.pair.a l.fn.pair.b first_log []
      → AtTurn given l.turn l.pair.a l.pair.b l.log;
}
