-- Proof of `run::run_turns`.
use Rattle.std.proofs.Common.{◌<◌, ◌≤◌, length, ap, arith}
use Rattle.pair_world.specs.Logs.{LogState}
use Rattle.pair_world.proofs.WholeRuns.{at_first, is_fault, is_run, next_turn, place_in, told}
use Rattle.pair_world.proofs.run.run_turns.Goals as goal

pub loop-turn-init : goal.loop-turn-init
loop-turn-init c = record {
  empty = c.new-out.ensures;
  links = omega (arith, ap (λ (log : LogState). log.links) c.new-log.ensures);
  order = c.requires.order;
  at = λ given plans up. at_first given c.args.pair.a c.args.pair.b c.new-log.result c.new-log.ensures up;
}

pub loop-turn-preserved : goal.loop-turn-preserved
loop-turn-preserved c = record {
  empty = c.in_default.ensures.empty;
  links = omega (arith, c.in_default.ensures.links, c.loop-turn.invariant.links);
  order = c.in_default.ensures.order;
  at = λ given plans up.
      let turns = c.args.schedule.now.turns in
      let n = c.loop-turn.turn in
      let below : n < length turns = omega (arith, c.loop-turn-test.true, c.turns-turn-end.ensures.count) in
      let place = place_in turns n below in
      let at = c.loop-turn.invariant.at given plans up in
      next_turn given turns n place.0 c.loop-turn.pair.a c.loop-turn.pair.b c.run_turn.new.pair.a c.run_turn.new.pair.b c.loop-turn.log c.run_turn.new.log
      plans place.1 at (c.in_default.ensures.ok given place.0 at.history place.1 at.up);
}

pub returns-in-Err-clause-err : goal.returns-in-Err-clause-err
returns-in-Err-clause-err c = λ given plans up.
    let turns = c.args.schedule.now.turns in
    let n = c.loop-turn.turn in
    let below : n < length turns = omega (arith, c.loop-turn-test.true, c.turns-turn-end.ensures.count) in
    let place = place_in turns n below in
    let at = c.loop-turn.invariant.at given plans up in
    told given _ _ c.told.ensures (rw c.into_journal.ensures
    (is_fault given turns n place.0 c.loop-turn.pair.a c.loop-turn.pair.b c.loop-turn.log c.run_turn.new.log.entries c.in-Err.stop plans place.1 at
    (c.in-Err.ensures.err given place.0 at.history place.1 at.up)))

pub returns-clause-ok : goal.returns-clause-ok
returns-clause-ok c = λ given plans up.
    let turns = c.args.schedule.now.turns in
    let past : length turns ≤ c.loop-turn.turn = omega (arith, c.loop-turn-test.false, c.turns-turn-end.ensures.count) in
    is_run given turns c.loop-turn.turn c.loop-turn.pair.a c.loop-turn.pair.b c.loop-turn.log c.into_journal-2.result plans past
    c.into_journal-2.ensures (c.loop-turn.invariant.at given plans up)
