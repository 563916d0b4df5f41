-- Proof of `turns::open_turn`.
use Rattle.run_model.specs.Pair.{plan_of}
use Rattle.pair_world.specs.Turns.{after_feeding}
use Rattle.pair_world.proofs.Outcomes.{on_ok_more}
use Rattle.pair_world.proofs.WholeTurns.{opened}
use Rattle.pair_world.proofs.turns.open_turn.Goals as goal

pub returns-clause-ok : goal.returns-clause-ok
returns-clause-ok c =
    on_ok_more c.begin_both.result _ _ (λ begin given plan history there up.
    opened given c.args.number plan history c.begin_both.new.pair.a c.begin_both.new.pair.b c.begin_both.new.log
    c.begin_both.new.wanted.a c.begin_both.new.wanted.b
    (begin given plan (after_feeding given c.args.number (plan_of plan) history) there
    (c.in_ok-feed_both.ensures.ok given plan history there up)))
    c.begin_both.ensures.ok
