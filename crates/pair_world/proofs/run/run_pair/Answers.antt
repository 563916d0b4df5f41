-- Proof of `run::run_pair`.
use Rattle.std.proofs.Common.{refl}
use Rattle.run_model.specs.Pair.{given_of}
use Rattle.pair_world.proofs.Outcomes.{if_err_more, if_ok_more}
use Rattle.pair_world.proofs.run.run_pair.Goals as goal

pub returns-clause-ok : goal.returns-clause-ok
returns-clause-ok c =
    if_ok_more c.run_turns.result _ _
    (λ journal is. is (given_of c.args.a.now c.args.b.now c.args.schedule.now) refl c.in_ok-pair.ensures.up) c.run_turns.ensures.ok

pub returns-clause-err : goal.returns-clause-err
returns-clause-err c =
    if_err_more c.run_turns.result _ _
    (λ fault is. is (given_of c.args.a.now c.args.b.now c.args.schedule.now) refl c.in_ok-pair.ensures.up) c.run_turns.ensures.err
