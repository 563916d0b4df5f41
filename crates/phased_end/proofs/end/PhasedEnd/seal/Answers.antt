-- The proof of `PhasedEnd::seal`: the step is one that may come.
use Rattle.std.proofs.Common.{rules}
use Rattle.keyed_control.specs.KeyedSteps.{Seals}
use Rattle.phased_end.proofs.Reached.{reached_as}
use Rattle.phased_end.proofs.end.PhasedEnd.seal.Goals as goal

pub returns-clause-step : goal.returns-clause-step
returns-clause-step c = search (rules)

pub returns-clause-reached : goal.returns-clause-reached
returns-clause-reached c =
    reached_as (Seals c.args.header c.args.body.now) c.args.self.now _ tt (returns-clause-step c) c.requires.reached
