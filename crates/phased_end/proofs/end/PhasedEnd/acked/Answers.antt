-- The proof of `PhasedEnd::acked`: the step is one that may come.
use Rattle.std.proofs.Common.{rules}
use Rattle.keyed_control.specs.KeyedSteps.{SeesAcknowledged}
use Rattle.phased_end.proofs.Entered.{entered_as}
use Rattle.phased_end.proofs.Reached.{reached_as}
use Rattle.phased_end.proofs.end.PhasedEnd.acked.Goals as goal

pub returns-then-asks-clause-step : goal.returns-then-asks-clause-step
returns-then-asks-clause-step c = search (rules)

pub returns-then-asks-clause-reached : goal.returns-then-asks-clause-reached
returns-then-asks-clause-reached c =
    reached_as SeesAcknowledged c.args.self.now _ tt (returns-then-asks-clause-step c) c.requires.reached

pub returns-else-asks-clause-step : goal.returns-else-asks-clause-step
returns-else-asks-clause-step c = search (rules)

pub returns-else-asks-clause-reached : goal.returns-else-asks-clause-reached
returns-else-asks-clause-reached c =
    reached_as SeesAcknowledged c.args.self.now _ tt (returns-else-asks-clause-step c) c.requires.reached

pub returns-then-asks-clause-entered : goal.returns-then-asks-clause-entered
returns-then-asks-clause-entered c =
    entered_as SeesAcknowledged c.args.self.now _ tt c.requires.reached
    (returns-then-asks-clause-step c)

pub returns-else-asks-clause-entered : goal.returns-else-asks-clause-entered
returns-else-asks-clause-entered c =
    entered_as SeesAcknowledged c.args.self.now _ tt c.requires.reached
    (returns-else-asks-clause-step c)
