-- The proof of `PhasedEnd::ask`: the step is one that may come.
use Rattle.std.proofs.Common.{rules}
use Rattle.keyed_control.specs.KeyedSteps.{Asks}
use Rattle.phased_end.proofs.Entered.{entered_as}
use Rattle.phased_end.proofs.Reached.{reached_as}
use Rattle.phased_end.proofs.end.PhasedEnd.ask.Goals as goal

pub returns-clause-step : goal.returns-clause-step
returns-clause-step c = search (rules)

pub returns-clause-reached : goal.returns-clause-reached
returns-clause-reached c =
    reached_as (Asks c.args.ask) c.args.self.now _ c.requires.in_range (returns-clause-step c) c.requires.reached

pub returns-clause-entered : goal.returns-clause-entered
returns-clause-entered c =
    entered_as (Asks c.args.ask) c.args.self.now _ c.requires.in_range c.requires.reached
    (returns-clause-step c)
