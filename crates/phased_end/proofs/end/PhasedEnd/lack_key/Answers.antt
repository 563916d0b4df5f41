-- The proof of `PhasedEnd::lack_key`: the step is one that may come.
use Rattle.std.proofs.Common.{rules}
use Rattle.keyed_control.specs.KeyedSteps.{LacksKey}
use Rattle.phased_end.proofs.Entered.{entered_as}
use Rattle.phased_end.proofs.Reached.{reached_as}
use Rattle.phased_end.proofs.end.PhasedEnd.lack_key.Goals as goal

pub returns-then-awaits_key-clause-step : goal.returns-then-awaits_key-clause-step
returns-then-awaits_key-clause-step c = search (rules)

pub returns-then-awaits_key-clause-reached : goal.returns-then-awaits_key-clause-reached
returns-then-awaits_key-clause-reached c =
    reached_as LacksKey c.args.self.now _ tt (returns-then-awaits_key-clause-step c) c.requires.reached

pub returns-else-awaits_key-clause-step : goal.returns-else-awaits_key-clause-step
returns-else-awaits_key-clause-step c = search (rules)

pub returns-else-awaits_key-clause-reached : goal.returns-else-awaits_key-clause-reached
returns-else-awaits_key-clause-reached c =
    reached_as LacksKey c.args.self.now _ tt (returns-else-awaits_key-clause-step c) c.requires.reached

pub returns-then-awaits_key-clause-entered : goal.returns-then-awaits_key-clause-entered
returns-then-awaits_key-clause-entered c =
    entered_as LacksKey c.args.self.now _ tt c.requires.reached
    (returns-then-awaits_key-clause-step c)

pub returns-else-awaits_key-clause-entered : goal.returns-else-awaits_key-clause-entered
returns-else-awaits_key-clause-entered c =
    entered_as LacksKey c.args.self.now _ tt c.requires.reached
    (returns-else-awaits_key-clause-step c)
