-- The proof of `PhasedEnd::take_data`: what is done part by part is the step.
use Rattle.std.proofs.Common.{◌∙◌}
use Rattle.keyed_control.specs.KeyedSteps.{TakesData}
use Rattle.phased_end.proofs.Entered.{entered_as}
use Rattle.phased_end.proofs.Reached.{reached_as, reached_fits}
use Rattle.phased_end.proofs.Taken.{takes_data_so}
use Rattle.phased_end.proofs.end.PhasedEnd.take_data.Goals as goal

pub returns-clause-step : goal.returns-clause-step
returns-clause-step c =
    c.take_data_by.ensures ∙ takes_data_so c.args.self.now (reached_fits c.args.self.now c.requires.reached)

pub returns-clause-reached : goal.returns-clause-reached
returns-clause-reached c = reached_as TakesData c.args.self.now _ tt (returns-clause-step c) c.requires.reached

pub returns-clause-entered : goal.returns-clause-entered
returns-clause-entered c =
    entered_as TakesData c.args.self.now _ tt c.requires.reached
    (returns-clause-step c)
