-- The proof of `PhasedEnd::take`: what is done part by part is the step.
use Rattle.std.proofs.Common.{◌∙◌}
use Rattle.keyed_control.specs.KeyedSteps.{Takes}
use Rattle.phased_end.specs.Taking.{drawn}
use Rattle.phased_end.proofs.Payloads.{taken_fits}
use Rattle.phased_end.proofs.Entered.{entered_as}
use Rattle.phased_end.proofs.Reached.{reached_as, reached_fits}
use Rattle.phased_end.proofs.Taken.{takes_so}
use Rattle.phased_end.proofs.end.PhasedEnd.take.Goals as goal

pub returns-clause-step : goal.returns-clause-step
returns-clause-step c =
    c.take_by.ensures.step
    ∙ takes_so c.args.read.now c.args.slot.0 c.args.response c.args.self.now
    (reached_fits c.args.self.now c.requires.reached)

pub returns-clause-payloads : goal.returns-clause-payloads
returns-clause-payloads c =
    (taken_fits c.args.slot.0 c.args.response c.args.read.now c.args.self.now _ c.requires.in_range c.requires.reached
    c.take_by.ensures.taken).0

pub returns-clause-kept_payloads : goal.returns-clause-kept_payloads
returns-clause-kept_payloads c =
    (taken_fits c.args.slot.0 c.args.response c.args.read.now c.args.self.now _ c.requires.in_range c.requires.reached
    c.take_by.ensures.taken).1

pub returns-clause-reached : goal.returns-clause-reached
returns-clause-reached c =
    reached_as (Takes c.args.read.now c.args.slot.0 (drawn c.args.response)) c.args.self.now _ c.requires.in_range
    (returns-clause-step c)
    c.requires.reached

pub returns-clause-entered : goal.returns-clause-entered
returns-clause-entered c =
    entered_as (Takes c.args.read.now c.args.slot.0 (drawn c.args.response)) c.args.self.now _ c.requires.in_range c.requires.reached
    (returns-clause-step c) c.requires.entered
