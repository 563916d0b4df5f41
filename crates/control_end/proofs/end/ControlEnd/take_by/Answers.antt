-- The proof of `ControlEnd::take_by`: the table ends the link, or the two parts fit together after it.
use Rattle.std.proofs.Common.{sym, ◌∙◌}
use Rattle.control_end.proofs.Handing.{ends_fits, ends_step, goes_fits, goes_step, goes_taken}
use Rattle.control_end.proofs.end.ControlEnd.take_by.Goals as goal

pub invariant_of-self : goal.invariant_of-self
invariant_of-self c =
    ends_fits c.args.read.now c.args.slot.0 c.args.quiet _ c.args.self.now
    c.self.invariant c.self.view_is _ c.took-step.ensures (sym c.if-is_some.ensures)

pub returns-then-is_some-clause-step : goal.returns-then-is_some-clause-step
returns-then-is_some-clause-step c =
    ends_step c.args.read.now c.args.slot.0 c.args.quiet _ c.args.self.now
    c.self.invariant c.self.view_is _ c.took-step.ensures c.requires.goes_on (sym c.if-is_some.ensures)

pub invariant_of-self-2 : goal.invariant_of-self-2
invariant_of-self-2 c =
    goes_fits c.args.read.now c.args.slot.0 c.args.quiet _ c.args.self.now
    c.self.invariant c.self.view_is _ c.took-step.ensures c.args.track (sym c.if-is_some.ensures) c.requires.track

pub returns-clause-step : goal.returns-clause-step
returns-clause-step c =
    goes_step c.args.read.now c.args.slot.0 c.args.quiet _ c.args.self.now
    c.self.invariant c.self.view_is _ c.took-step.ensures c.args.track (sym c.if-is_some.ensures) c.requires.track
    c.requires.goes_on

pub returns-clause-taken : goal.returns-clause-taken
returns-clause-taken c =
    c.step_shown.ensures
    ∙ goes_taken c.args.read.now c.args.slot.0 c.args.quiet _ c.args.self.now
    c.self.invariant c.self.view_is _ c.took-step.ensures c.args.track (sym c.if-is_some.ensures) c.requires.track
    c.requires.goes_on
