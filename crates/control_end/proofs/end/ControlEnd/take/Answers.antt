-- The proof of `ControlEnd::take`: an indication whose Instant has passed ends the link.
use Rattle.std.proofs.Common.{sym, ◌∙◌}
use Rattle.control_end.proofs.Handing.{passed_step, passed_taken}
use Rattle.control_end.proofs.end.ControlEnd.take.Goals as goal

pub returns-in_default-clause-step : goal.returns-in_default-clause-step
returns-in_default-clause-step c =
    passed_step c.args.read.now c.args.slot.0 c.args.quiet _ c.args.self.now
    c.self.invariant c.self.view_is (sym c.if-is_some.ensures) (sym c.track_after.ensures ∙ c.in_default.is)

pub returns-in_default-clause-taken : goal.returns-in_default-clause-taken
returns-in_default-clause-taken c =
    c.nothing_taken-in_default.ensures
    ∙ passed_taken c.args.read.now c.args.slot.0 c.args.quiet _ c.args.self.now
    c.self.invariant c.self.view_is (sym c.if-is_some.ensures) (sym c.track_after.ensures ∙ c.in_default.is)
