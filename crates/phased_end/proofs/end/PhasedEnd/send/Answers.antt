-- The proof of `PhasedEnd::send`: what is sent can be followed.
use Rattle.std.proofs.Common.{rules, sym, subst}
use Rattle.std.specs.Prelude.{IfSome}
use Rattle.control_part.specs.control_end.Answers.{indication_next}
use Rattle.control_part.specs.control_end.Following.{CanFollow}
use Rattle.keyed_control.specs.KeyedSteps.{Sends}
use Rattle.phased_end.specs.Held.{HeldKeyed}
use Rattle.phased_end.proofs.Entered.{entered_as}
use Rattle.phased_end.proofs.Reached.{reached_as, reached_follows}
use Rattle.phased_end.proofs.end.PhasedEnd.send.Goals as goal

pub send-requires-clause-can_follow : goal.send-requires-clause-can_follow
send-requires-clause-can_follow c =
    subst (λ (h : HeldKeyed). IfSome (indication_next c.args.slot.0 c.is_quiet-quiet.result h.control)
    (CanFollow h.control.track))
    (sym c.self.view_is) (reached_follows c.args.self.now c.requires.reached c.args.slot.0 c.is_quiet-quiet.result)

pub returns-clause-step : goal.returns-clause-step
returns-clause-step c = search (rules)

pub returns-clause-reached : goal.returns-clause-reached
returns-clause-reached c =
    reached_as (Sends c.args.slot.0) c.args.self.now _ tt (returns-clause-step c) c.requires.reached

pub returns-clause-entered : goal.returns-clause-entered
returns-clause-entered c =
    entered_as (Sends c.args.slot.0) c.args.self.now _ tt c.requires.reached
    (returns-clause-step c) c.requires.entered
