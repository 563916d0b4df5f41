-- The proof of `PhasedEnd::answer`: the step is one that may come.
use Rattle.std.proofs.Common.{◌<◌, rules, sym, subst}
use Rattle.procedures.specs.procedure_stages.Queue.{waiting_in}
use Rattle.phased_end.specs.Held.{HeldKeyed}
use Rattle.keyed_control.specs.KeyedSteps.{Answers}
use Rattle.phased_end.proofs.Entered.{entered_as}
use Rattle.phased_end.proofs.Reached.{answers_reached, may_answer, reached_room}
use Rattle.phased_end.proofs.end.PhasedEnd.answer.Goals as goal

pub answer-requires-clause-room : goal.answer-requires-clause-room
answer-requires-clause-room c =
    subst (λ (h : HeldKeyed). waiting_in h.control.table.queue < 24) (sym c.self.view_is)
    (reached_room c.args.self.now c.requires.reached)

pub returns-clause-step : goal.returns-clause-step
returns-clause-step c = search (rules)

pub returns-clause-reached : goal.returns-clause-reached
returns-clause-reached c =
    answers_reached c.args.answer c.args.self.now _ c.requires.in_range (returns-clause-step c) c.requires.reached

pub returns-clause-entered : goal.returns-clause-entered
returns-clause-entered c =
    entered_as (Answers c.args.answer) c.args.self.now _ (may_answer c.args.answer c.requires.in_range) c.requires.reached
    (returns-clause-step c)
