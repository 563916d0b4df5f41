-- Proof of `controls::answer`.
use Rattle.std.proofs.Common.{refl}
use Rattle.keyed_control.specs.KeyedSteps.{Answers}
use Rattle.link_end.proofs.Reaching.{stays_less}
use Rattle.link_end.proofs.controls.answer.Goals as goal

pub returns-clause-sent : goal.returns-clause-sent
returns-clause-sent c = (stays_less (Answers c.args.answer) c.args.control.now _ refl c.answer.ensures.step).sent

pub returns-clause-opened : goal.returns-clause-opened
returns-clause-opened c = (stays_less (Answers c.args.answer) c.args.control.now _ refl c.answer.ensures.step).opened
