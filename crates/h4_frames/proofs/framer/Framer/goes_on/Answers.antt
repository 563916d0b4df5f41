-- Proof of `framer::Framer::goes_on`.
use Rattle.std.proofs.Common.{◌∙◌}
use Rattle.h4_frames.proofs.Feeding.{ends_add, feeds}
use Rattle.h4_frames.proofs.framer.Framer.goes_on.Goals as goal

pub returns-clause-on : goal.returns-clause-on
returns-clause-on c = λ past is more. (feeds past c.args.octet _ _ _ (c.self.view_is ∙ is) (c.goes_on.ensures.on more)).frames

pub returns-clause-framer_after : goal.returns-clause-framer_after
returns-clause-framer_after c = λ past is more. (feeds past c.args.octet _ _ _ (c.self.view_is ∙ is) (c.goes_on.ensures.on more)).framer_after

pub returns-clause-ends : goal.returns-clause-ends
returns-clause-ends c = λ past is ended. ends_add past c.args.octet _ (c.self.view_is ∙ is) (c.goes_on.ensures.ends ended)
