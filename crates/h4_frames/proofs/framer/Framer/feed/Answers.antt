-- Proof of `framer::Framer::feed`.
use Rattle.std.proofs.Common.{◌∙◌}
use Rattle.h4_frames.proofs.Feeding.{feeds}
use Rattle.h4_frames.proofs.framer.Framer.feed.Goals as goal

pub returns-clause-frames : goal.returns-clause-frames
returns-clause-frames c = λ past is. (feeds past c.args.octet _ _ _ (c.self.view_is ∙ is) c.step.ensures.step).frames

pub returns-clause-framer_after : goal.returns-clause-framer_after
returns-clause-framer_after c = λ past is. (feeds past c.args.octet _ _ _ (c.self.view_is ∙ is) c.step.ensures.step).framer_after

pub returns-clause-lost : goal.returns-clause-lost
returns-clause-lost c = λ past is. (feeds past c.args.octet _ _ _ (c.self.view_is ∙ is) c.step.ensures.step).lost
