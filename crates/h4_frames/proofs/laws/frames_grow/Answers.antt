-- Proof of `laws::frames_grow`.
use Rattle.h4_frames.proofs.Growing.{frames_more}
use Rattle.h4_frames.proofs.laws.frames_grow.Goals as goal

pub returns : goal.returns
returns c = frames_more
