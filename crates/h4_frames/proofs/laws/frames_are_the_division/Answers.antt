-- Proof of `laws::frames_are_the_division`.
use Rattle.h4_frames.proofs.Framings.{division}
use Rattle.h4_frames.proofs.laws.frames_are_the_division.Goals as goal

pub returns : goal.returns
returns c = division
