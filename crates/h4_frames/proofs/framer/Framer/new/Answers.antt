-- Proof of `framer::Framer::new`.
use Rattle.std.proofs.Common.{refl}
use Rattle.h4_frames.specs.Frames.{rest}
use Rattle.h4_frames.specs.Machine.{framer_after}
use Rattle.h4_frames.proofs.framer.Framer.new.Goals as goal

pub returns : goal.returns
unfolding framer_after rest
returns c = refl
