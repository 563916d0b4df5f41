-- Proof of `laws::results_are_the_frames`.
use Rattle.h4_frames.proofs.Growing.{frames_cut}
use Rattle.h4_frames.proofs.laws.results_are_the_frames.Goals as goal

pub returns : goal.returns
returns c = frames_cut
