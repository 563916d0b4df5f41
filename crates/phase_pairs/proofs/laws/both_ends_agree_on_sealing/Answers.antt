-- The proof of `both_ends_agree_on_sealing`.
use Rattle.phase_pairs.proofs.Proved.{sealing_right}
use Rattle.phase_pairs.proofs.laws.both_ends_agree_on_sealing.Goals as goal

pub returns : goal.returns
returns c = sealing_right
