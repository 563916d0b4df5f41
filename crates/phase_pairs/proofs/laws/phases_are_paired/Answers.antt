-- The proof of `phases_are_paired`.
use Rattle.phase_pairs.proofs.Proved.{answered, one_kept, paired}
use Rattle.phase_pairs.proofs.laws.phases_are_paired.Goals as goal

pub returns : goal.returns
returns c = record { pairs = paired; answers = answered; kept = one_kept }
