-- The proof of the law `an_end_moves_by_phased_steps`.
use Rattle.keyed_control.proofs.Phases.{moves}
use Rattle.keyed_control.proofs.laws.an_end_moves_by_phased_steps.Goals as goal

pub returns : goal.returns
returns c = moves
