-- The proof of `no_forbidden_pdu_is_taken`.
use Rattle.phase_pairs.proofs.Proved.{step_right}
use Rattle.phase_pairs.proofs.laws.no_forbidden_pdu_is_taken.Goals as goal

pub returns : goal.returns
returns c = step_right
