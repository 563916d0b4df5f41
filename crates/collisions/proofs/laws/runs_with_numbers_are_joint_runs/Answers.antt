-- The proof of the law `runs_with_numbers_are_joint_runs`.
use Rattle.collisions.proofs.Gaps.{is_run}
use Rattle.collisions.proofs.laws.runs_with_numbers_are_joint_runs.Goals as goal

pub returns : goal.returns
returns c = is_run
