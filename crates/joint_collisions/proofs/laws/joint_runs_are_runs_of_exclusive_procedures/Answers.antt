-- The proof of the law `joint_runs_are_runs_of_exclusive_procedures`.
use Rattle.joint_collisions.proofs.Runs.{walk}
use Rattle.joint_collisions.proofs.laws.joint_runs_are_runs_of_exclusive_procedures.Goals as goal

pub returns : goal.returns
returns c =
    λ central_rx peripheral_rx first slot steps latency range facts runs.
    ((walk central_rx peripheral_rx first slot latency steps range facts).holds runs).seen.reached
