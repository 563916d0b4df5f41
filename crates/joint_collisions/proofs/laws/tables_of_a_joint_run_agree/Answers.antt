-- The proof of the law `tables_of_a_joint_run_agree`.
use Rattle.joint_controls.specs.Joint.{after_all, beginning}
use Rattle.joint_collisions.proofs.Agreeing.{agrees}
use Rattle.joint_collisions.proofs.Runs.{walk}
use Rattle.joint_collisions.proofs.laws.tables_of_a_joint_run_agree.Goals as goal

pub returns : goal.returns
returns c =
    λ central_rx peripheral_rx first slot steps latency range facts runs.
    agrees (after_all steps (beginning central_rx peripheral_rx first slot))
    ((walk central_rx peripheral_rx first slot latency steps range facts).holds runs).seen.reached
