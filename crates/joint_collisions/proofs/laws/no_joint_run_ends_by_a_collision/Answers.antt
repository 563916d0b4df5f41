-- The proof of the law `no_joint_run_ends_by_a_collision`.
use Rattle.joint_collisions.proofs.Runs.{walk}
use Rattle.joint_collisions.proofs.laws.no_joint_run_ends_by_a_collision.Goals as goal

pub returns-clause-central : goal.returns-clause-central
returns-clause-central c =
    λ central_rx peripheral_rx first slot steps latency range facts.
    (walk central_rx peripheral_rx first slot latency steps range facts).central_never

pub returns-clause-peripheral : goal.returns-clause-peripheral
returns-clause-peripheral c =
    λ central_rx peripheral_rx first slot steps latency range facts.
    (walk central_rx peripheral_rx first slot latency steps range facts).peripheral_never
