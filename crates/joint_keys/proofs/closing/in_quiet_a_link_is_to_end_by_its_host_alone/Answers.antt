-- The proof of `in_quiet_a_link_is_to_end_by_its_host_alone`.
use Rattle.joint_keys.proofs.Closings.{goes_alike_now}
use Rattle.joint_keys.proofs.closing.in_quiet_a_link_is_to_end_by_its_host_alone.Goals as goal

pub returns-clause-central : goal.returns-clause-central
returns-clause-central c =
    λ central_rx peripheral_rx first slot steps is running. (goes_alike_now central_rx peripheral_rx first slot steps is running).0

pub returns-clause-peripheral : goal.returns-clause-peripheral
returns-clause-peripheral c =
    λ central_rx peripheral_rx first slot steps is running. (goes_alike_now central_rx peripheral_rx first slot steps is running).1
