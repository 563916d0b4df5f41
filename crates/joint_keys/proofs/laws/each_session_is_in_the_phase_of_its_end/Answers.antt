-- The proof of `each_session_is_in_the_phase_of_its_end`.
use Rattle.joint_keys.proofs.Vectored.{vectored}
use Rattle.joint_keys.proofs.laws.each_session_is_in_the_phase_of_its_end.Goals as goal

pub returns-clause-central : goal.returns-clause-central
returns-clause-central c =
    λ central_rx peripheral_rx first slot steps is running.
    let here = (vectored central_rx peripheral_rx first slot steps is running).standing.central in
    (here.phase_too, here.role_too)

pub returns-clause-peripheral : goal.returns-clause-peripheral
returns-clause-peripheral c =
    λ central_rx peripheral_rx first slot steps is running.
    let here = (vectored central_rx peripheral_rx first slot steps is running).standing.peripheral in
    (here.phase_too, here.role_too)
