-- The proof of `no_link_ends_by_integrity_failure`.
use Rattle.joint_phases.proofs.Steps.{shows_run}
use Rattle.joint_phases.proofs.Unforged.{never_forged}
use Rattle.joint_phases.proofs.laws.no_link_ends_by_integrity_failure.Goals as goal

pub returns : goal.returns
returns c =
    λ central_rx peripheral_rx first slot steps step facts running here.
    never_forged _ _ (shows_run central_rx peripheral_rx first slot steps facts) running here step
