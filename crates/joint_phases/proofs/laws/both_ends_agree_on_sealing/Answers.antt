-- The proof of `both_ends_agree_on_sealing`.
use Rattle.joint_phases.proofs.Agreeing.{sealing_agreed}
use Rattle.joint_phases.proofs.Steps.{shows_run}
use Rattle.joint_phases.proofs.laws.both_ends_agree_on_sealing.Goals as goal

pub returns : goal.returns
returns c =
    λ central_rx peripheral_rx first slot steps facts running.
    sealing_agreed _ _ (shows_run central_rx peripheral_rx first slot steps facts running)
