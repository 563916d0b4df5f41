-- The proof of `joint_runs_are_runs_of_phases`.
use Rattle.joint_phases.proofs.Steps.{shows_run}
use Rattle.joint_phases.proofs.laws.joint_runs_are_runs_of_phases.Goals as goal

pub returns : goal.returns
returns c =
    λ central_rx peripheral_rx first slot steps facts running. (shows_run central_rx peripheral_rx first slot steps facts running).shown
