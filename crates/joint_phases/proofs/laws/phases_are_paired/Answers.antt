-- The proof of `phases_are_paired`.
use Rattle.joint_phases.proofs.Pairing.{phases_paired}
use Rattle.joint_phases.proofs.Steps.{shows_run}
use Rattle.joint_phases.proofs.Waiting.{answered_right, kept_right}
use Rattle.joint_phases.proofs.laws.phases_are_paired.Goals as goal

pub returns : goal.returns
returns c =
    record {
      pairs = λ central_rx peripheral_rx first slot steps facts running.
          phases_paired _ _ (shows_run central_rx peripheral_rx first slot steps facts running);
      answers = λ central_rx peripheral_rx first slot steps facts running.
          answered_right _ _ (shows_run central_rx peripheral_rx first slot steps facts running);
      kept = λ central_rx peripheral_rx first slot steps facts running.
          kept_right _ _ (shows_run central_rx peripheral_rx first slot steps facts running);
    }
