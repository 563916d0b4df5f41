-- The proof of `no_forbidden_pdu_is_taken`.
use Rattle.std.proofs.lemmas.Bool.{and_parts}
use Rattle.joint_phases.proofs.Agreeing.{taken_right}
use Rattle.joint_phases.proofs.Steps.{shows_run}
use Rattle.joint_phases.proofs.laws.no_forbidden_pdu_is_taken.Goals as goal

pub returns : goal.returns
returns c =
    λ central_rx peripheral_rx first slot steps step facts here may.
    let both = and_parts _ _ may in
    taken_right _ _ (shows_run central_rx peripheral_rx first slot steps facts both.0) both.0 here step both.1
