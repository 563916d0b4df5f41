-- The proof of `both_ends_open_what_the_other_seals`.
use Rattle.joint_keys.proofs.Opened.{opens_down, opens_up}
use Rattle.joint_keys.proofs.Vectored.{vectored}
use Rattle.joint_keys.proofs.Walking.{here_now}
use Rattle.joint_keys.specs.KeyedJoint.{KeyedJoint, keyed_beginning, keyed_joint_after_all}
use Rattle.joint_keys.proofs.laws.both_ends_open_what_the_other_seals.Goals as goal

pub returns-clause-down : goal.returns-clause-down
returns-clause-down c =
    λ central_rx peripheral_rx first slot steps item sealed is running at.
    let s : KeyedJoint = keyed_joint_after_all steps (keyed_beginning central_rx peripheral_rx first slot) in
    let v = vectored central_rx peripheral_rx first slot steps is running in
    opens_down s (here_now central_rx peripheral_rx first slot steps is running) v.standing item sealed v.agreed.vector at

pub returns-clause-up : goal.returns-clause-up
returns-clause-up c =
    λ central_rx peripheral_rx first slot steps item sealed is running at.
    let s : KeyedJoint = keyed_joint_after_all steps (keyed_beginning central_rx peripheral_rx first slot) in
    let v = vectored central_rx peripheral_rx first slot steps is running in
    opens_up s (here_now central_rx peripheral_rx first slot steps is running) v.standing item sealed v.agreed.vector at
