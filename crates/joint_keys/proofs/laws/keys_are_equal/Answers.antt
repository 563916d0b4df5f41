-- The proof of `keys_are_equal`.
use Rattle.std.proofs.Common.{true, refl}
use Rattle.joint_keys.proofs.OneKeys.{one_keyed}
use Rattle.joint_keys.proofs.Opened.{keys_down, keys_up}
use Rattle.joint_keys.proofs.Walking.{here_now}
use Rattle.joint_keys.specs.KeyedJoint.{KeyedJoint, keyed_beginning, keyed_joint_after_all}
use Rattle.joint_keys.proofs.laws.keys_are_equal.Goals as goal

pub returns-clause-down : goal.returns-clause-down
returns-clause-down c =
    λ central_rx peripheral_rx first slot steps item is one running at.
    let s : KeyedJoint = keyed_joint_after_all steps (keyed_beginning central_rx peripheral_rx first slot) in
    let v = one_keyed central_rx peripheral_rx first slot steps is one running in
    keys_down s (here_now central_rx peripheral_rx first slot steps is running) v.vectored.standing item true v.same.equal at refl

pub returns-clause-up : goal.returns-clause-up
returns-clause-up c =
    λ central_rx peripheral_rx first slot steps item is one running at.
    let s : KeyedJoint = keyed_joint_after_all steps (keyed_beginning central_rx peripheral_rx first slot) in
    let v = one_keyed central_rx peripheral_rx first slot steps is one running in
    keys_up s (here_now central_rx peripheral_rx first slot steps is running) v.vectored.standing item true v.same.equal at refl
