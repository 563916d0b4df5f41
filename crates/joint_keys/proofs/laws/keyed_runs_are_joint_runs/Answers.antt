-- The proof of `keyed_runs_are_joint_runs`.
use Rattle.joint_keys.proofs.JointRuns.{joint_all}
use Rattle.joint_keys.specs.KeyedJoint.{keyed_beginning}
use Rattle.joint_keys.proofs.laws.keyed_runs_are_joint_runs.Goals as goal

pub returns : goal.returns
returns c = λ central_rx peripheral_rx first slot steps. joint_all steps (keyed_beginning central_rx peripheral_rx first slot)
