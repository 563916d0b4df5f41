-- What the laws of joint runs ask of the hosts (Core 5.2, volume 6 part B, section 4.5.2).
use Rattle.std.specs.Prelude.{◌≤◌, List}
use Rattle.instants.specs.declared.indications.Params.{Params}
use Rattle.joint_parameters.specs.joint_controls.Ends.{AreStepsInRange}
use Rattle.joint_parameters.specs.joint_controls.Joint.{JointStep}

-- the latency that the link begins with is in its range, and so is what the hosts ask
pub record IsRun (first : Params) (steps : List JointStep) : Type 0 where
  pub latency : first.latency ≤ 499
  pub in_range : AreStepsInRange steps
