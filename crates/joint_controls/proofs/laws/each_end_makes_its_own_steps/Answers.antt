-- The proof of the law `each_end_makes_its_own_steps`.
use Rattle.joint_controls.proofs.EndSteps.{central_runs, peripheral_runs}
use Rattle.joint_controls.proofs.laws.each_end_makes_its_own_steps.Goals as goal
use Rattle.joint_controls.specs.Joint.{beginning}

pub returns-clause-central : goal.returns-clause-central
returns-clause-central c = λ central_rx peripheral_rx first slot steps. central_runs steps (beginning central_rx peripheral_rx first slot)

pub returns-clause-peripheral : goal.returns-clause-peripheral
returns-clause-peripheral c = λ central_rx peripheral_rx first slot steps. peripheral_runs steps (beginning central_rx peripheral_rx first slot)
