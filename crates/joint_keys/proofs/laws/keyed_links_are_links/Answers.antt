-- The proof of `keyed_links_are_links`.
use Rattle.joint_laws.specs.joint_parameters.Turns.{first_link}
use Rattle.joint_keys.proofs.KeyedLinks.{keys_joint, steps_of_link}
use Rattle.joint_keys.proofs.laws.keyed_links_are_links.Goals as goal

pub returns-clause-steps : goal.returns-clause-steps
returns-clause-steps c =
    λ central_rx peripheral_rx first slot turns steps. steps_of_link steps (first_link central_rx peripheral_rx first slot turns)

pub returns-clause-joint : goal.returns-clause-joint
returns-clause-joint c = λ central_rx peripheral_rx first slot turns steps. keys_joint central_rx peripheral_rx first slot turns steps
