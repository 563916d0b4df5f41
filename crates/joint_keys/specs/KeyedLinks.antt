-- A link by turns and packets with the keys of both ends: its steps are those of a joint run with keys (Core 5.2, volume 6
-- part B, section 5.1.3).
use Rattle.std.specs.Prelude.{ℕ, List, [], ◌∷◌, ◌++◌}
use Rattle.instants.specs.declared.indications.Params.{Params}
use Rattle.joint_laws.specs.joint_controls.Joint.{JointStep}
use Rattle.joint_laws.specs.joint_parameters.Turns.{Link, LinkStep, first_link, joint_steps, link_after}
use Rattle.joint_keys.specs.KeyedJoint.{KeyedJoint, KeyedJointStep, keyed_beginning, keyed_joint_after_all}

-- a step of a link, with the long term key that the host of the peripheral gives in it, if it gives one
pub record KeyedLinkStep : Type 0 where
  pub step : LinkStep
  pub ltk : List ℕ

-- the steps without the keys
abbrev pub link_steps : List KeyedLinkStep → List LinkStep
link_steps [] = []
link_steps (ks ∷ more) = ks.step ∷ link_steps more

-- each of these steps with this key
abbrev pub with_ltk : List ℕ → List JointStep → List KeyedJointStep
with_ltk ltk [] = []
with_ltk ltk (step ∷ steps) = record { step = step; ltk = ltk } ∷ with_ltk ltk steps

-- what a step is in the joint run with keys
abbrev pub keyed_steps : KeyedLinkStep → Link → List KeyedJointStep
keyed_steps ks l = with_ltk ks.ltk (joint_steps ks.step l)

abbrev pub all_keyed_steps : List KeyedLinkStep → Link → List KeyedJointStep
all_keyed_steps [] l = []
all_keyed_steps (ks ∷ more) l = keyed_steps ks l ++ all_keyed_steps more (link_after ks.step l)

-- both ends of a link with their keys after one step, and after all steps from these on
abbrev pub keys_in_step : KeyedLinkStep → Link → KeyedJoint → KeyedJoint
keys_in_step ks l k = keyed_joint_after_all (keyed_steps ks l) k

abbrev pub keys_from : List KeyedLinkStep → Link → KeyedJoint → KeyedJoint
keys_from steps l k = keyed_joint_after_all (all_keyed_steps steps l) k

-- the same of a link that begins after this many turns
abbrev pub keys_of : ℕ → ℕ → Params → ℕ → ℕ → List KeyedLinkStep → KeyedJoint
keys_of central_rx peripheral_rx first slot turns steps =
    keys_from steps (first_link central_rx peripheral_rx first slot turns) (keyed_beginning central_rx peripheral_rx first slot)
