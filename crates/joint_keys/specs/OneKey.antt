-- Hosts of both ends that give one long term key for each encryption (Core 5.2, volume 6 part B, section 5.1.3.1).
use Rattle.std.specs.Prelude.{◌≡◌, Bool, true, false, List, [], ◌∷◌, ⊤}
use Rattle.joint_controls.specs.Joint.{HasKey, JointStep, PeripheralHost}
use Rattle.joint_keys.specs.KeyedJoint.{KeyedJoint, KeyedJointStep, keyed_joint_after}

-- the host of the peripheral gives a key
abbrev pub gives_key : JointStep → Bool
gives_key (PeripheralHost HasKey) = true
gives_key (PeripheralHost step) = false
gives_key step = false

-- the key that the host of the peripheral gives in a step, where it is asked for one, is that with which the host of the
-- central asked for this encryption
abbrev pub IsOneKey : KeyedJointStep → KeyedJoint → Type 0
IsOneKey ks s = gives_key ks.step ≡ true → s.joint.peripheral.asks_key ≡ true → ks.ltk ≡ s.central.material.ltk

-- a fact of each step of a run and of the state before it
abbrev pub EachStep : (KeyedJointStep → KeyedJoint → Type 0) → List KeyedJointStep → KeyedJoint → Type 0
EachStep F [] s = ⊤
EachStep F (ks ∷ steps) s = F ks s × EachStep F steps (keyed_joint_after ks s)

-- in each step of a run
abbrev pub AreOneKey : List KeyedJointStep → KeyedJoint → Type 0
AreOneKey steps s = EachStep IsOneKey steps s
