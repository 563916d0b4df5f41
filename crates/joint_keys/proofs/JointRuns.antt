-- A joint run with keys is a joint run; one list of its steps after another.
use Rattle.std.proofs.Common.{◌≡◌, Bool, true, false, if◌then◌else◌, List, [], ◌∷◌, ◌++◌, refl, ap, ◌∙◌}
use Rattle.joint_controls.specs.Joint.{Joint, after, after_all, may}
use Rattle.joint_keys.specs.KeyedJoint.{KeyedJoint, KeyedJointStep, keyed_act, keyed_joint_after, keyed_joint_after_all, steps_of}

pub joint_once : (ks : KeyedJointStep) (s : KeyedJoint) → (keyed_joint_after ks s).joint ≡ after ks.step s.joint
joint_once ks s = by (may ks.step s.joint)
  where
    by : (b : Bool) → (if b then keyed_act ks s else s).joint ≡ (if b then (keyed_act ks s).joint else s.joint)
    by true = refl
    by false = refl

pub joint_all : (steps : List KeyedJointStep) (s : KeyedJoint) → (keyed_joint_after_all steps s).joint ≡ after_all (steps_of steps) s.joint
joint_all [] s = refl
joint_all (ks ∷ steps) s =
    joint_all steps (keyed_joint_after ks s) ∙ ap (λ (t : Joint). after_all (steps_of steps) t) (joint_once ks s)

pub runs_joined : (xs ys : List KeyedJointStep) (s : KeyedJoint) → keyed_joint_after_all (xs ++ ys) s ≡ keyed_joint_after_all ys (keyed_joint_after_all xs s)
runs_joined [] ys s = refl
runs_joined (x ∷ xs) ys s = runs_joined xs ys (keyed_joint_after x s)
