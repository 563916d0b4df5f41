-- Facts of each step of a run: of two lists of steps one after the other, and of steps in which no key is given.
use Rattle.std.proofs.Common.{◌≡◌, Bool, true, false, not, ◌&&◌, List, [], ◌∷◌, ◌++◌}
use Rattle.std.proofs.lemmas.Bool.{and_parts}
use Rattle.joint_controls.specs.Joint.{JointStep}
use Rattle.joint_keys.specs.KeyedJoint.{KeyedJoint, KeyedJointStep, keyed_joint_after, keyed_joint_after_all}
use Rattle.joint_keys.specs.OneKey.{AreOneKey, EachStep, gives_key}
use Rattle.joint_keys.specs.Worked.{keyless}

module _ (F : KeyedJointStep → KeyedJoint → Type 0) where
  pub each_joined : (xs ys : List KeyedJointStep) (s : KeyedJoint) → EachStep F xs s → EachStep F ys (keyed_joint_after_all xs s) → EachStep F (xs ++ ys) s
  each_joined [] ys s one other = other
  each_joined (x ∷ xs) ys s one other = (one.0, each_joined xs ys (keyed_joint_after x s) one.1 other)

  pub each_later : (xs ys : List KeyedJointStep) (s : KeyedJoint) → EachStep F (xs ++ ys) s → EachStep F ys (keyed_joint_after_all xs s)
  each_later [] ys s all = all
  each_later (x ∷ xs) ys s all = each_later xs ys (keyed_joint_after x s) all.1

abbrev pub give_none : List JointStep → Bool
give_none [] = true
give_none (step ∷ steps) = not (gives_key step) && give_none steps

not_true : (b : Bool) {A : Type 0} → not b ≡ true → b ≡ true → A
not_true true none is = absurd (cc)
not_true false none is = absurd (cc)

pub keyless_one : (steps : List JointStep) (s : KeyedJoint) → give_none steps ≡ true → AreOneKey (keyless steps) s
keyless_one [] s none = tt
keyless_one (step ∷ steps) s none =
    let both = and_parts (not (gives_key step)) (give_none steps) none in
    (λ is key. not_true (gives_key step) both.0 is, keyless_one steps (keyed_joint_after (record { step = step; ltk = [] }) s) both.1)
