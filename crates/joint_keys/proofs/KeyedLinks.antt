-- A link with its keys: its joint part is that of the link, and one step follows another.
use Rattle.std.proofs.Common.{◌≡◌, ℕ, List, [], ◌∷◌, ◌++◌, refl, sym, ap, ◌∙◌}
use Rattle.instants.specs.declared.indications.Params.{Params}
use Rattle.joint_laws.specs.joint_controls.Joint.{JointStep, after_all}
use Rattle.joint_laws.specs.joint_parameters.Turns.{Link, LinkStep, all_joint_steps, first_link, joint_steps, link_after, link_after_all}
use Rattle.joint_laws.proofs.joint_parameters.Runs.{after_joined}
use Rattle.joint_keys.specs.KeyedJoint.{KeyedJoint, KeyedJointStep, steps_of}
use Rattle.joint_keys.specs.KeyedLinks.{KeyedLinkStep, all_keyed_steps, keyed_steps, keys_from, keys_in_step, keys_of, link_steps, with_ltk}
use Rattle.joint_keys.proofs.JointRuns.{joint_all, runs_joined}

-- ---- lists of steps

steps_joined : (xs ys : List KeyedJointStep) → steps_of (xs ++ ys) ≡ steps_of xs ++ steps_of ys
steps_joined [] ys = refl
steps_joined (x ∷ xs) ys = ap (λ (steps : List JointStep). x.step ∷ steps) (steps_joined xs ys)

pub steps_with_ltk : (ltk : List ℕ) (steps : List JointStep) → steps_of (with_ltk ltk steps) ≡ steps
steps_with_ltk ltk [] = refl
steps_with_ltk ltk (step ∷ steps) = ap (λ (more : List JointStep). step ∷ more) (steps_with_ltk ltk steps)

-- the joint run with keys has the steps of the joint run
pub steps_of_link : (steps : List KeyedLinkStep) (l : Link) → steps_of (all_keyed_steps steps l) ≡ all_joint_steps (link_steps steps) l
steps_of_link [] l = refl
steps_of_link (ks ∷ more) l =
    steps_joined (keyed_steps ks l) (all_keyed_steps more (link_after ks.step l))
    ∙ (λ i. steps_with_ltk ks.ltk (joint_steps ks.step l) i ++ steps_of_link more (link_after ks.step l) i)

pub link_steps_joined : (xs ys : List KeyedLinkStep) → link_steps (xs ++ ys) ≡ link_steps xs ++ link_steps ys
link_steps_joined [] ys = refl
link_steps_joined (x ∷ xs) ys = ap (λ (steps : List LinkStep). x.step ∷ steps) (link_steps_joined xs ys)

-- ---- one list after another

pub keys_joined : (xs ys : List KeyedLinkStep) (l : Link) (k : KeyedJoint)
    → keys_from (xs ++ ys) l k ≡ keys_from ys (link_after_all (link_steps xs) l) (keys_from xs l k)
keys_joined [] ys l k = refl
keys_joined (x ∷ xs) ys l k =
    runs_joined (keyed_steps x l) (all_keyed_steps (xs ++ ys) (link_after x.step l)) k
    ∙ keys_joined xs ys (link_after x.step l) (keys_in_step x l k)
    ∙ ap (λ (j : KeyedJoint). keys_from ys (link_after_all (link_steps (x ∷ xs)) l) j) (sym (runs_joined (keyed_steps x l) (all_keyed_steps xs (link_after x.step l)) k))

pub keys_one : (ks : KeyedLinkStep) (l : Link) (k : KeyedJoint) → keys_from (ks ∷ []) l k ≡ keys_in_step ks l k
keys_one ks l k = runs_joined (keyed_steps ks l) [] k

-- a link after one step more
pub keys_more : (steps : List KeyedLinkStep) (ks : KeyedLinkStep) (l : Link) (k : KeyedJoint)
    → keys_from (steps ++ ks ∷ []) l k ≡ keys_in_step ks (link_after_all (link_steps steps) l) (keys_from steps l k)
keys_more steps ks l k =
    keys_joined steps (ks ∷ []) l k ∙ keys_one ks (link_after_all (link_steps steps) l) (keys_from steps l k)

-- ---- its joint part

link_joint : (steps : List LinkStep) (l : Link) → (link_after_all steps l).joint ≡ after_all (all_joint_steps steps l) l.joint
link_joint [] l = refl
link_joint (step ∷ steps) l =
    link_joint steps (link_after step l) ∙ sym (after_joined (joint_steps step l) (all_joint_steps steps (link_after step l)) l.joint)

-- both are one joint run, whatever steps may come
pub joint_in_step : (ks : KeyedLinkStep) (l : Link) (k : KeyedJoint) → k.joint ≡ l.joint → (keys_in_step ks l k).joint ≡ (link_after ks.step l).joint
joint_in_step ks l k is =
    joint_all (keyed_steps ks l) k ∙ (λ i. after_all (steps_with_ltk ks.ltk (joint_steps ks.step l) i) (is i))

pub joint_from : (steps : List KeyedLinkStep) (l : Link) (k : KeyedJoint) → k.joint ≡ l.joint
    → (keys_from steps l k).joint ≡ (link_after_all (link_steps steps) l).joint
joint_from steps l k is =
    joint_all (all_keyed_steps steps l) k ∙ (λ i. after_all (steps_of_link steps l i) (is i)) ∙ sym (link_joint (link_steps steps) l)

pub keys_joint : (central_rx peripheral_rx : ℕ) (first : Params) (slot turns : ℕ) (steps : List KeyedLinkStep)
    → (keys_of central_rx peripheral_rx first slot turns steps).joint
    ≡ (link_after_all (link_steps steps) (first_link central_rx peripheral_rx first slot turns)).joint
keys_joint central_rx peripheral_rx first slot turns steps = joint_from steps (first_link central_rx peripheral_rx first slot turns) _ refl
