-- The keys of one end in the steps of a joint run that may come.
use Rattle.std.proofs.Common.{◌≡◌, ℕ, Bool, true, false, List, [], ◌∷◌, ◌++◌, Option, refl, sym, ap, ◌∙◌, subst, if◌then◌else◌}
use Rattle.std.proofs.lemmas.Bool.{and_parts}
use Rattle.ble_base.specs.declared.roles.Role.{Role}
use Rattle.ble_base.specs.declared.roles.Role.TheVariants.{Central, Peripheral}
use Rattle.joint_laws.specs.joint_controls.phased_control.Phased.{Phased}
use Rattle.joint_laws.specs.joint_controls.phased_control.Taken.{Response}
use Rattle.joint_laws.specs.joint_controls.Joint.{CentralAcked, CentralEnters, CentralTakes, Item, Joint, JointStep, PeripheralAcked, PeripheralEnters, PeripheralTakes, act, after, after_all, item_on_air, may, may_all, no_response}
use Rattle.joint_laws.specs.joint_parameters.Turns.{Fixing, FixesControl, FixesData, FixesNothing, fixing_steps, step_if}
use Rattle.joint_keys.specs.KeyedJoint.{KeyedJoint, KeyedJointStep, Keys, central_keys_after, keyed_act, keyed_joint_after_all, keys_after, keys_taking, peripheral_keys_after}
use Rattle.joint_keys.specs.KeyedLinks.{with_ltk}
use Rattle.link_model.specs.keyed_control.KeyedSteps.{Enters, SeesAcknowledged}

-- ---- one end

abbrev pub keys_on : Role → KeyedJoint → Keys
keys_on Central k = k.central
keys_on Peripheral k = k.peripheral

abbrev pub keys_once : Role → JointStep → List ℕ → Joint → Keys → Keys
keys_once Central step ltk s keys = central_keys_after step ltk s keys
keys_once Peripheral step ltk s keys = peripheral_keys_after step ltk s keys

-- after steps that may come
abbrev pub keys_all : Role → List JointStep → List ℕ → Joint → Keys → Keys
keys_all role [] ltk s keys = keys
keys_all role (step ∷ steps) ltk s keys = keys_all role steps ltk (after step s) (keys_once role step ltk s keys)

pub all_joined : (role : Role) (xs ys : List JointStep) (ltk : List ℕ) (s : Joint) (keys : Keys)
    → keys_all role (xs ++ ys) ltk s keys ≡ keys_all role ys ltk (after_all xs s) (keys_all role xs ltk s keys)
all_joined role [] ys ltk s keys = refl
all_joined role (step ∷ xs) ys ltk s keys = all_joined role xs ys ltk (after step s) (keys_once role step ltk s keys)

-- ---- a joint run with keys

acts_at : (role : Role) (ks : KeyedJointStep) (k : KeyedJoint) → keys_on role (keyed_act ks k) ≡ keys_once role ks.step ks.ltk k.joint (keys_on role k)
acts_at Central ks k = refl
acts_at Peripheral ks k = refl

module _ (role : Role) (ltk : List ℕ) where
  goes_from : (steps : List JointStep) (k : KeyedJoint) → may_all steps k.joint ≡ true
      → keys_on role (keyed_joint_after_all (with_ltk ltk steps) k) ≡ keys_all role steps ltk k.joint (keys_on role k)
  goes_from [] k comes = refl
  goes_from (step ∷ steps) k comes =
      let ks : KeyedJointStep = record { step = step; ltk = ltk } in
      let parts = and_parts (may step k.joint) (may_all steps (after step k.joint)) comes in
      let acts : after step k.joint ≡ act step k.joint = ap (λ (b : Bool). if b then act step k.joint else k.joint) parts.0 in
      ap (λ (b : Bool). keys_on role (keyed_joint_after_all (with_ltk ltk steps) (if b then keyed_act ks k else k))) parts.0
      ∙ goes_from steps (keyed_act ks k) (subst (λ (s : Joint). may_all steps s ≡ true) acts parts.1)
      ∙ λ i. keys_all role steps ltk (sym acts i) (acts_at role ks k i)

  pub keys_go : (steps : List JointStep) (k : KeyedJoint) (s : Joint) → k.joint ≡ s → may_all steps s ≡ true
      → keys_on role (keyed_joint_after_all (with_ltk ltk steps) k) ≡ keys_all role steps ltk s (keys_on role k)
  keys_go steps k s is comes =
      goes_from steps k (subst (λ (t : Joint). may_all steps t ≡ true) (sym is) comes)
      ∙ ap (λ (t : Joint). keys_all role steps ltk t (keys_on role k)) is

-- ---- the steps of the other end change nothing

module _ (ltk : List ℕ) (s : Joint) (keys : Keys) where
  pub central_apart : (acks takes : Bool) (fixing : Fixing) (slot : ℕ) (response : Response)
      → keys_all Central ((step_if acks PeripheralAcked ++ fixing_steps fixing slot) ++ step_if takes (PeripheralTakes slot response)) ltk s keys ≡ keys
  central_apart acks takes fixing slot response =
      all_joined Central (step_if acks PeripheralAcked ++ fixing_steps fixing slot) (step_if takes (PeripheralTakes slot response)) ltk s keys
      ∙ last takes (after_all (step_if acks PeripheralAcked ++ fixing_steps fixing slot) s)
      (keys_all Central (step_if acks PeripheralAcked ++ fixing_steps fixing slot) ltk s keys)
      ∙ all_joined Central (step_if acks PeripheralAcked) (fixing_steps fixing slot) ltk s keys
      ∙ fixes fixing (after_all (step_if acks PeripheralAcked) s) (keys_all Central (step_if acks PeripheralAcked) ltk s keys)
      ∙ first acks
    where
      last : (takes : Bool) (t : Joint) (k : Keys) → keys_all Central (step_if takes (PeripheralTakes slot response)) ltk t k ≡ k
      last true t k = refl
      last false t k = refl

      fixes : (fixing : Fixing) (t : Joint) (k : Keys) → keys_all Central (fixing_steps fixing slot) ltk t k ≡ k
      fixes FixesNothing t k = refl
      fixes FixesControl t k = refl
      fixes FixesData t k = refl

      first : (acks : Bool) → keys_all Central (step_if acks PeripheralAcked) ltk s keys ≡ keys
      first true = refl
      first false = refl

  pub peripheral_apart : (acks takes : Bool) (slot : ℕ) → keys_all Peripheral (step_if acks CentralAcked ++ step_if takes (CentralTakes slot)) ltk s keys ≡ keys
  peripheral_apart true true slot = refl
  peripheral_apart true false slot = refl
  peripheral_apart false true slot = refl
  peripheral_apart false false slot = refl

  -- what a peripheral fixes leaves its keys as they are
  pub fixing_apart : (fixing : Fixing) (slot : ℕ) → keys_all Peripheral (fixing_steps fixing slot) ltk s keys ≡ keys
  fixing_apart FixesNothing slot = refl
  fixing_apart FixesControl slot = refl
  fixing_apart FixesData slot = refl

-- ---- one end in the steps of a hearing, and as a turn begins

abbrev pub keys_acked_if : Bool → Phased → Keys → Keys
keys_acked_if acks x keys = if acks then keys_after SeesAcknowledged x keys else keys

abbrev pub keys_taken_if : Bool → Option Item → ℕ → Response → Phased → Keys → Keys
keys_taken_if takes item slot response x keys = if takes then keys_taking item slot response x keys else keys

abbrev pub keys_entered_if : Bool → ℕ → Phased → Keys → Keys
keys_entered_if enters slot x keys = if enters then keys_after (Enters slot) x keys else keys

module _ (ltk : List ℕ) (s : Joint) (keys : Keys) where
  pub peripheral_acked : (acks : Bool) → keys_all Peripheral (step_if acks PeripheralAcked) ltk s keys ≡ keys_acked_if acks s.peripheral keys
  peripheral_acked true = refl
  peripheral_acked false = refl

  pub peripheral_took : (takes : Bool) (slot : ℕ) (response : Response)
      → keys_all Peripheral (step_if takes (PeripheralTakes slot response)) ltk s keys
      ≡ keys_taken_if takes (item_on_air s.down) slot response s.peripheral keys
  peripheral_took true slot response = refl
  peripheral_took false slot response = refl

  pub central_acked : (acks : Bool) → keys_all Central (step_if acks CentralAcked) ltk s keys ≡ keys_acked_if acks s.central keys
  central_acked true = refl
  central_acked false = refl

  pub central_took : (takes : Bool) (slot : ℕ)
      → keys_all Central (step_if takes (CentralTakes slot)) ltk s keys ≡ keys_taken_if takes (item_on_air s.up) slot no_response s.central keys
  central_took true slot = refl
  central_took false slot = refl

  pub central_entered : (one other : Bool) (slot : ℕ)
      → keys_all Central (step_if one (CentralEnters slot) ++ step_if other (PeripheralEnters slot)) ltk s keys ≡ keys_entered_if one slot s.central keys
  central_entered true true slot = refl
  central_entered true false slot = refl
  central_entered false true slot = refl
  central_entered false false slot = refl

  -- the other end entered before
  entered_apart : (slot : ℕ) → (after (CentralEnters slot) s).peripheral ≡ s.peripheral
  entered_apart slot = by (may (CentralEnters slot) s)
    where
      by : (b : Bool) → (if b then act (CentralEnters slot) s else s).peripheral ≡ s.peripheral
      by true = refl
      by false = refl

  pub peripheral_entered : (one other : Bool) (slot : ℕ)
      → keys_all Peripheral (step_if one (CentralEnters slot) ++ step_if other (PeripheralEnters slot)) ltk s keys ≡ keys_entered_if other slot s.peripheral keys
  peripheral_entered true true slot = ap (λ (x : Phased). keys_after (Enters slot) x keys) (entered_apart slot)
  peripheral_entered true false slot = refl
  peripheral_entered false true slot = refl
  peripheral_entered false false slot = refl
