-- How the ends of a joint run stand to each other: their counters and what is sealed on the air, kept by each step.
use Rattle.std.proofs.Common.{◌≡◌, ℕ, Bool, true, false, ◌&&◌, if◌then◌else◌, List, Option, Some, None, is_some, refl, sym, subst}
use Rattle.std.proofs.lemmas.Bool.{and_parts}
use Rattle.ble_base.specs.declared.roles.Role.TheVariants.{Central, Peripheral}
use Rattle.enc_phase.specs.declared.facts.PhaseFacts.{PhaseFacts}
use Rattle.enc_phase.specs.Phases.{opens, seals}
use Rattle.phased_control.specs.Taken.{Response}
use Rattle.phase_pairs.specs.declared.joint.PhaseEvent.{PhaseEvent}
use Rattle.phase_pairs.specs.Counted.{counted_run}
use Rattle.joint_controls.specs.Joint.{Item, Joint, JointStep, Way, CentralAcked, CentralEnters, CentralHost, CentralSends, CentralSendsData, CentralTakes, Clear, Control, Data, Fixed, OnAir, PeripheralAcked, PeripheralEnters, PeripheralFixes, PeripheralFixesData, PeripheralHost, PeripheralSends, PeripheralTakes, Shuts, Taken, act, central_takes, fixed, is_fixed, item_on_air, may_act, next_item, on_air, peripheral_takes, sent_up}
use Rattle.joint_phases.specs.Parts.{IsShown}
use Rattle.joint_keys.specs.KeyedJoint.{KeyedJoint, Keys, central_keys_after, keys_sending, peripheral_keys_after}
use Rattle.joint_keys.proofs.BothGoing.{BothGo, sends_down, sends_up, takes_down, takes_up}
use Rattle.joint_keys.proofs.Counting.{Counts, link_of_run}
use Rattle.joint_keys.proofs.EndChanges.{IsEnd}
use Rattle.joint_keys.proofs.KeysGoing.{KeysGo}
use Rattle.joint_keys.proofs.Made.{IsSealedAs, MadeOn, made_now, made_on, sealed_ways}

-- data of the peripheral that is fixed to be sealed
abbrev pub data_ahead : Way → ℕ
data_ahead (Fixed Data sealed) = (if sealed then 1 else 0)
data_ahead way = 0

pub record Standing (s : KeyedJoint) : Type 0 where
  pub events : List PhaseEvent
  pub shown : IsShown s.joint (counted_run events).link
  pub counts : Counts (counted_run events) s.central.end s.peripheral.end (data_ahead s.joint.up)
  pub central : IsEnd Central s.joint.central.phase s.central.end
  pub peripheral : IsEnd Peripheral s.joint.peripheral.phase s.peripheral.end
  pub down : MadeOn Central s.joint.down s.central
  pub up : MadeOn Peripheral s.joint.up s.peripheral

pub sealed_now : (s : KeyedJoint) (st : Standing s) → IsSealedAs Central s.joint.central.phase s.joint.down × IsSealedAs Peripheral s.joint.peripheral.phase s.joint.up
sealed_now s st = sealed_ways s.joint (counted_run st.events).link st.events (link_of_run st.events) st.shown

-- ---- what is on its way after a step

-- what the other end takes changes no other way
pub up_stays_down : (w : Way) (slot : ℕ) (s : Joint) → (central_takes w slot s).down ≡ s.down
up_stays_down (OnAir item sealed) slot s = refl
up_stays_down Clear slot s = refl
up_stays_down (Fixed item sealed) slot s = refl
up_stays_down (Taken item) slot s = refl

pub down_stays_up : (w : Way) (slot : ℕ) (response : Response) (s : Joint) → (peripheral_takes w slot response s).up ≡ s.up
down_stays_up (OnAir item sealed) slot response s = refl
down_stays_up Clear slot response s = refl
down_stays_up (Fixed item sealed) slot response s = refl
down_stays_up (Taken item) slot response s = refl

module _ (k : Keys) where
  taken_none_up : (w : Way) (slot : ℕ) (s : Joint) → is_some (item_on_air w) ≡ true → MadeOn Peripheral (central_takes w slot s).up k
  taken_none_up (OnAir item sealed) slot s some = tt
  taken_none_up Clear slot s some = absurd (cc)
  taken_none_up (Fixed item sealed) slot s some = absurd (cc)
  taken_none_up (Taken item) slot s some = absurd (cc)

  taken_none_down : (w : Way) (slot : ℕ) (response : Response) (s : Joint) → is_some (item_on_air w) ≡ true → MadeOn Central (peripheral_takes w slot response s).down k
  taken_none_down (OnAir item sealed) slot response s some = tt
  taken_none_down Clear slot response s some = absurd (cc)
  taken_none_down (Fixed item sealed) slot response s some = absurd (cc)
  taken_none_down (Taken item) slot response s some = absurd (cc)

  fixed_none : (o : Option Item) → MadeOn Peripheral (fixed o) k
  fixed_none None = tt
  fixed_none (Some item) = tt

sent_down : (p : PhaseFacts) (k : Keys) → IsEnd Central p k.end → (o : Option Item) → MadeOn Central (on_air o (seals Central p)) (keys_sending k)
sent_down p k here None = tt
sent_down p k here (Some item) = made_now Central p (seals Central p) k here refl

sent_from : (p : PhaseFacts) (k : Keys) → IsEnd Peripheral p k.end → (w : Way) → is_fixed w ≡ true → IsSealedAs Peripheral p w
    → MadeOn Peripheral (sent_up w (seals Peripheral p)) (keys_sending k)
sent_from p k here (Fixed Data sealed) is right = made_now Peripheral p sealed k here right
sent_from p k here (Fixed (Control outgoing ctrl) sealed) is right = made_now Peripheral p (seals Peripheral p) k here refl
sent_from p k here Clear is right = absurd (cc)
sent_from p k here (OnAir item sealed) is right = absurd (cc)
sent_from p k here (Taken item) is right = absurd (cc)

module _ (s : KeyedJoint) (st : Standing s) where
  abbrev j : Joint
  j = s.joint

  module _ (step : JointStep) (ltk : List ℕ) (both : BothGo step ltk s) where
    abbrev t : Joint
    t = act step j

    same_down : t.down ≡ j.down → sends_down step ≡ false → IsSealedAs Central t.central.phase t.down → MadeOn Central t.down (central_keys_after step ltk j s.central)
    same_down same none right =
        subst (λ (w : Way). MadeOn Central w (central_keys_after step ltk j s.central)) (sym same)
        (made_on Central _ j.central.phase t.central.phase j.down s.central (central_keys_after step ltk j s.central)
        (subst (λ (b : Bool). KeysGo Central b (takes_up step && opens Central j.central.phase) j.central.phase t.central.phase s.central (central_keys_after step ltk j s.central)) none both.central)
        st.down (sealed_now s st).0 (subst (IsSealedAs Central t.central.phase) same right))

    same_up : t.up ≡ j.up → sends_up step ≡ false → IsSealedAs Peripheral t.peripheral.phase t.up → MadeOn Peripheral t.up (peripheral_keys_after step ltk j s.peripheral)
    same_up same none right =
        subst (λ (w : Way). MadeOn Peripheral w (peripheral_keys_after step ltk j s.peripheral)) (sym same)
        (made_on Peripheral _ j.peripheral.phase t.peripheral.phase j.up s.peripheral (peripheral_keys_after step ltk j s.peripheral)
        (subst (λ (b : Bool). KeysGo Peripheral b (takes_down step && opens Peripheral j.peripheral.phase) j.peripheral.phase t.peripheral.phase s.peripheral (peripheral_keys_after step ltk j s.peripheral)) none
        both.peripheral)
        st.up (sealed_now s st).1 (subst (IsSealedAs Peripheral t.peripheral.phase) same right))

  pub made_down : (step : JointStep) (ltk : List ℕ) → BothGo step ltk s → may_act step j ≡ true → IsSealedAs Central (act step j).central.phase (act step j).down
      → MadeOn Central (act step j).down (central_keys_after step ltk j s.central)
  made_down (CentralSends slot) ltk both may right = sent_down j.central.phase s.central st.central (next_item j.central)
  made_down CentralSendsData ltk both may right = made_now Central j.central.phase (seals Central j.central.phase) s.central st.central refl
  made_down CentralAcked ltk both may right = tt
  made_down (CentralTakes slot) ltk both may right = same_down (CentralTakes slot) ltk both (up_stays_down j.up slot j) refl right
  made_down (PeripheralTakes slot response) ltk both may right = taken_none_down s.central j.down slot response j (and_parts (is_some (item_on_air j.down)) _ may).0
  made_down (CentralEnters slot) ltk both may right = same_down (CentralEnters slot) ltk both refl refl right
  made_down (CentralHost step) ltk both may right = same_down (CentralHost step) ltk both refl refl right
  made_down (PeripheralEnters slot) ltk both may right = same_down (PeripheralEnters slot) ltk both refl refl right
  made_down (PeripheralHost step) ltk both may right = same_down (PeripheralHost step) ltk both refl refl right
  made_down (PeripheralFixes slot) ltk both may right = same_down (PeripheralFixes slot) ltk both refl refl right
  made_down PeripheralFixesData ltk both may right = same_down PeripheralFixesData ltk both refl refl right
  made_down PeripheralSends ltk both may right = same_down PeripheralSends ltk both refl refl right
  made_down PeripheralAcked ltk both may right = same_down PeripheralAcked ltk both refl refl right
  made_down Shuts ltk both may right = same_down Shuts ltk both refl refl right

  pub made_up : (step : JointStep) (ltk : List ℕ) → BothGo step ltk s → may_act step j ≡ true → IsSealedAs Peripheral (act step j).peripheral.phase (act step j).up
      → MadeOn Peripheral (act step j).up (peripheral_keys_after step ltk j s.peripheral)
  made_up (PeripheralFixes slot) ltk both may right = fixed_none s.peripheral (next_item j.peripheral)
  made_up PeripheralFixesData ltk both may right = tt
  made_up PeripheralSends ltk both may right = sent_from j.peripheral.phase s.peripheral st.peripheral j.up (and_parts (is_fixed j.up) _ may).0 (sealed_now s st).1
  made_up PeripheralAcked ltk both may right = tt
  made_up (PeripheralTakes slot response) ltk both may right = same_up (PeripheralTakes slot response) ltk both (down_stays_up j.down slot response j) refl right
  made_up (CentralTakes slot) ltk both may right = taken_none_up s.peripheral j.up slot j (and_parts (is_some (item_on_air j.up)) _ may).0
  made_up (CentralEnters slot) ltk both may right = same_up (CentralEnters slot) ltk both refl refl right
  made_up (CentralHost step) ltk both may right = same_up (CentralHost step) ltk both refl refl right
  made_up (CentralSends slot) ltk both may right = same_up (CentralSends slot) ltk both refl refl right
  made_up CentralSendsData ltk both may right = same_up CentralSendsData ltk both refl refl right
  made_up CentralAcked ltk both may right = same_up CentralAcked ltk both refl refl right
  made_up (PeripheralEnters slot) ltk both may right = same_up (PeripheralEnters slot) ltk both refl refl right
  made_up (PeripheralHost step) ltk both may right = same_up (PeripheralHost step) ltk both refl refl right
  made_up Shuts ltk both may right = same_up Shuts ltk both refl refl right
