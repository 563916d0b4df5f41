-- In each state of a joint run with keys both ends have one vector while both have a session.
use Rattle.std.proofs.Common.{◌≡◌, ℕ, true, List, [], is_some, refl, sym, subst}
use Rattle.std.proofs.lemmas.Bool.{and_from, and_parts}
use Rattle.enc_phase.specs.declared.facts.PhaseFacts.{PhaseFacts}
use Rattle.instants.specs.declared.indications.Params.{Params}
use Rattle.phased_control.specs.enc_phase.Sealing.{EncEnd}
use Rattle.phased_control.specs.Phased.{Phased}
use Rattle.phased_control.specs.Taken.{Response}
use Rattle.keyed_control.specs.declared.material.KeyMaterial.{KeyMaterial}
use Rattle.joint_controls.specs.Joint.{Joint, JointStep, Way, CentralAcked, CentralEnters, CentralHost, CentralSends, CentralSendsData, CentralTakes, Clear, Fixed, OnAir, PeripheralAcked, PeripheralEnters, PeripheralFixes, PeripheralFixesData, PeripheralHost, PeripheralSends, PeripheralTakes, Shuts, Taken, act, central_takes, is_clear, is_fixed, is_free, is_running, is_taken, item_on_air, may_act, may_transmit, next_item, peripheral_takes}
use Rattle.joint_phases.specs.Classes.{class_up}
use Rattle.joint_phases.specs.Pairs.{pair_of}
use Rattle.joint_phases.proofs.Steps.{shows_run}
use Rattle.joint_laws.specs.Runs.{IsRun}
use Rattle.joint_keys.specs.KeyedJoint.{KeyedJoint, KeyedJointStep, central_keys_after, keyed_act, keyed_beginning, keyed_joint_after_all, peripheral_keys_after, steps_of}
use Rattle.joint_keys.proofs.BothGoing.{both_go}
use Rattle.joint_keys.proofs.CentralVectors as central
use Rattle.joint_keys.proofs.CentralVectors.{CentralHas, CentralNext}
use Rattle.joint_keys.proofs.Materials.{IsReqOf, IsRspOf}
use Rattle.joint_keys.proofs.PeripheralVectors as peripheral
use Rattle.joint_keys.proofs.PeripheralVectors.{PeripheralHas, PeripheralNext}
use Rattle.joint_keys.proofs.Queues.{IsWayFine}
use Rattle.joint_keys.proofs.Standing.{Standing}
use Rattle.joint_keys.proofs.Stepping.{standing_next}
use Rattle.joint_keys.proofs.Vectors.{Agreed, agreed_central, agreed_peripheral}
use Rattle.joint_keys.proofs.Walking.{Here, always}

pub record Vectored (s : KeyedJoint) : Type 0 where
  pub standing : Standing s
  pub agreed :
      Agreed s.joint.central.phase s.joint.peripheral.phase s.central.material s.peripheral.material s.central.end s.peripheral.end
  pub central : CentralHas s.joint.central s.central.material s.joint.down
  pub peripheral : PeripheralHas s.joint.peripheral s.peripheral.material s.joint.up

-- ---- what the other end has after a step

-- what is taken leaves the rest
pub rests_up : (w : Way) (slot : ℕ) (s : Joint) → (central_takes w slot s).peripheral ≡ s.peripheral
rests_up (OnAir item sealed) slot s = refl
rests_up Clear slot s = refl
rests_up (Fixed item sealed) slot s = refl
rests_up (Taken item) slot s = refl

pub rests_down : (w : Way) (slot : ℕ) (response : Response) (s : Joint) → (peripheral_takes w slot response s).central ≡ s.central
rests_down (OnAir item sealed) slot response s = refl
rests_down Clear slot response s = refl
rests_down (Fixed item sealed) slot response s = refl
rests_down (Taken item) slot response s = refl

module _ (s : KeyedJoint) (n : KeyMaterial) where
  fine_up_taken : (w : Way) (slot : ℕ) → is_some (item_on_air w) ≡ true → IsWayFine (IsRspOf n) (central_takes w slot s.joint).up
  fine_up_taken (OnAir item sealed) slot some = tt
  fine_up_taken Clear slot some = absurd (cc)
  fine_up_taken (Fixed item sealed) slot some = absurd (cc)
  fine_up_taken (Taken item) slot some = absurd (cc)

  fine_down_taken : (w : Way) (slot : ℕ) (response : Response) → is_some (item_on_air w) ≡ true → IsWayFine (IsReqOf n) (peripheral_takes w slot response s.joint).down
  fine_down_taken (OnAir item sealed) slot response some = tt
  fine_down_taken Clear slot response some = absurd (cc)
  fine_down_taken (Fixed item sealed) slot response some = absurd (cc)
  fine_down_taken (Taken item) slot response some = absurd (cc)

-- a fact of the phases, the materials and the ends of both
abbrev pub Ends : Type 1
Ends = PhaseFacts → PhaseFacts → KeyMaterial → KeyMaterial → EncEnd → EncEnd → Type 0

module _ (s : KeyedJoint) (here : Here s.joint) (v : Vectored s) (ltk : List ℕ) where
  abbrev j : Joint
  j = s.joint

  abbrev p : PhaseFacts
  p = j.central.phase

  abbrev q : PhaseFacts
  q = j.peripheral.phase

  abbrev m : KeyMaterial
  m = s.central.material

  abbrev n : KeyMaterial
  n = s.peripheral.material

  abbrev CentralStep : JointStep → Type 0
  CentralStep step = CentralNext p m n (act step j).central (central_keys_after step ltk j s.central).material (act step j).down

  abbrev PeripheralStep : JointStep → Type 0
  PeripheralStep step = PeripheralNext p q m n (act step j).peripheral (peripheral_keys_after step ltk j s.peripheral).material (act step j).up

  rest_down : (down : Way) → IsWayFine (IsReqOf m) down → CentralNext p m n j.central m down
  rest_down down fine = central.next_rests s here v.standing v.central down fine

  rest_up : (up : Way) → IsWayFine (IsRspOf n) up → PeripheralNext p q m n j.peripheral n up
  rest_up up fine = peripheral.next_rests s here v.standing v.peripheral up fine

  same_down : (t : Phased) (down : Way) → t ≡ j.central → IsWayFine (IsReqOf m) down → CentralNext p m n t m down
  same_down t down is fine = subst (λ (x : Phased). CentralNext p m n x m down) (sym is) (rest_down down fine)

  same_up : (t : Phased) (up : Way) → t ≡ j.peripheral → IsWayFine (IsRspOf n) up → PeripheralNext p q m n t n up
  same_up t up is fine = subst (λ (x : Phased). PeripheralNext p q m n x n up) (sym is) (rest_up up fine)

  pub central_step : (step : JointStep) → may_act step j ≡ true → CentralStep step
  central_step (CentralEnters slot) may = central.next_enters s here v.standing v.central slot
  central_step (CentralHost step) may = central.next_host s here v.standing v.central step ltk
  central_step (CentralSends slot) may =
      let two = and_parts (may_transmit j.down j.up) (is_some (next_item j.central)) may in
      central.next_sends s here v.standing v.central slot (and_parts (is_clear j.down) (is_free j.up) two.0).0 two.1
  central_step CentralSendsData may = rest_down _ tt
  central_step CentralAcked may = central.next_acked s here v.standing v.central (and_parts (is_taken j.down) _ may).0
  central_step (CentralTakes slot) may =
      central.next_takes s here v.standing v.central slot (class_up j.peripheral.knows_version) j.up (and_parts (is_some (item_on_air j.up)) _ may).0
      (here.allowed (CentralTakes slot) (and_from _ _ here.running may)) v.peripheral.way
  central_step (PeripheralEnters slot) may = rest_down j.down v.central.way
  central_step (PeripheralHost step) may = rest_down j.down v.central.way
  central_step (PeripheralFixes slot) may = rest_down j.down v.central.way
  central_step PeripheralFixesData may = rest_down j.down v.central.way
  central_step PeripheralSends may = rest_down j.down v.central.way
  central_step PeripheralAcked may = rest_down j.down v.central.way
  central_step (PeripheralTakes slot response) may =
      same_down (peripheral_takes j.down slot response j).central (peripheral_takes j.down slot response j).down (rests_down j.down slot response j)
      (fine_down_taken s m j.down slot response (and_parts (is_some (item_on_air j.down)) _ may).0)
  central_step Shuts may = rest_down j.down v.central.way

  pub peripheral_step : (step : JointStep) → may_act step j ≡ true → PeripheralStep step
  peripheral_step (PeripheralEnters slot) may = peripheral.next_enters s here v.standing v.peripheral slot
  peripheral_step (PeripheralHost step) may = peripheral.next_host s here v.standing v.peripheral step ltk
  peripheral_step (PeripheralFixes slot) may =
      let two = and_parts (is_clear j.up) (is_some (next_item j.peripheral)) may in peripheral.next_fixes s here v.standing v.peripheral slot two.0 two.1
  peripheral_step PeripheralFixesData may = rest_up _ tt
  peripheral_step PeripheralSends may = peripheral.next_sends s here v.standing v.peripheral (and_parts (is_fixed j.up) _ may).0
  peripheral_step PeripheralAcked may = peripheral.next_acked s here v.standing v.peripheral
  peripheral_step (PeripheralTakes slot response) may =
      peripheral.next_takes s here v.standing v.peripheral slot response j.down refl (and_parts (is_some (item_on_air j.down)) _ may).0 v.central.way
  peripheral_step (CentralEnters slot) may = rest_up j.up v.peripheral.way
  peripheral_step (CentralHost step) may = rest_up j.up v.peripheral.way
  peripheral_step (CentralSends slot) may = rest_up j.up v.peripheral.way
  peripheral_step CentralSendsData may = rest_up j.up v.peripheral.way
  peripheral_step CentralAcked may = rest_up j.up v.peripheral.way
  peripheral_step (CentralTakes slot) may =
      same_up (central_takes j.up slot j).peripheral (central_takes j.up slot j).up (rests_up j.up slot j)
      (fine_up_taken s n j.up slot (and_parts (is_some (item_on_air j.up)) _ may).0)
  peripheral_step Shuts may = rest_up j.up v.peripheral.way

  -- ---- what both ends have after a step of one of them

  abbrev pub ByCentral : Ends → JointStep → Type 0
  ByCentral A step = A (act step j).central.phase q (central_keys_after step ltk j s.central).material n (central_keys_after step ltk j s.central).end s.peripheral.end

  abbrev pub ByPeripheral : Ends → JointStep → Type 0
  ByPeripheral A step =
      A p (act step j).peripheral.phase m (peripheral_keys_after step ltk j s.peripheral).material s.central.end (peripheral_keys_after step ltk j s.peripheral).end

  -- one of them does nothing in it
  pub both_next : (A : Ends) (step : JointStep) → ByCentral A step → ByPeripheral A step
      → A (act step j).central.phase (act step j).peripheral.phase (central_keys_after step ltk j s.central).material (peripheral_keys_after step ltk j s.peripheral).material
      (central_keys_after step ltk j s.central).end (peripheral_keys_after step ltk j s.peripheral).end
  both_next A (CentralEnters slot) central peripheral = central
  both_next A (CentralHost step) central peripheral = central
  both_next A (CentralSends slot) central peripheral = central
  both_next A CentralSendsData central peripheral = central
  both_next A CentralAcked central peripheral = central
  both_next A (CentralTakes slot) central peripheral =
      subst
      (λ (x : Phased). A (act (CentralTakes slot) j).central.phase x.phase (central_keys_after (CentralTakes slot) ltk j s.central).material n
      (central_keys_after (CentralTakes slot) ltk j s.central).end s.peripheral.end)
      (sym (rests_up j.up slot j)) central
  both_next A (PeripheralTakes slot response) central peripheral =
      subst
      (λ (x : Phased). A x.phase (act (PeripheralTakes slot response) j).peripheral.phase m (peripheral_keys_after (PeripheralTakes slot response) ltk j s.peripheral).material s.central.end
      (peripheral_keys_after (PeripheralTakes slot response) ltk j s.peripheral).end)
      (sym (rests_down j.down slot response j)) peripheral
  both_next A (PeripheralEnters slot) central peripheral = peripheral
  both_next A (PeripheralHost step) central peripheral = peripheral
  both_next A (PeripheralFixes slot) central peripheral = peripheral
  both_next A PeripheralFixesData central peripheral = peripheral
  both_next A PeripheralSends central peripheral = peripheral
  both_next A PeripheralAcked central peripheral = peripheral
  both_next A Shuts central peripheral = peripheral

pub vectored_next : (s : KeyedJoint) (ks : KeyedJointStep) → Here s.joint → Vectored s → may_act ks.step s.joint ≡ true → is_running (act ks.step s.joint) ≡ true → Vectored (keyed_act ks s)
vectored_next s ks here v may running =
    let j = s.joint in
    let m = s.central.material in
    let n = s.peripheral.material in
    let both = both_go s here.goes here.central here.peripheral v.standing.central v.standing.peripheral ks.step ks.ltk may in
    let next = central_step s here v ks.ltk ks.step may in
    let other = peripheral_step s here v ks.ltk ks.step may in
    record {
      standing = standing_next s here.goes here.facts here.central here.peripheral v.standing ks may running;
      agreed =
          both_next s here v ks.ltk Agreed ks.step
          (agreed_central (pair_of j) j.central.phase j.peripheral.phase here.paired m n s.central.end s.peripheral.end v.agreed _ _ (act ks.step j).central.phase
          (central_keys_after ks.step ks.ltk j s.central).material (central_keys_after ks.step ks.ltk j s.central).end both.central.end_goes next.goes)
          (agreed_peripheral (pair_of j) j.central.phase j.peripheral.phase here.paired m n s.central.end s.peripheral.end v.agreed _ _ (act ks.step j).peripheral.phase
          (peripheral_keys_after ks.step ks.ltk j s.peripheral).material (peripheral_keys_after ks.step ks.ltk j s.peripheral).end both.peripheral.end_goes other.goes);
      central = next.has;
      peripheral = other.has;
    }

-- ---- all steps

module _ (central_rx peripheral_rx : ℕ) (first : Params) (slot : ℕ) where
  abbrev start : KeyedJoint
  start = keyed_beginning central_rx peripheral_rx first slot

  pub first_vectored : Vectored start
  first_vectored =
      record {
        standing =
            record {
              events = [];
              shown = (shows_run central_rx peripheral_rx first slot [] tt refl).shown;
              counts = record { central_sent = refl; central_opened = refl; peripheral_sent = refl; peripheral_opened = refl };
              central = record { role_too = refl; phase_too = refl; clear_sent = λ is. refl; clear_opened = λ is. refl };
              peripheral = record { role_too = refl; phase_too = refl; clear_sent = λ is. refl; clear_opened = λ is. refl };
              down = tt;
              up = tt;
            };
        agreed =
            record {
              first = λ is taken. absurd (cc);
              second = λ is taken. absurd (cc);
              session = λ is. absurd (cc);
              vector = λ is some. absurd (cc);
            };
        central =
            record {
              waits = tt;
              way = tt;
              halves = record { max_rx = central_rx; first = first; slot = slot; steps = []; phased = refl; material = refl };
            };
        peripheral = record { waits = tt; way = tt };
      }

  pub vectored : (steps : List KeyedJointStep) → IsRun first (steps_of steps) → is_running (keyed_joint_after_all steps start).joint ≡ true
      → Vectored (keyed_joint_after_all steps start)
  vectored = always central_rx peripheral_rx first slot Vectored vectored_next first_vectored
