-- A joint run is a joint run of the procedures that exclude each other, as long as it goes on, and its link ends by no collision.
use Rattle.std.proofs.Common.{◌≡◌, ℕ, ◌≤◌, true, List, [], ◌∷◌, refl, inl, subst, arith}
use Rattle.ble_base.specs.declared.roles.Role.TheVariants.{Central, Peripheral}
use Rattle.instants.specs.declared.indications.Params.{Params}
use Rattle.collisions.specs.declared.events.Place.TheVariants.{After as after_instant}
use Rattle.joint_controls.specs.control_model.Control.{Control, first_control}
use Rattle.joint_controls.specs.control_model.Waits.{EndsByCollision}
use Rattle.std.proofs.lemmas.Bool.{and_parts}
use Rattle.joint_controls.specs.Joint.{CentralAcked, CentralEnters, CentralHost, CentralSends, CentralSendsData, CentralTakes, Joint, JointStep, PeripheralAcked, PeripheralEnters, PeripheralFixes, PeripheralFixesData, PeripheralHost, PeripheralSends, PeripheralTakes, Shuts, act, after, after_all, beginning, is_running, may, may_act}
use Rattle.joint_controls.specs.Ends.{AreStepsInRange, IsStepInRange}
use Rattle.joint_controls.proofs.ControlRuns.{AreRuns, awaits_from, first_runs, indicates_from, runs_step}
use Rattle.joint_controls.proofs.LastPdus.{Tied, first_tied, tied_step}
use Rattle.joint_controls.proofs.Running.{after_one, comes_by, goes_on}
use Rattle.joint_collisions.specs.Facts.{AllFacts, Facts, IsState}
use Rattle.joint_collisions.specs.Views.{IsReached, view_of}
use Rattle.joint_collisions.proofs.CentralJoint.{central_acked, central_enters, central_hosts, central_sends, central_sends_data, central_takes}
use Rattle.joint_collisions.proofs.EachStep.{After, Before, Holds}
use Rattle.joint_collisions.proofs.PeripheralJoint.{peripheral_acked, peripheral_enters, peripheral_fixes, peripheral_fixes_data, peripheral_hosts, peripheral_sends, peripheral_takes}

-- ---- one step

shut : (s : Joint) → Before s → After (act Shuts s)
shut s b =
    record {
      goes = λ runs. absurd (cc);
      central_never = λ met. subst EndsByCollision b.goes.central met;
      peripheral_never = λ met. subst EndsByCollision b.goes.peripheral met;
    }

pub each_step : (step : JointStep) (s : Joint) → Before s → may step s ≡ true → After (act step s)
each_step (CentralEnters slot) s b comes = central_enters s b slot
each_step (CentralHost step) s b comes = central_hosts s b step
each_step (CentralSends slot) s b comes = central_sends s b slot (comes_by (CentralSends slot) s comes)
each_step CentralSendsData s b comes = central_sends_data s b (comes_by CentralSendsData s comes)
each_step CentralAcked s b comes = central_acked s b (comes_by CentralAcked s comes)
each_step (CentralTakes slot) s b comes = central_takes s b slot (comes_by (CentralTakes slot) s comes)
each_step (PeripheralEnters slot) s b comes = peripheral_enters s b slot
each_step (PeripheralHost step) s b comes = peripheral_hosts s b step
each_step (PeripheralFixes slot) s b comes = peripheral_fixes s b slot (comes_by (PeripheralFixes slot) s comes)
each_step PeripheralFixesData s b comes = peripheral_fixes_data s b (comes_by PeripheralFixesData s comes)
each_step PeripheralSends s b comes = peripheral_sends s b (comes_by PeripheralSends s comes)
each_step PeripheralAcked s b comes = peripheral_acked s b (comes_by PeripheralAcked s comes)
each_step (PeripheralTakes slot response) s b comes = peripheral_takes s b slot response (comes_by (PeripheralTakes slot response) s comes)
each_step Shuts s b comes = shut s b

-- ---- all steps

module _ (central_rx peripheral_rx : ℕ) (first : Params) (slot : ℕ) (latency : first.latency ≤ 499) where
  abbrev first_central : Control
  first_central = first_control Central central_rx first slot

  abbrev first_peripheral : Control
  first_peripheral = first_control Peripheral peripheral_rx first slot

  abbrev first_joint : Joint
  first_joint = beginning central_rx peripheral_rx first slot

  -- what is known of each state of a run
  pub record Walk (s : Joint) : Type 0 where
    pub tied : Tied s
    pub runs : AreRuns first_central first_peripheral s
    pub holds : is_running s ≡ true → Holds s
    pub central_never : EndsByCollision s.central.control.ends → ⊥
    pub peripheral_never : EndsByCollision s.peripheral.control.ends → ⊥

  pub before : (s : Joint) → Walk s → is_running s ≡ true → Facts s → Before s
  before s w runs facts =
      let g = goes_on s runs in
      record {
        goes = g;
        tied = w.tied;
        indicates = indicates_from central_rx first slot s.central.control latency (w.runs.central g.central);
        awaits = awaits_from peripheral_rx first slot s.peripheral.control (w.runs.peripheral g.peripheral);
        facts = facts;
        holds = w.holds runs;
      }

  runs_now : (step : JointStep) (s : Joint) → may step s ≡ true → is_running s ≡ true
  runs_now step s comes = (and_parts (is_running s) (may_act step s) comes).0

  walk_act : (step : JointStep) (s : Joint) → IsStepInRange step → (is_running s ≡ true → Facts s) → Walk s → may step s ≡ true → Walk (act step s)
  walk_act step s range facts w comes =
      let a = each_step step s (before s w (runs_now step s comes) (facts (runs_now step s comes))) comes in
      record {
        tied = tied_step step s w.tied comes;
        runs = runs_step first_central first_peripheral step s range w.runs;
        holds = a.goes;
        central_never = a.central_never;
        peripheral_never = a.peripheral_never;
      }

  pub walk_step : (step : JointStep) (s : Joint) → IsStepInRange step → (is_running s ≡ true → Facts s) → Walk s → Walk (after step s)
  walk_step step s range facts w = after_one Walk step s w (walk_act step s range facts w)

  walk_from : (steps : List JointStep) (s : Joint) → AreStepsInRange steps → AllFacts steps s → Walk s → Walk (after_all steps s)
  walk_from [] s range facts w = w
  walk_from (step ∷ steps) s range facts w = walk_from steps (after step s) range.1 facts.1 (walk_step step s range.0 facts.0 w)

  first_reached : IsReached (view_of first_joint)
  first_reached = record { moves = []; central_at = after_instant; peripheral_at = after_instant; earlier = 0; is = refl }

  pub first_walk : Walk first_joint
  unfolding first_reached
  first_walk =
      record {
        tied = first_tied central_rx peripheral_rx first slot;
        runs = first_runs central_rx peripheral_rx first slot;
        holds =
            λ runs. record {
              seen = record { reached = first_reached; central_waits = omega arith; peripheral_waits = tt; far = inl refl; far_earlier = inl refl };
              instant = tt;
              alone = λ loud. absurd (cc);
            };
        central_never = λ met. met;
        peripheral_never = λ met. met;
      }

  pub walk : (steps : List JointStep) → AreStepsInRange steps → AllFacts steps first_joint → Walk (after_all steps first_joint)
  walk steps range facts = walk_from steps first_joint range facts first_walk

pub before_of : (s : Joint) → IsState s → is_running s ≡ true → Before s
before_of s state runs =
    let w = walk state.central_rx state.peripheral_rx state.first state.slot state.latency state.steps state.in_range state.before in
    before state.central_rx state.peripheral_rx state.first state.slot state.latency s
    (subst (Walk state.central_rx state.peripheral_rx state.first state.slot state.latency) state.reaches w) runs state.now
