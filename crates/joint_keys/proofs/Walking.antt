-- What each step of a joint run with keys keeps holds after all steps, as long as the run goes on.
use Rattle.std.specs.Prelude.{⊤}
use Rattle.std.proofs.Common.{◌≡◌, ℕ, Bool, true, false, if◌then◌else◌, List, [], ◌∷◌, ◌++◌, refl, sym, subst, append-nil, append_assoc}
use Rattle.std.proofs.lemmas.Bool.{and_parts}
use Rattle.ble_base.specs.declared.roles.Role.TheVariants.{Central, Peripheral}
use Rattle.instants.specs.declared.indications.Params.{Params}
use Rattle.joint_controls.specs.Ends.{AreStepsInRange, outgoing_on, steps_of_central, steps_of_peripheral}
use Rattle.joint_controls.specs.Joint.{Joint, JointStep, act, after_all, is_running, may, may_act}
use Rattle.joint_controls.proofs.EndSteps.{central_runs, peripheral_runs}
use Rattle.joint_controls.proofs.LastPdus.{first_tied, tied}
use Rattle.joint_phases.specs.Agreement.{is_sealing_agreed, is_taken_right}
use Rattle.joint_phases.specs.Facts.{Facts}
use Rattle.joint_phases.specs.Pairs.{are_phases_paired}
use Rattle.joint_phases.proofs.JointCentral.{Runs, runs}
use Rattle.joint_laws.specs.Runs.{IsRun}
use Rattle.joint_laws.proofs.PhaseLaws.{now_of, pairs_now, sealing_now, taken_now}
use Rattle.joint_keys.specs.KeyedJoint.{KeyedJoint, KeyedJointStep, keyed_act, keyed_beginning, keyed_joint_after, keyed_joint_after_all, steps_of}
use Rattle.joint_keys.specs.OneKey.{EachStep}
use Rattle.joint_keys.proofs.JointRuns.{joint_all, runs_joined}
use Rattle.joint_keys.proofs.KeysGoing.{IsAt}

-- what the laws of joint runs say of a state in which the run goes on
pub record Here (s : Joint) : Type 0 where
  pub running : is_running s ≡ true
  pub goes : Runs s
  pub facts : Facts s
  pub central : IsAt Central s.central
  pub peripheral : IsAt Peripheral s.peripheral
  pub paired : are_phases_paired s ≡ true
  pub sealing : is_sealing_agreed s ≡ true
  -- the last PDU of each end as its table has it
  pub out_down : s.central.control.table.out ≡ outgoing_on s.down
  pub out_up : s.peripheral.control.table.out ≡ outgoing_on s.up
  pub allowed : (step : JointStep) → may step s ≡ true → is_taken_right step s ≡ true

-- ---- lists of steps

range_before : (xs ys : List KeyedJointStep) → AreStepsInRange (steps_of (xs ++ ys)) → AreStepsInRange (steps_of xs)
range_before [] ys range = tt
range_before (x ∷ xs) ys range = (range.0, range_before xs ys range.1)

-- of which nothing is asked
none_asked : (steps : List KeyedJointStep) (s : KeyedJoint) → EachStep (λ ks. λ t. ⊤) steps s
none_asked [] s = tt
none_asked (ks ∷ steps) s = (tt, none_asked steps (keyed_joint_after ks s))

-- ---- the runs

module _ (central_rx peripheral_rx : ℕ) (first : Params) (slot : ℕ) where
  abbrev start : KeyedJoint
  start = keyed_beginning central_rx peripheral_rx first slot

  abbrev pub state : List KeyedJointStep → KeyedJoint
  state steps = keyed_joint_after_all steps start

  module _ (steps : List KeyedJointStep) where
    abbrev s : Joint
    s = after_all (steps_of steps) start.joint

    here_joint : IsRun first (steps_of steps) → is_running s ≡ true → Here s
    here_joint is goes =
        let now = now_of central_rx peripheral_rx first slot (steps_of steps) is goes in
        record {
          running = goes;
          goes = runs s goes;
          facts = now.facts;
          central =
              record {
                max_rx = central_rx;
                first = first;
                slot = slot;
                steps = steps_of_central (steps_of steps) start.joint;
                is = central_runs (steps_of steps) start.joint;
              };
          peripheral =
              record {
                max_rx = peripheral_rx;
                first = first;
                slot = slot;
                steps = steps_of_peripheral (steps_of steps) start.joint;
                is = peripheral_runs (steps_of steps) start.joint;
              };
          paired = pairs_now central_rx peripheral_rx first slot (steps_of steps) is goes;
          sealing = sealing_now central_rx peripheral_rx first slot (steps_of steps) is goes;
          out_down = (tied (steps_of steps) start.joint (first_tied central_rx peripheral_rx first slot)).central;
          out_up = (tied (steps_of steps) start.joint (first_tied central_rx peripheral_rx first slot)).peripheral;
          allowed = λ step comes. taken_now central_rx peripheral_rx first slot (steps_of steps) step is comes;
        }

    pub here_now : IsRun first (steps_of steps) → is_running (state steps).joint ≡ true → Here (state steps).joint
    here_now is =
        subst (λ (j : Joint). is_running j ≡ true → Here j) (sym (joint_all steps start)) (here_joint is)

  module _ (F : KeyedJointStep → KeyedJoint → Type 0) (P : KeyedJoint → Type 0)
      (next : (s : KeyedJoint) (ks : KeyedJointStep) → Here s.joint → F ks s → P s → may_act ks.step s.joint ≡ true → is_running (act ks.step s.joint) ≡ true
      → P (keyed_act ks s)) where
    one_step : (s : KeyedJoint) (ks : KeyedJointStep) → (is_running s.joint ≡ true → Here s.joint) → F ks s → (is_running s.joint ≡ true → P s)
        → is_running (keyed_joint_after ks s).joint ≡ true → P (keyed_joint_after ks s)
    one_step s ks here fact h = by (may ks.step s.joint) refl
      where
        by : (b : Bool) → may ks.step s.joint ≡ b → is_running (if b then keyed_act ks s else s).joint ≡ true → P (if b then keyed_act ks s else s)
        by false at goes = h goes
        by true at goes =
            let both = and_parts (is_running s.joint) (may_act ks.step s.joint) at in
            next s ks (here both.0) fact (h both.0) both.1 goes

    walk : (front rest : List KeyedJointStep) → IsRun first (steps_of (front ++ rest)) → EachStep F rest (state front)
        → (is_running (state front).joint ≡ true → P (state front)) → is_running (state (front ++ rest)).joint ≡ true → P (state (front ++ rest))
    walk front [] is facts h =
        subst (λ (xs : List KeyedJointStep). is_running (state xs).joint ≡ true → P (state xs)) (sym (append-nil front)) h
    walk front (ks ∷ rest) is facts h =
        let before : IsRun first (steps_of front) = record { latency = is.latency; in_range = range_before front (ks ∷ rest) is.in_range } in
        let more = sym (runs_joined front (ks ∷ []) start) in
        subst (λ (xs : List KeyedJointStep). is_running (state xs).joint ≡ true → P (state xs)) (append_assoc front (ks ∷ []) rest)
        (walk (front ++ ks ∷ []) rest (subst (λ (xs : List KeyedJointStep). IsRun first (steps_of xs)) (sym (append_assoc front (ks ∷ []) rest)) is)
        (subst (EachStep F rest) more facts.1)
        (subst (λ (t : KeyedJoint). is_running t.joint ≡ true → P t) more (one_step (state front) ks (here_now front before) facts.0 h)))

    -- with a fact of each step
    pub always_with : P start → (steps : List KeyedJointStep) → IsRun first (steps_of steps) → EachStep F steps start → is_running (state steps).joint ≡ true
        → P (state steps)
    always_with first_of steps is facts = walk [] steps is facts (λ goes. first_of)

  pub always : (P : KeyedJoint → Type 0)
      → ((s : KeyedJoint) (ks : KeyedJointStep) → Here s.joint → P s → may_act ks.step s.joint ≡ true → is_running (act ks.step s.joint) ≡ true → P (keyed_act ks s))
      → P start → (steps : List KeyedJointStep) → IsRun first (steps_of steps) → is_running (state steps).joint ≡ true → P (state steps)
  always P next first_of steps is =
      always_with (λ ks. λ s. ⊤) P (λ s ks here fact h. next s ks here h) first_of steps is (none_asked steps start)
