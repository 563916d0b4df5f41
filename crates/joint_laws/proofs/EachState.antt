-- Each state of a joint run, in which that goes on, is one of each machine: what a machine asks of the others holds in the
-- states before.
use Rattle.std.proofs.Common.{◌≡◌, ◌≤◌, ℕ, true, List, [], ◌∷◌, ◌++◌, refl, ap, sym, subst}
use Rattle.instants.specs.declared.indications.Params.{Params}
use Rattle.machines.specs.Machine.{run}
use Rattle.joint_phases.specs.phase_pairs.JointRun.{encryption}
use Rattle.joint_parameters.specs.joint_controls.Ends.{AreStepsInRange, IsStepInRange}
use Rattle.joint_parameters.specs.joint_controls.Joint.{Joint, JointStep, after, after_all, beginning, is_running}
use Rattle.joint_collisions.specs.Facts.{AllFacts, Facts as ExclusiveFacts}
use Rattle.joint_collisions.specs.Views.{IsReached, view_of}
use Rattle.joint_collisions.proofs.Runs.{walk}
use Rattle.joint_exchanges.specs.Runs.{AllBefore}
use Rattle.joint_exchanges.specs.SentByRole.{HaveMeaning}
use Rattle.joint_phases.specs.Events.{events_of}
use Rattle.joint_phases.specs.Facts.{Facts, FactsHold}
use Rattle.joint_phases.specs.Parts.{IsShown}
use Rattle.joint_phases.proofs.Steps.{shows_run}
use Rattle.joint_laws.proofs.ExclusiveFactsHold.{exclusive_facts}
use Rattle.joint_laws.proofs.FactsHold.{facts_hold}
use Rattle.joint_laws.proofs.Meanings.{have_meaning}
use Rattle.joint_laws.specs.Runs.{IsRun}

-- ---- one more step

module _ (step : JointStep) where
  pub range_more : (steps : List JointStep) → AreStepsInRange steps → IsStepInRange step → AreStepsInRange (steps ++ step ∷ [])
  range_more [] all one = (one, tt)
  range_more (first ∷ steps) all one = (all.0, range_more steps all.1 one)

  facts_more : (steps : List JointStep) (s : Joint) → FactsHold s steps → (is_running (after_all steps s) ≡ true → Facts (after_all steps s))
      → FactsHold s (steps ++ step ∷ [])
  facts_more [] s all one = (one, tt)
  facts_more (first ∷ steps) s all one = (all.0, facts_more steps (after first s) all.1 one)

  exclusive_more : (steps : List JointStep) (s : Joint) → AllFacts steps s → (is_running (after_all steps s) ≡ true → ExclusiveFacts (after_all steps s))
      → AllFacts (steps ++ step ∷ []) s
  exclusive_more [] s all one = (one, tt)
  exclusive_more (first ∷ steps) s all one = (all.0, exclusive_more steps (after first s) all.1 one)

  before_more : (P : Joint → Type 0) (steps : List JointStep) (s : Joint) → AllBefore P steps s → (is_running (after_all steps s) ≡ true → P (after_all steps s))
      → AllBefore P (steps ++ step ∷ []) s
  before_more P [] s all one = (one, tt)
  before_more P (first ∷ steps) s all one = (all.0, before_more P steps (after first s) all.1 one)

joined : (xs : List JointStep) (step : JointStep) (steps : List JointStep) → (xs ++ step ∷ []) ++ steps ≡ xs ++ step ∷ steps
joined [] step steps = refl
joined (x ∷ xs) step steps = ap (λ (more : List JointStep). x ∷ more) (joined xs step steps)

-- ---- a joint run

module _ (central_rx peripheral_rx : ℕ) (first : Params) (slot : ℕ) (latency : first.latency ≤ 499) where
  abbrev pub start : Joint
  start = beginning central_rx peripheral_rx first slot

  -- what is known of the states before
  pub record Known (steps : List JointStep) : Type 0 where
    pub range : AreStepsInRange steps
    pub facts : FactsHold start steps
    pub exclusive : AllFacts steps start
    pub meant : AllBefore HaveMeaning steps start

  -- and of the state after them, where the run goes on
  pub record Now (steps : List JointStep) : Type 0 where
    pub facts : Facts (after_all steps start)
    pub exclusive : ExclusiveFacts (after_all steps start)
    pub meant : HaveMeaning (after_all steps start)
    pub reached : IsReached (view_of (after_all steps start))
    pub shown : IsShown (after_all steps start) (run encryption (events_of steps start))

  pub now : (steps : List JointStep) → Known steps → is_running (after_all steps start) ≡ true → Now steps
  now steps known goes =
      let reached = ((walk central_rx peripheral_rx first slot latency steps known.range known.exclusive).holds goes).seen.reached in
      let shows = shows_run central_rx peripheral_rx first slot steps known.facts goes in
      record {
        facts = facts_hold central_rx peripheral_rx first slot steps goes reached;
        exclusive = exclusive_facts central_rx peripheral_rx first slot steps goes known.meant (events_of steps start) shows.shown;
        meant = have_meaning (after_all steps start) (events_of steps start) shows.shown;
        reached = reached;
        shown = shows.shown;
      }

  more : (steps : List JointStep) (step : JointStep) → Known steps → IsStepInRange step → Known (steps ++ step ∷ [])
  more steps step known range =
      record {
        range = range_more step steps known.range range;
        facts = facts_more step steps start known.facts (λ goes. (now steps known goes).facts);
        exclusive = exclusive_more step steps start known.exclusive (λ goes. (now steps known goes).exclusive);
        meant = before_more step HaveMeaning steps start known.meant (λ goes. (now steps known goes).meant);
      }

  all : (before steps : List JointStep) → Known before → AreStepsInRange steps → Known (before ++ steps)
  all before [] known range = subst Known (sym (ends before)) known
    where
      ends : (xs : List JointStep) → xs ++ [] ≡ xs
      ends [] = refl
      ends (x ∷ xs) = ap (λ (more : List JointStep). x ∷ more) (ends xs)
  all before (step ∷ steps) known range =
      subst Known (joined before step steps) (all (before ++ step ∷ []) steps (more before step known range.0) range.1)

  pub all_known : (steps : List JointStep) → IsRun first steps → Known steps
  all_known steps is = all [] steps (record { range = tt; facts = tt; exclusive = tt; meant = tt }) is.in_range
