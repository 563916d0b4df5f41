-- The laws of phases, of each state of a joint run in which that goes on.
use Rattle.std.proofs.Common.{◌≡◌, ℕ, true, List}
use Rattle.std.proofs.lemmas.Bool.{and_parts}
use Rattle.instants.specs.declared.indications.Params.{Params}
use Rattle.joint_parameters.specs.joint_controls.Joint.{Joint, JointStep, after_all, beginning, is_running, may, may_act}
use Rattle.joint_phases.specs.Agreement.{is_sealing_agreed, is_taken_right}
use Rattle.joint_phases.proofs.Agreeing.{sealing_agreed, taken_right}
use Rattle.joint_phases.proofs.Steps.{shows_run}
use Rattle.joint_phases.specs.Pairs.{are_phases_paired}
use Rattle.joint_laws.specs.Runs.{IsRun}
use Rattle.joint_laws.proofs.EachState.{Known, Now, all_known, now}
use Rattle.joint_phases.proofs.Pairing.{phases_paired}

module _ (central_rx peripheral_rx : ℕ) (first : Params) (slot : ℕ) (steps : List JointStep) where
  abbrev start : Joint
  start = beginning central_rx peripheral_rx first slot

  abbrev s : Joint
  s = after_all steps start

  pub known_of : (is : IsRun first steps) → Known central_rx peripheral_rx first slot is.latency steps
  known_of is = all_known central_rx peripheral_rx first slot is.latency steps is

  pub now_of : (is : IsRun first steps) → is_running s ≡ true → Now central_rx peripheral_rx first slot is.latency steps
  now_of is goes = now central_rx peripheral_rx first slot is.latency steps (known_of is) goes

  pub pairs_now : IsRun first steps → is_running s ≡ true → are_phases_paired s ≡ true
  pairs_now is goes = phases_paired _ _ (shows_run central_rx peripheral_rx first slot steps (known_of is).facts goes)

  pub sealing_now : IsRun first steps → is_running s ≡ true → is_sealing_agreed s ≡ true
  sealing_now is goes = sealing_agreed _ _ (shows_run central_rx peripheral_rx first slot steps (known_of is).facts goes)

  pub taken_now : (step : JointStep) → IsRun first steps → may step s ≡ true → is_taken_right step s ≡ true
  taken_now step is comes =
      let both = and_parts (is_running s) (may_act step s) comes in
      taken_right _ _ (shows_run central_rx peripheral_rx first slot steps (known_of is).facts both.0) both.0 (now_of is both.0).facts step both.1
