-- Each state of a joint run in which that goes on is sound.
use Rattle.std.proofs.Common.{◌≡◌, ℕ, true, not, List, refl, sym, subst}
use Rattle.ble_base.specs.declared.roles.Role.{Role}
use Rattle.ble_base.specs.declared.roles.Role.TheVariants.{Central, Peripheral}
use Rattle.instants.specs.declared.indications.Params.{Params}
use Rattle.joint_parameters.specs.table_laws.Encrypting.{has_encryption}
use Rattle.joint_exchanges.specs.exchange_pairs.Exchange.{ExchangeStage, Idle, Sent, Unsent}
use Rattle.joint_parameters.specs.phased_control.Phased.{Phased, is_quiet_now}
use Rattle.joint_parameters.proofs.phased_control.Agreeing.{agrees_now}
use Rattle.joint_parameters.specs.joint_controls.Ends.{steps_of_central, steps_of_peripheral}
use Rattle.joint_parameters.specs.joint_controls.Joint.{Joint, JointStep, after_all, beginning, is_running}
use Rattle.joint_parameters.proofs.joint_controls.EndSteps.{central_runs, peripheral_runs}
use Rattle.joint_collisions.proofs.Agreeing.{agrees}
use Rattle.joint_exchanges.specs.Agreement.{Asked, end_at, stage_at, version_stage_at}
use Rattle.joint_exchanges.specs.Runs.{GoesOn}
use Rattle.joint_exchanges.proofs.States.{asked_idle, asked_sent, asked_unsent, version_known, version_once, version_sent, version_unsent}
use Rattle.joint_parameters.proofs.Equal.{equal_now}
use Rattle.joint_phases.specs.Events.{events_of}
use Rattle.joint_laws.specs.Runs.{IsRun}
use Rattle.joint_laws.specs.Sound.{AreInPlace, ExchangeAgrees, IsSound, VersionAgrees, VersionIsInPlace}
use Rattle.joint_laws.proofs.EachState.{Known, Now}
use Rattle.joint_laws.proofs.FewWait.{few_control_pdus}
use Rattle.joint_laws.proofs.PhaseLaws.{known_of, now_of, pairs_now, sealing_now}

-- ---- in a joint run

module _ (central_rx peripheral_rx : ℕ) (first : Params) (slot : ℕ) (steps : List JointStep) (is : IsRun first steps)
    (running : is_running (after_all steps (beginning central_rx peripheral_rx first slot)) ≡ true) where
  abbrev start : Joint
  start = beginning central_rx peripheral_rx first slot

  abbrev s : Joint
  s = after_all steps start

  known : Known central_rx peripheral_rx first slot is.latency steps
  known = known_of central_rx peripheral_rx first slot steps is

  now : Now central_rx peripheral_rx first slot is.latency steps
  now = now_of central_rx peripheral_rx first slot steps is running

  run_on : GoesOn steps start
  run_on = running

  exchange : (asked : Asked) (role : Role) → ExchangeAgrees asked role s
  exchange asked role = by (stage_at asked (end_at role s)) refl
    where
      by : (stage : ExchangeStage) → stage_at asked (end_at role s) ≡ stage → AreInPlace stage asked role s
      by Idle at = asked_idle central_rx peripheral_rx first slot steps run_on asked role at
      by Unsent at = asked_unsent central_rx peripheral_rx first slot steps run_on asked role at
      by Sent at = asked_sent central_rx peripheral_rx first slot steps run_on asked role at

  version : (role : Role) → VersionAgrees role s
  version role =
      record {
        once = version_once central_rx peripheral_rx first slot steps run_on role;
        known = version_known central_rx peripheral_rx first slot steps run_on role;
        in_place = by (version_stage_at (end_at role s)) refl;
      }
    where
      by : (stage : ExchangeStage) → version_stage_at (end_at role s) ≡ stage → VersionIsInPlace stage role s
      by Idle at = tt
      by Unsent at = version_unsent central_rx peripheral_rx first slot steps run_on role at
      by Sent at = version_sent central_rx peripheral_rx first slot steps run_on role at

  encrypts : (role : Role) → is_quiet_now (end_at role s) ≡ not (has_encryption (end_at role s).control.table.progress)
  encrypts Central =
      subst (λ (t : Phased). is_quiet_now t ≡ not (has_encryption t.control.table.progress)) (sym (central_runs steps start))
      (agrees_now Central central_rx first slot (steps_of_central steps start))
  encrypts Peripheral =
      subst (λ (t : Phased). is_quiet_now t ≡ not (has_encryption t.control.table.progress)) (sym (peripheral_runs steps start))
      (agrees_now Peripheral peripheral_rx first slot (steps_of_peripheral steps start))

  pub sound_now : IsSound s
  sound_now =
      record {
        exclusive = agrees s now.reached;
        exchanges = exchange;
        versions = version;
        encryption = encrypts;
        phases = pairs_now central_rx peripheral_rx first slot steps is running;
        sealing = sealing_now central_rx peripheral_rx first slot steps is running;
        parameters = equal_now central_rx peripheral_rx first slot is.latency steps is.in_range;
        few = few_control_pdus central_rx peripheral_rx first slot steps run_on known.meant now.reached (events_of steps start) now.shown;
      }
