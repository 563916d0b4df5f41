-- What holds of the state of each joint run holds of each link that is reached by its steps.
use Rattle.std.proofs.Common.{◌≡◌, ◌≤◌, ◌⊎◌, inl, inr, ℕ, true, List, [], ◌∷◌, None, refl, ap, ◌∙◌, subst, arith}
use Rattle.ble_base.specs.Limits.{first_payload_octets}
use Rattle.ble_base.specs.declared.roles.Role.TheVariants.{Central, Peripheral}
use Rattle.joint_laws.specs.joint_controls.Ends.{steps_of_peripheral}
use Rattle.joint_laws.specs.joint_controls.phased_control.Phased.{Phased}
use Rattle.joint_laws.specs.joint_controls.phased_control.Taken.{PhasedStep, phased_after, phased_after_all}
use Rattle.joint_laws.proofs.joint_controls.EndSteps.{peripheral_runs}
use Rattle.joint_laws.proofs.joint_controls.phased_control.Agreeing.{Sound, sound_after, sound_first}
use Rattle.joint_laws.specs.joint_controls.Joint.{Joint, JointStep, after_all, is_running}
use Rattle.joint_laws.proofs.joint_controls.LastPdus.{Tied, first_tied, tied}
use Rattle.joint_laws.proofs.joint_controls.Running.{after_each}
use Rattle.joint_laws.proofs.joint_exchanges.States.{length_known}
use Rattle.joint_laws.specs.joint_parameters.Turns.{Link}
use Rattle.link_model.specs.Setup.{Setup, first_anchor, first_params}
use Rattle.link_pairs.specs.Ends.{AreEnds}
use Rattle.link_pairs.specs.Sound.{first_joint}
use Rattle.link_pairs.proofs.JointRuns.{has_run}
use Rattle.link_pairs.proofs.LastControl.{BothSo, step_so}
use Rattle.link_pairs.proofs.Reaching.{IsReached}

module _ (central peripheral : Setup) (ends : AreEnds central peripheral) where
  abbrev start : Joint
  start = first_joint central peripheral

  in_runs : (P : Joint → Type 0) → ((steps : List JointStep) → P (after_all steps start)) → (l : Link) → IsReached central peripheral l → P l.joint
  in_runs P holds l r =
      let run = has_run central peripheral ends l r in
      subst P run.reaches (holds run.steps)

  -- the last PDU of each end is on its way
  pub tied_link : (l : Link) → IsReached central peripheral l → Tied l.joint
  tied_link =
      in_runs Tied
      (λ steps. tied steps start
      (first_tied central.link.max_rx peripheral.link.max_rx (first_params central.link.fields) (first_anchor central)))

  -- a peripheral has no request for an encryption
  sound_all : (steps : List PhasedStep) (x : Phased) → Sound Peripheral x → Sound Peripheral (phased_after_all steps x)
  sound_all [] x sound = sound
  sound_all (step ∷ steps) x sound = sound_all steps (phased_after step x) (sound_after Peripheral step x sound)

  pub requests_none : (l : Link) → IsReached central peripheral l → l.joint.peripheral.request ≡ None
  requests_none =
      in_runs (λ (j : Joint). j.peripheral.request ≡ None)
      (λ steps. ap (λ (x : Phased). x.request) (peripheral_runs steps start)
      ∙ (sound_all (steps_of_peripheral steps start) start.peripheral
      (sound_first Peripheral peripheral.link.max_rx (first_params central.link.fields) (first_anchor central))).requests.peripheral refl)

  -- an end whose last control PDU is LL_TERMINATE_IND sends no further one
  pub ends_so : (l : Link) → IsReached central peripheral l → BothSo l.joint
  ends_so =
      in_runs BothSo (λ steps. after_each BothSo step_so steps start (record { central = λ is. absurd (cc); peripheral = λ is. absurd (cc) }))

  -- each end knows 27 octets, or what the other receives
  known_within : (known most : ℕ) → first_payload_octets ≤ most → (known ≡ first_payload_octets) ⊎ (known ≡ most) → known ≤ most
  known_within known most least (inl is) = omega (arith, least, is)
  known_within known most least (inr is) = omega (arith, is)

  pub central_knows : (l : Link) → IsReached central peripheral l → is_running l.joint ≡ true
      → l.joint.central.control.table.lengths.peer_rx ≤ peripheral.link.max_rx
  central_knows =
      in_runs (λ (j : Joint). is_running j ≡ true → j.central.control.table.lengths.peer_rx ≤ peripheral.link.max_rx)
      (λ steps running. known_within _ peripheral.link.max_rx ends.peripheral_max.from
      (length_known central.link.max_rx peripheral.link.max_rx (first_params central.link.fields) (first_anchor central) steps running
      ends.central_max.from ends.peripheral_max.from Peripheral))

  pub peripheral_knows : (l : Link) → IsReached central peripheral l → is_running l.joint ≡ true
      → l.joint.peripheral.control.table.lengths.peer_rx ≤ central.link.max_rx
  peripheral_knows =
      in_runs (λ (j : Joint). is_running j ≡ true → j.peripheral.control.table.lengths.peer_rx ≤ central.link.max_rx)
      (λ steps running. known_within _ central.link.max_rx ends.central_max.from
      (length_known central.link.max_rx peripheral.link.max_rx (first_params central.link.fields) (first_anchor central) steps running
      ends.central_max.from ends.peripheral_max.from Central))
