-- What the machine of phases asks of the other procedures holds in each state of a joint run in which that goes on.
use Rattle.std.proofs.Common.{◌≡◌, ℕ, true, List, sym, subst}
use Rattle.instants.specs.declared.indications.Params.{Params}
use Rattle.joint_parameters.specs.procedure_stages.InProgress.{is_host_asked}
use Rattle.joint_parameters.specs.phased_control.Phased.{Phased, is_quiet_now}
use Rattle.joint_parameters.specs.joint_controls.Ends.{steps_of_central}
use Rattle.joint_parameters.specs.joint_controls.Joint.{Joint, JointStep, after_all, beginning}
use Rattle.joint_parameters.proofs.joint_controls.EndSteps.{central_runs}
use Rattle.joint_collisions.specs.Views.{IsReached, view_of}
use Rattle.joint_exchanges.specs.Runs.{GoesOn}
use Rattle.joint_phases.specs.Facts.{Facts}
use Rattle.joint_laws.proofs.PeerInQuiet.{asked_quietly}
use Rattle.joint_laws.proofs.CentralFacts.{own_first, taken_is_out}
use Rattle.joint_laws.proofs.PeripheralFacts.{begins_alone}
use Rattle.joint_laws.proofs.VersionFacts.{known_down, known_queue, known_up, known_used, known_way, sent_comes, unused_queue, unused_way, used_comes}

module _ (central_rx peripheral_rx : ℕ) (first : Params) (slot : ℕ) (steps : List JointStep) where
  abbrev s : Joint
  s = after_all steps (beginning central_rx peripheral_rx first slot)

  asked_in_quiet : is_host_asked s.central.control.table.progress ≡ true → is_quiet_now s.central ≡ true
  asked_in_quiet =
      subst (λ (t : Phased). is_host_asked t.control.table.progress ≡ true → is_quiet_now t ≡ true) (sym (central_runs steps (beginning central_rx peripheral_rx first slot)))
      (asked_quietly central_rx first slot (steps_of_central steps (beginning central_rx peripheral_rx first slot)))

  -- where the procedures that exclude each other have come to this state by steps of their own
  pub facts_hold : GoesOn steps (beginning central_rx peripheral_rx first slot) → IsReached (view_of s) → Facts s
  facts_hold run_on reached =
      record {
        own_first = own_first central_rx peripheral_rx first slot steps run_on reached;
        asked_in_quiet = asked_in_quiet;
        taken_is_out = taken_is_out central_rx peripheral_rx first slot steps;
        begins_alone = begins_alone central_rx peripheral_rx first slot steps run_on reached;
        known_down = known_down central_rx peripheral_rx first slot steps run_on;
        known_up = known_up central_rx peripheral_rx first slot steps run_on;
        known_queue = known_queue central_rx peripheral_rx first slot steps run_on;
        known_way = known_way central_rx peripheral_rx first slot steps run_on;
        unused_queue = unused_queue central_rx peripheral_rx first slot steps run_on;
        unused_way = unused_way central_rx peripheral_rx first slot steps run_on;
        used_comes = used_comes central_rx peripheral_rx first slot steps run_on;
        sent_comes = sent_comes central_rx peripheral_rx first slot steps run_on;
        known_used = known_used central_rx peripheral_rx first slot steps run_on;
      }
