-- The joint run of a link that is reached by its steps, and the run of both tracks by turns.
use Rattle.std.proofs.Common.{◌≡◌, ◌+◌, ◌≤◌, List, subst, arith}
use Rattle.two_tracks.specs.Reached as by_turns
use Rattle.joint_laws.specs.joint_controls.Joint.{Joint, JointStep, after_all}
use Rattle.joint_laws.specs.Runs.{IsRun}
use Rattle.joint_keys.specs.KeyedLinks.{KeyedLinkStep, link_steps}
use Rattle.joint_keys.proofs.LinkKeys.{all_in_range}
use Rattle.joint_laws.specs.joint_parameters.Turns.{AreLinksInRange, Link, MayLinkAll, all_joint_steps}
use Rattle.joint_laws.proofs.joint_parameters.Linking.{joint_run, turns_reached}
use Rattle.link_model.specs.Setup.{Setup, first_anchor, first_params}
use Rattle.link_pairs.specs.Ends.{AreEnds}
use Rattle.link_pairs.specs.Shown.{link_of, new_link}
use Rattle.link_pairs.specs.Sound.{first_joint}
use Rattle.link_pairs.proofs.Reaching.{IsReached}

-- ---- the runs of a link that is reached

module _ (central peripheral : Setup) where
  -- a joint run comes to this state
  pub record HasRun (s : Joint) : Type 0 where
    pub steps : List JointStep
    pub run : IsRun (first_params central.link.fields) steps
    pub reaches : after_all steps (first_joint central peripheral) ≡ s

  module _ (ends : AreEnds central peripheral) where
    anchored : central.opened + 1 ≤ first_anchor central
    anchored = omega arith

    pub run_of : (steps : List KeyedLinkStep) → AreLinksInRange (link_steps steps)
        → IsRun (first_params central.link.fields) (all_joint_steps (link_steps steps) (new_link central peripheral))
    run_of steps in_range =
        record {
          latency = ends.in_range.parameters.latency_to;
          in_range = all_in_range (link_steps steps) (new_link central peripheral) in_range;
        }

    run_after : (steps : List KeyedLinkStep) → MayLinkAll (link_steps steps) (new_link central peripheral) → AreLinksInRange (link_steps steps)
        → HasRun (link_of central peripheral steps).joint
    run_after steps may in_range =
        record {
          steps = all_joint_steps (link_steps steps) (new_link central peripheral);
          run = run_of steps in_range;
          reaches =
              joint_run central.link.max_rx peripheral.link.max_rx (first_params central.link.fields) (first_anchor central)
              ends.in_range.parameters.latency_to (central.opened + 1) anchored ends.in_range.parameters.interval_from (link_steps steps) in_range may;
        }

    pub has_run : (l : Link) → IsReached central peripheral l → HasRun l.joint
    has_run l r = subst (λ (k : Link). HasRun k.joint) r.reaches (run_after r.steps r.may r.in_range)

    -- both tracks come to what they are by turns
    pub by_turns_too : (l : Link) → IsReached central peripheral l
        → by_turns.IsReached (first_params central.link.fields) (first_anchor central) l.turns
    by_turns_too l r =
        subst (λ (k : Link). by_turns.IsReached (first_params central.link.fields) (first_anchor central) k.turns) r.reaches
        (turns_reached central.link.max_rx peripheral.link.max_rx (first_params central.link.fields) (first_anchor central)
        ends.in_range.parameters.latency_to (central.opened + 1) anchored ends.in_range.parameters.interval_from (link_steps r.steps) r.in_range r.may)
