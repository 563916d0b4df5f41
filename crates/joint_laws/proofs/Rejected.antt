-- A collision of a joint run is rejected next, with no premise on what comes before.
use Rattle.std.proofs.Common.{◌≡◌, ℕ, Bool, true, List, [], ◌∷◌, ◌++◌, if◌then◌else◌, refl, ap, subst, ◌∙◌}
use Rattle.data_pdu.specs.declared.ctrl.Ctrl.{Ctrl}
use Rattle.exclusive_stages.specs.declared.pdus.Exclusive.{Exclusive}
use Rattle.instants.specs.declared.indications.Params.{Params}
use Rattle.joint_parameters.specs.procedure_values.declared.drafts.Outgoing.{Outgoing}
use Rattle.joint_parameters.specs.joint_controls.Joint.{CentralTakes, Joint, JointStep, act, after, after_all, beginning, is_running}
use Rattle.joint_collisions.specs.Arrivals.{Collides, collided}
use Rattle.joint_collisions.specs.Facts.{CentralFacts, IsState}
use Rattle.joint_collisions.proofs.CollisionLaws.{no_peer_then, own_stays, rejected_later, terminates_next}
use Rattle.joint_laws.specs.Prevailing.{CentralPrevails}
use Rattle.joint_laws.specs.Runs.{IsRun}
use Rattle.joint_laws.proofs.EachState.{all_known, now, range_more}

one_more : (step : JointStep) (steps : List JointStep) (s : Joint) → after_all (steps ++ step ∷ []) s ≡ after step (after_all steps s)
one_more step [] s = refl
one_more step (first ∷ steps) s = one_more step steps (after first s)

module _ (central_rx peripheral_rx : ℕ) (first : Params) (slot : ℕ) where
  abbrev pub start : Joint
  start = beginning central_rx peripheral_rx first slot

  -- each state of a joint run that goes on is one of the machine of exclusive procedures
  pub state_of : (steps : List JointStep) → IsRun first steps → is_running (after_all steps start) ≡ true → IsState (after_all steps start)
  state_of steps is goes =
      let known = all_known central_rx peripheral_rx first slot is.latency steps is in
      record {
        central_rx = central_rx;
        peripheral_rx = peripheral_rx;
        first = first;
        slot = slot;
        steps = steps;
        latency = is.latency;
        in_range = is.in_range;
        before = known.exclusive;
        now = (now central_rx peripheral_rx first slot is.latency steps known goes).exclusive;
        reaches = refl;
      }

  module _ (steps : List JointStep) (p q : Exclusive) (outgoing : Outgoing) (ctrl : Ctrl) (c : Collides (after_all steps start) p q outgoing ctrl) (is : IsRun first steps)
      (running : is_running (after_all steps start) ≡ true) (goes : is_running (collided (after_all steps start) p q outgoing ctrl c) ≡ true) where
    abbrev s : Joint
    s = after_all steps start

    abbrev next : List JointStep
    next = steps ++ CentralTakes c.takes.slot ∷ []

    is_next : after_all next start ≡ collided s p q outgoing ctrl c
    is_next =
        one_more (CentralTakes c.takes.slot) steps start
        ∙ ap (λ (b : Bool). if b then act (CentralTakes c.takes.slot) s else s) c.takes.comes

    run_next : IsRun first next
    run_next = record { latency = is.latency; in_range = range_more (CentralTakes c.takes.slot) steps is.in_range tt }

    facts_next : CentralFacts (collided s p q outgoing ctrl c).central
    facts_next =
        let known = all_known central_rx peripheral_rx first slot is.latency next run_next in
        let here = ap (λ (t : Joint). is_running t) is_next ∙ goes in
        subst (λ (t : Joint). CentralFacts t.central) is_next (now central_rx peripheral_rx first slot is.latency next known here).exclusive.central

    pub prevails : CentralPrevails s p q outgoing ctrl c
    prevails =
        let state = state_of steps is running in
        record {
          own = own_stays s p q outgoing ctrl c state goes;
          peer = no_peer_then s p q outgoing ctrl c state goes;
          rejected = λ later opened silent. rejected_later s p q outgoing ctrl c state goes facts_next opened later silent;
          closing = λ closing. terminates_next s p q outgoing ctrl c state goes facts_next closing;
        }
