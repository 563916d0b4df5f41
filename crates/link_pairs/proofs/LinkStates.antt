-- What holds at a link that is reached, and once its central has seen its last PDU acknowledged: what each end keeps, and that
-- the other end opens what it sends next, or nothing comes.
use Rattle.std.proofs.Common.{◌≡◌, ◌⊎◌, ◌+◌, Bool, true, false, [], None, refl, sym, ap, ◌∙◌, subst, if◌then◌else◌}
use Rattle.joint_laws.specs.joint_controls.phased_control.enc_phase.Phases.{is_quiet}
use Rattle.joint_laws.specs.joint_controls.phased_control.Phased.{is_quiet_now}
use Rattle.joint_laws.specs.joint_controls.Joint.{CentralAcked, Joint, act, is_running, is_taken, may_act}
use Rattle.joint_laws.specs.joint_parameters.Turns.{Link}
use Rattle.joint_laws.proofs.joint_parameters.Pairing.{running_from}
use Rattle.joint_keys.specs.KeyedJoint.{KeyedJoint, keyed_act}
use Rattle.joint_keys.specs.KeyedLinks.{all_keyed_steps}
use Rattle.joint_keys.specs.Opening.{CanOpen}
use Rattle.joint_keys.proofs.LinkKeys.{is_run}
use Rattle.joint_keys.proofs.NextPdus.{is_settled}
use Rattle.joint_keys.proofs.Vectored.{Vectored, vectored, vectored_next}
use Rattle.joint_keys.proofs.Walking.{Here, here_now}
use Rattle.link_model.specs.Setup.{Setup, first_anchor, first_params}
use Rattle.link_pairs.specs.Ends.{AreEnds}
use Rattle.link_pairs.specs.Parting.{HasNothing}
use Rattle.link_pairs.specs.Shown.{new_link}
use Rattle.link_pairs.proofs.NextOpened.{next_down, next_up}
use Rattle.link_pairs.proofs.PhasedEnds.{acked_lasts}
use Rattle.link_pairs.proofs.Reaching.{IsReached, joint_at, keys_at}

-- ---- what an end keeps, in a state

kept_central : (s : KeyedJoint) → Vectored s → is_quiet_now s.joint.central ≡ true → s.joint.central.kept ≡ None
kept_central s v quiet = v.standing.shown.central.kept (ap is_quiet (sym v.standing.shown.central.phase) ∙ quiet)

module _ (central peripheral : Setup) (ends : AreEnds central peripheral) (l : Link) (r : IsReached central peripheral l)
    (running : is_running l.joint ≡ true) where
  abbrev k : KeyedJoint
  k = keys_at central peripheral l r

  same : k.joint ≡ l.joint
  same = joint_at central peripheral l r

  runs : is_running k.joint ≡ true
  runs = subst (λ (j : Joint). is_running j ≡ true) (sym same) running

  here : Here k.joint
  here =
      here_now central.link.max_rx peripheral.link.max_rx (first_params central.link.fields) (first_anchor central)
      (all_keyed_steps r.steps (new_link central peripheral))
      (is_run central.link.max_rx peripheral.link.max_rx (first_params central.link.fields) (first_anchor central) (central.opened + 1)
      ends.in_range.parameters.latency_to r.steps r.in_range) runs

  v : Vectored k
  v =
      vectored central.link.max_rx peripheral.link.max_rx (first_params central.link.fields) (first_anchor central)
      (all_keyed_steps r.steps (new_link central peripheral))
      (is_run central.link.max_rx peripheral.link.max_rx (first_params central.link.fields) (first_anchor central) (central.opened + 1)
      ends.in_range.parameters.latency_to r.steps r.in_range) runs

  -- ---- a peripheral

  pub peripheral_keeps_none : l.joint.peripheral.kept ≡ None
  peripheral_keeps_none = ap (λ (j : Joint). j.peripheral.kept) (sym same) ∙ v.standing.shown.peripheral.kept

  -- its session is in its phase
  pub peripheral_in_phase : k.peripheral.end.phase ≡ l.joint.peripheral.phase
  peripheral_in_phase = v.standing.peripheral.phase_too ∙ ap (λ (j : Joint). j.peripheral.phase) same

  pub opens_up : is_settled l.joint.up ≡ true → CanOpen k.peripheral.end k.central.end ⊎ HasNothing l.joint.peripheral
  opens_up settled =
      subst (λ (j : Joint). CanOpen k.peripheral.end k.central.end ⊎ HasNothing j.peripheral) same
      (next_up k v.standing v.agreed.vector (ap (λ (j : Joint). is_settled j.up) same ∙ settled))

  -- ---- a central that sees its last PDU acknowledged, if that was taken

  abbrev pub acked : Bool → KeyedJoint
  acked taken = if taken then keyed_act (record { step = CentralAcked; ltk = [] }) k else k

  acks_on : may_act CentralAcked k.joint ≡ true → Vectored (acked true)
  acks_on may =
      vectored_next k (record { step = CentralAcked; ltk = [] }) here v may
      (running_from (act CentralAcked k.joint) here.goes.goes (acked_lasts true k.joint.central here.goes.central) here.goes.peripheral)

  module _ (may : is_taken l.joint.down ≡ true → may_act CentralAcked l.joint ≡ true) where
    v_acked : (taken : Bool) → is_taken l.joint.down ≡ taken → Vectored (acked taken)
    v_acked true is = acks_on (ap (may_act CentralAcked) same ∙ may is)
    v_acked false is = v

    pub central_keeps : (taken : Bool) → is_taken l.joint.down ≡ taken → is_quiet_now (acked taken).joint.central ≡ true → (acked taken).joint.central.kept ≡ None
    central_keeps taken is = kept_central (acked taken) (v_acked taken is)

    pub opens_down : (taken : Bool) → is_taken l.joint.down ≡ taken → is_settled (acked taken).joint.down ≡ true
        → CanOpen (acked taken).central.end (acked taken).peripheral.end ⊎ HasNothing (acked taken).joint.central
    opens_down taken is settled = next_down (acked taken) (v_acked taken is).standing (v_acked taken is).agreed.vector settled

  -- nothing of it is on its way then, if it is not out
  pub settles : (taken : Bool) → is_taken l.joint.down ≡ taken → is_settled l.joint.down ≡ true → is_settled (acked taken).joint.down ≡ true
  settles true is settled = refl
  settles false is settled = ap (λ (j : Joint). is_settled j.down) same ∙ settled

  pub acked_peripheral : (taken : Bool) → (acked taken).peripheral.end ≡ k.peripheral.end
  acked_peripheral true = refl
  acked_peripheral false = refl
