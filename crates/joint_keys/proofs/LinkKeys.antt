-- A link with its keys, at any place while it goes on: its steps are a joint run whose hosts ask what is in range, and what
-- one end has on the air the other opens.
use Rattle.std.proofs.Common.{◌≡◌, ◌≤◌, ℕ, Bool, true, List, [], ◌∷◌, ◌++◌, sym, subst}
use Rattle.ble_base.specs.declared.roles.Role.TheVariants.{Central, Peripheral}
use Rattle.instants.specs.declared.indications.Params.{Params}
use Rattle.phase_pairs.specs.Counted.{counted_run}
use Rattle.phased_control.specs.enc_phase.Sealing.{after_opening}
use Rattle.phased_control.specs.Phased.{is_quiet_now}
use Rattle.two_tracks.specs.TwoEnds.{enters}
use Rattle.joint_controls.specs.Ends.{AreStepsInRange}
use Rattle.joint_controls.specs.Joint.{CentralAcked, CentralEnters, CentralTakes, Item, Joint, OnAir, PeripheralAcked, PeripheralEnters, PeripheralTakes, is_running, is_taken, item_on_air}
use Rattle.joint_laws.specs.Runs.{IsRun}
use Rattle.joint_laws.specs.joint_parameters.Turns.{Alone, AreLinksInRange, Begins, CentralShuts, IsAnswered, IsHeard, IsLinkInRange, Link, LinkStep, PeripheralShuts, SendsControl, SendsData, SendsEmpty, all_joint_steps, first_link, fixing_steps, joint_steps, link_after, link_after_all, step_if, takes_item}
use Rattle.joint_laws.proofs.joint_parameters.Hearing.{range_before, range_if}
use Rattle.joint_laws.proofs.joint_parameters.Runs.{range_joined}
use Rattle.joint_keys.specs.KeyedJoint.{KeyedJoint, KeyedJointStep, keyed_beginning, steps_of}
use Rattle.joint_keys.specs.KeyedLinks.{KeyedLinkStep, all_keyed_steps, keys_of, link_steps}
use Rattle.joint_keys.specs.OneKey.{AreOneKey}
use Rattle.joint_keys.specs.Opening.{CanOpen}
use Rattle.joint_keys.proofs.Closings.{GoesAlike, goes_alike}
use Rattle.joint_keys.proofs.Counting.{link_of_run}
use Rattle.joint_keys.proofs.EndChanges.{IsEnd}
use Rattle.joint_keys.proofs.KeyedLinks.{keys_joint, steps_of_link}
use Rattle.joint_keys.proofs.Made.{IsMade}
use Rattle.joint_keys.proofs.NextPdus.{after_down, after_up, is_settled, next_down, next_up}
use Rattle.joint_keys.proofs.OneKeys.{one_keyed}
use Rattle.joint_keys.proofs.Opened.{keys_down, keys_up, made_down, made_up, opens_down, opens_up}
use Rattle.joint_keys.proofs.Vectored.{Vectored, vectored}
use Rattle.joint_keys.proofs.Walking.{Here, here_now}

-- ---- what the hosts ask in a link is in its range

pub step_in_range : (step : LinkStep) (l : Link) → IsLinkInRange step → AreStepsInRange (joint_steps step l)
step_in_range (Begins slot) l is =
    let central = enters l.turns.turns l.turns.central_open l.turns.central in
    let peripheral = enters l.turns.turns l.turns.peripheral_open l.turns.peripheral in
    range_joined (step_if central (CentralEnters slot)) (step_if peripheral (PeripheralEnters slot)) (range_if central (CentralEnters slot) tt)
    (range_if peripheral (PeripheralEnters slot) tt)
step_in_range (SendsControl slot) l is = (tt, tt)
step_in_range SendsData l is = (tt, tt)
step_in_range SendsEmpty l is = tt
step_in_range (IsHeard room fixing slot response) l is =
    let takes = takes_item room (item_on_air l.joint.down) in
    range_joined (step_if (is_taken l.joint.up) PeripheralAcked ++ fixing_steps fixing slot) (step_if takes (PeripheralTakes slot response))
    (range_before l.joint fixing slot) (range_if takes (PeripheralTakes slot response) tt)
step_in_range (IsAnswered room slot) l is =
    let takes = takes_item room (item_on_air l.joint.up) in
    range_joined (step_if (is_taken l.joint.down) CentralAcked) (step_if takes (CentralTakes slot)) (range_if (is_taken l.joint.down) CentralAcked tt)
    (range_if takes (CentralTakes slot) tt)
step_in_range (Alone step) l is = (is, tt)
step_in_range CentralShuts l is = (tt, tt)
step_in_range PeripheralShuts l is = (tt, tt)

pub all_in_range : (steps : List LinkStep) (l : Link) → AreLinksInRange steps → AreStepsInRange (all_joint_steps steps l)
all_in_range [] l range = tt
all_in_range (step ∷ steps) l range =
    range_joined (joint_steps step l) (all_joint_steps steps (link_after step l)) (step_in_range step l range.0) (all_in_range steps (link_after step l) range.1)

-- ---- a link that goes on

module _ (central_rx peripheral_rx : ℕ) (first : Params) (slot turns : ℕ) (latency : first.latency ≤ 499) (steps : List KeyedLinkStep)
    (range : AreLinksInRange (link_steps steps)) where
  abbrev pub link_now : Link
  link_now = link_after_all (link_steps steps) (first_link central_rx peripheral_rx first slot turns)

  abbrev pub keys_now : KeyedJoint
  keys_now = keys_of central_rx peripheral_rx first slot turns steps

  abbrev pub steps_now : List KeyedJointStep
  steps_now = all_keyed_steps steps (first_link central_rx peripheral_rx first slot turns)

  is_joint : keys_now.joint ≡ link_now.joint
  is_joint = keys_joint central_rx peripheral_rx first slot turns steps

  pub is_run : IsRun first (steps_of steps_now)
  is_run =
      record {
        latency = latency;
        in_range =
            subst AreStepsInRange (sym (steps_of_link steps (first_link central_rx peripheral_rx first slot turns)))
            (all_in_range (link_steps steps) (first_link central_rx peripheral_rx first slot turns) range);
      }

  module _ (running : is_running link_now.joint ≡ true) where
    runs_on : is_running keys_now.joint ≡ true
    runs_on = subst (λ (j : Joint). is_running j ≡ true) (sym is_joint) running

    here : Here keys_now.joint
    here = here_now central_rx peripheral_rx first slot steps_now is_run runs_on

    v : Vectored keys_now
    v = vectored central_rx peripheral_rx first slot steps_now is_run runs_on

    -- each end is in its phase, with its role
    pub central_in_phase : IsEnd Central link_now.joint.central.phase keys_now.central.end
    central_in_phase = subst (λ (j : Joint). IsEnd Central j.central.phase keys_now.central.end) is_joint v.standing.central

    pub peripheral_in_phase : IsEnd Peripheral link_now.joint.peripheral.phase keys_now.peripheral.end
    peripheral_in_phase = subst (λ (j : Joint). IsEnd Peripheral j.peripheral.phase keys_now.peripheral.end) is_joint v.standing.peripheral

    -- by which rule data goes at an end
    pub goes_alike_in : GoesAlike link_now.joint.central × GoesAlike link_now.joint.peripheral
    goes_alike_in =
        subst (λ (j : Joint). GoesAlike j.central × GoesAlike j.peripheral) is_joint
        (goes_alike keys_now.joint (counted_run v.standing.events).link v.standing.events (link_of_run v.standing.events) v.standing.shown)

    -- what a quiet end sends next the other opens, where nothing of it is on its way
    pub central_next : is_quiet_now link_now.joint.central ≡ true → is_settled link_now.joint.down ≡ true → CanOpen keys_now.central.end keys_now.peripheral.end
    central_next =
        subst (λ (j : Joint). is_quiet_now j.central ≡ true → is_settled j.down ≡ true → CanOpen keys_now.central.end keys_now.peripheral.end) is_joint
        (next_down keys_now here v.standing v.agreed.vector)

    pub peripheral_next : is_quiet_now link_now.joint.peripheral ≡ true → is_settled link_now.joint.up ≡ true → CanOpen keys_now.peripheral.end keys_now.central.end
    peripheral_next =
        subst (λ (j : Joint). is_quiet_now j.peripheral ≡ true → is_settled j.up ≡ true → CanOpen keys_now.peripheral.end keys_now.central.end) is_joint
        (next_up keys_now here v.standing v.agreed.vector)

    -- a PDU of the central is on the air
    module _ (item : Item) (sealed : Bool) (at : link_now.joint.down ≡ OnAir item sealed) where
      at_down : keys_now.joint.down ≡ OnAir item sealed
      at_down = subst (λ (j : Joint). j.down ≡ OnAir item sealed) (sym is_joint) at

      pub central_made : IsMade Central sealed keys_now.central
      central_made = made_down keys_now here v.standing item sealed at_down

      pub peripheral_opens : CanOpen keys_now.central.made keys_now.peripheral.end
      peripheral_opens = opens_down keys_now here v.standing item sealed v.agreed.vector at_down

      -- and the next one, once that is opened
      pub central_after : CanOpen keys_now.central.end (after_opening keys_now.peripheral.end)
      central_after = after_down keys_now here v.standing v.agreed.vector item sealed at_down

      pub keys_of_down : AreOneKey steps_now (keyed_beginning central_rx peripheral_rx first slot) → sealed ≡ true
          → keys_now.central.made.key ≡ keys_now.peripheral.end.key
      keys_of_down one =
          keys_down keys_now here v.standing item sealed (one_keyed central_rx peripheral_rx first slot steps_now is_run one runs_on).same.equal at_down

    -- a PDU of the peripheral is on the air
    module _ (item : Item) (sealed : Bool) (at : link_now.joint.up ≡ OnAir item sealed) where
      at_up : keys_now.joint.up ≡ OnAir item sealed
      at_up = subst (λ (j : Joint). j.up ≡ OnAir item sealed) (sym is_joint) at

      pub peripheral_made : IsMade Peripheral sealed keys_now.peripheral
      peripheral_made = made_up keys_now here v.standing item sealed at_up

      pub central_opens : CanOpen keys_now.peripheral.made keys_now.central.end
      central_opens = opens_up keys_now here v.standing item sealed v.agreed.vector at_up

      pub peripheral_after : CanOpen keys_now.peripheral.end (after_opening keys_now.central.end)
      peripheral_after = after_up keys_now here v.standing v.agreed.vector item sealed at_up

      pub keys_of_up : AreOneKey steps_now (keyed_beginning central_rx peripheral_rx first slot) → sealed ≡ true
          → keys_now.peripheral.made.key ≡ keys_now.central.end.key
      keys_of_up one =
          keys_up keys_now here v.standing item sealed (one_keyed central_rx peripheral_rx first slot steps_now is_run one runs_on).same.equal at_up
