-- The keys of both ends of a link that is reached: each opens what the other has on the air, wherever their keys are equal,
-- and the session of each is in its phase.
use Rattle.std.proofs.Common.{◌≡◌, ◌+◌, Bool, true, sym, ap, ◌∙◌, subst}
use Rattle.ble_base.specs.declared.roles.Role.TheVariants.{Central, Peripheral}
use Rattle.joint_laws.specs.joint_controls.Joint.{Item, OnAir, is_running}
use Rattle.joint_laws.specs.joint_parameters.Turns.{Link}
use Rattle.joint_keys.specs.Opening.{CanOpen}
use Rattle.joint_keys.proofs.Closings.{GoesAlike}
use Rattle.joint_keys.proofs.EndChanges.{IsEnd}
use Rattle.joint_keys.proofs.LinkKeys.{central_in_phase, central_made, central_opens, goes_alike_in, peripheral_in_phase, peripheral_made, peripheral_opens}
use Rattle.joint_keys.proofs.Made.{IsMade}
use Rattle.link_model.specs.Setup.{Setup, first_anchor, first_params}
use Rattle.link_pairs.specs.Ends.{AreEnds}
use Rattle.link_pairs.specs.Shown.{link_of}
use Rattle.link_pairs.proofs.Reaching.{IsReached, keys_at}

module _ (central peripheral : Setup) (ends : AreEnds central peripheral) (l : Link) (r : IsReached central peripheral l)
    (running : is_running l.joint ≡ true) where
  goes : is_running (link_of central peripheral r.steps).joint ≡ true
  goes = subst (λ (k : Link). is_running k.joint ≡ true) (sym r.reaches) running

  pub can_open_down : (item : Item) (sealed : Bool) → l.joint.down ≡ OnAir item sealed
      → CanOpen (keys_at central peripheral l r).central.made (keys_at central peripheral l r).peripheral.end
  can_open_down item sealed at =
      peripheral_opens central.link.max_rx peripheral.link.max_rx (first_params central.link.fields) (first_anchor central) (central.opened + 1)
      ends.in_range.parameters.latency_to r.steps r.in_range goes item sealed (ap (λ (k : Link). k.joint.down) r.reaches ∙ at)

  pub can_open_up : (item : Item) (sealed : Bool) → l.joint.up ≡ OnAir item sealed
      → CanOpen (keys_at central peripheral l r).peripheral.made (keys_at central peripheral l r).central.end
  can_open_up item sealed at =
      central_opens central.link.max_rx peripheral.link.max_rx (first_params central.link.fields) (first_anchor central) (central.opened + 1)
      ends.in_range.parameters.latency_to r.steps r.in_range goes item sealed (ap (λ (k : Link). k.joint.up) r.reaches ∙ at)

  -- what is on the air was made with the session that its sender has
  pub made_down_at : (item : Item) (sealed : Bool) → l.joint.down ≡ OnAir item sealed → IsMade Central sealed (keys_at central peripheral l r).central
  made_down_at item sealed at =
      central_made central.link.max_rx peripheral.link.max_rx (first_params central.link.fields) (first_anchor central) (central.opened + 1)
      ends.in_range.parameters.latency_to r.steps r.in_range goes item sealed (ap (λ (k : Link). k.joint.down) r.reaches ∙ at)

  pub made_up_at : (item : Item) (sealed : Bool) → l.joint.up ≡ OnAir item sealed → IsMade Peripheral sealed (keys_at central peripheral l r).peripheral
  made_up_at item sealed at =
      peripheral_made central.link.max_rx peripheral.link.max_rx (first_params central.link.fields) (first_anchor central) (central.opened + 1)
      ends.in_range.parameters.latency_to r.steps r.in_range goes item sealed (ap (λ (k : Link). k.joint.up) r.reaches ∙ at)

  pub central_phase_at : IsEnd Central l.joint.central.phase (keys_at central peripheral l r).central.end
  central_phase_at =
      subst (λ (k : Link). IsEnd Central k.joint.central.phase (keys_at central peripheral l r).central.end) r.reaches
      (central_in_phase central.link.max_rx peripheral.link.max_rx (first_params central.link.fields) (first_anchor central) (central.opened + 1)
      ends.in_range.parameters.latency_to r.steps r.in_range goes)

  pub peripheral_phase_at : IsEnd Peripheral l.joint.peripheral.phase (keys_at central peripheral l r).peripheral.end
  peripheral_phase_at =
      subst (λ (k : Link). IsEnd Peripheral k.joint.peripheral.phase (keys_at central peripheral l r).peripheral.end) r.reaches
      (peripheral_in_phase central.link.max_rx peripheral.link.max_rx (first_params central.link.fields) (first_anchor central) (central.opened + 1)
      ends.in_range.parameters.latency_to r.steps r.in_range goes)

  -- by which rule data goes at an end
  pub goes_alike_at : GoesAlike l.joint.central × GoesAlike l.joint.peripheral
  goes_alike_at =
      subst (λ (k : Link). GoesAlike k.joint.central × GoesAlike k.joint.peripheral) r.reaches
      (goes_alike_in central.link.max_rx peripheral.link.max_rx (first_params central.link.fields) (first_anchor central) (central.opened + 1)
      ends.in_range.parameters.latency_to r.steps r.in_range goes)
