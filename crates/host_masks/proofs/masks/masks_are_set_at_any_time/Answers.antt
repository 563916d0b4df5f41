-- Proof of `masks::masks_are_set_at_any_time`.
use Rattle.host_masks.proofs.MasksHeld.{le_mask_accepted, mask_accepted, reset_accepted}
use Rattle.host_masks.proofs.masks.masks_are_set_at_any_time.Goals as goal

pub returns : goal.returns
returns c = record { events = mask_accepted; le_events = le_mask_accepted; reset = reset_accepted }
