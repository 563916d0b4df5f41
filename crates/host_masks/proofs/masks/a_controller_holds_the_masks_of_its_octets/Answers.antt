-- Proof of `masks::a_controller_holds_the_masks_of_its_octets`.
use Rattle.host_masks.proofs.MasksHeld.{masks_held}
use Rattle.host_masks.proofs.masks.a_controller_holds_the_masks_of_its_octets.Goals as goal

pub returns : goal.returns
returns c = masks_held
