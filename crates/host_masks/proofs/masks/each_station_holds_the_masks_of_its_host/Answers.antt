-- Proof of `masks::each_station_holds_the_masks_of_its_host`.
use Rattle.host_masks.proofs.OctetsHeld.{masks_at_end, masks_before, masks_called}
use Rattle.host_masks.proofs.masks.each_station_holds_the_masks_of_its_host.Goals as goal

pub returns : goal.returns
returns c = record { called = masks_called; before_an_event = masks_before; at_the_end = masks_at_end }
