-- Proof of `rows::worked_withholding`: the definitions compute.
use Rattle.std.proofs.Common.{refl}
use Rattle.h4_frames.specs.Frames.{frames}
use Rattle.hci_cmd.specs.Command.{command_of, layout_of, layouts}
use Rattle.host_masks.proofs.rows.worked_withholding.Goals as goal

pub returns : goal.returns
unfolding frames command_of layout_of layouts
returns c = record { first = refl; events = refl; le_events = refl; both = refl; reset = refl }
