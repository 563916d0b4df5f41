-- Proof of `rows::worked_masks`: the definitions compute.
use Rattle.std.proofs.Common.{refl}
use Rattle.h4_frames.specs.Frames.{frames}
use Rattle.hci_cmd.specs.Command.{command_of, layout_of, layouts}
use Rattle.host_masks.proofs.rows.worked_masks.Goals as goal

pub returns : goal.returns
unfolding frames command_of layout_of layouts
returns c = record { first = refl; events = refl; le_events = refl; both = refl; part = refl; reset = refl; short = refl }
