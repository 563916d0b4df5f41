-- Proof of `rows::worked_settings`: the definitions compute.
use Rattle.std.proofs.Common.{refl}
use Rattle.h4_frames.specs.Frames.{frames}
use Rattle.hci_cmd.specs.Command.{command_of, layout_of, layouts}
use Rattle.journal_hearings.proofs.rows.worked_settings.Goals as goal

pub returns : goal.returns
unfolding frames command_of layout_of layouts
returns c = record { accepted = refl; refused = refl; other = refl; undone = refl; in_order = refl; left_out = refl; left_out_too = refl; listed = refl; not_listed = refl }
