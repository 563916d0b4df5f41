-- Proof of `rows::worked_answers`: the definitions compute.
use Rattle.std.proofs.Common.{refl}
use Rattle.h4_frames.specs.Frames.{frames}
use Rattle.hci_cmd.specs.Command.{command_of, layout_of, layouts}
use Rattle.host_answers.proofs.rows.worked_answers.Goals as goal

pub returns : goal.returns
unfolding frames command_of layout_of layouts
returns c = record { first = refl; second = refl; refused = refl; other = refl; late = refl; all = refl }
