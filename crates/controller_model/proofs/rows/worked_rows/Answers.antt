-- Proof of `rows::worked_rows`: the definitions compute.
use Rattle.std.proofs.Common.{refl}
use Rattle.h4_frames.specs.Frames.{frames}
use Rattle.wire_fields.specs.Field.{little_endian}
use Rattle.hci_cmd.specs.Command.{command_of, layout_of, layouts}
use Rattle.host_view.specs.Changes.{view_after}
use Rattle.host_view.specs.Status.{status_of}
use Rattle.controller_model.specs.Side.{notes_of, result_of}
use Rattle.controller_model.proofs.rows.worked_rows.Goals as goal

pub returns : goal.returns
unfolding notes_of result_of frames little_endian command_of layout_of layouts view_after status_of
returns c = record { reset = refl; unknown = refl; long_reset = refl; loss = refl; address = refl; random = refl; wrong_length = refl; no_link = refl }
