-- Proof of `rows::worked_answers`: the definitions compute.
use Rattle.std.proofs.Common.{refl}
use Rattle.h4_frames.specs.Frames.{frames}
use Rattle.wire_fields.specs.Field.{little_endian}
use Rattle.hci_cmd.specs.Command.{command_of, layout_of, layouts}
use Rattle.host_view.specs.Changes.{view_after}
use Rattle.host_view.specs.Status.{status_of}
use Rattle.controller_model.specs.Side.{notes_of, result_of}
use Rattle.controller_model.specs.Host.{commands_of}
use Rattle.controller_model.proofs.rows.worked_answers.Goals as goal

pub returns : goal.returns
unfolding commands_of result_of frames command_of layout_of layouts view_after status_of notes_of little_endian
returns c = record { commands = refl; answers = refl }
