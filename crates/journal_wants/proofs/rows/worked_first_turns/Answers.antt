-- Proof of `rows::worked_first_turns`: the definitions compute.
use Rattle.std.proofs.Common.{refl}
use Rattle.h4_frames.specs.Frames.{frames}
use Rattle.hci_cmd.specs.Command.{command_of, layout_of, layouts}
use Rattle.host_view.specs.Changes.{view_after}
use Rattle.wire_fields.specs.Field.{little_endian}
use Rattle.journal_wants.specs.Station.{station_on}
use Rattle.journal_wants.proofs.rows.worked_first_turns.Goals as goal

pub returns : goal.returns
unfolding station_on view_after little_endian frames command_of layout_of layouts
returns c = record { advertiser = refl; initiator = refl; before = refl }
