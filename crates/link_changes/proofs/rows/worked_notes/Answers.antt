-- Proof of `rows::worked_notes`: the definitions compute.
use Rattle.std.proofs.Common.{refl}
use Rattle.ble_base.specs.ChannelMap.{data_channels, used_channels}
use Rattle.data_pdu.specs.Layouts.{makers}
use Rattle.data_pdu.specs.Reading.{ctrl_of}
use Rattle.wire_fields.specs.Field.{little_endian}
use Rattle.link_changes.proofs.rows.worked_notes.Goals as goal

pub returns : goal.returns
unfolding ctrl_of makers little_endian used_channels data_channels
returns c = record { waits = refl; noted = refl; event = refl; holds = refl; sent = refl; of_the_other = refl; wraps = refl; no_indication = refl }
