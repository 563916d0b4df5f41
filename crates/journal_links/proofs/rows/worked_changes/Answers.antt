-- Proof of `rows::worked_changes`: the definitions compute.
use Rattle.std.proofs.Common.{refl}
use Rattle.ble_base.specs.ChannelMap.{data_channels, used_channels}
use Rattle.journal_links.proofs.rows.worked_changes.Goals as goal
use Rattle.link_changes.specs.data_pdu.Layouts.{makers}
use Rattle.link_changes.specs.data_pdu.Reading.{ctrl_of}

pub returns : goal.returns
unfolding ctrl_of makers used_channels data_channels
returns c = record { central = refl; peripheral = refl; taken = refl; other = refl; interval = refl }
