-- The rows of `an_update_and_a_phy_update_collide` compute.
use Rattle.std.proofs.Common.{refl}
use Rattle.ble_base.specs.ChannelMap.{data_channels, used_channels}
use Rattle.chan_select.specs.Channel.{channel_of}
use Rattle.chan_select.specs.PseudoRandom.{mam, perm, prn, reversed_octet, stage}
use Rattle.data_pdu.specs.Reading.{ctrl_of}
use Rattle.data_pdu.specs.Layouts.{makers}
use Rattle.wire_fields.specs.Field.{little_endian}
use Rattle.run_collisions.proofs.rows.an_update_and_a_phy_update_collide.Goals as goal

pub returns-clause-rejected : goal.returns-clause-rejected
unfolding ctrl_of makers little_endian channel_of mam perm prn reversed_octet stage used_channels data_channels
returns-clause-rejected c = refl

pub returns-clause-took : goal.returns-clause-took
unfolding ctrl_of makers little_endian channel_of mam perm prn reversed_octet stage used_channels data_channels
returns-clause-took c = refl

pub returns-clause-refused : goal.returns-clause-refused
unfolding ctrl_of makers little_endian channel_of mam perm prn reversed_octet stage used_channels data_channels
returns-clause-refused c = refl
