-- The rows of `two_phy_updates_collide` compute.
use Rattle.std.proofs.Common.{refl}
use Rattle.ble_base.specs.ChannelMap.{data_channels, used_channels}
use Rattle.chan_select.specs.Channel.{channel_of}
use Rattle.chan_select.specs.PseudoRandom.{mam, perm, prn, reversed_octet, stage}
use Rattle.data_pdu.specs.Reading.{ctrl_of}
use Rattle.data_pdu.specs.Layouts.{makers}
use Rattle.wire_fields.specs.Field.{little_endian}
use Rattle.run_collisions.proofs.rows.two_phy_updates_collide.Goals as goal

pub returns-clause-crossed : goal.returns-clause-crossed
unfolding ctrl_of makers little_endian channel_of mam perm prn reversed_octet stage used_channels data_channels
returns-clause-crossed c = refl

pub returns-clause-rejected : goal.returns-clause-rejected
unfolding ctrl_of makers little_endian channel_of mam perm prn reversed_octet stage used_channels data_channels
returns-clause-rejected c = refl

pub returns-clause-answered : goal.returns-clause-answered
unfolding ctrl_of makers little_endian channel_of mam perm prn reversed_octet stage used_channels data_channels
returns-clause-answered c = refl

pub returns-clause-took : goal.returns-clause-took
unfolding ctrl_of makers little_endian channel_of mam perm prn reversed_octet stage used_channels data_channels
returns-clause-took c = refl

pub returns-clause-refused : goal.returns-clause-refused
unfolding ctrl_of makers little_endian channel_of mam perm prn reversed_octet stage used_channels data_channels
returns-clause-refused c = refl

pub returns-clause-nothing_left : goal.returns-clause-nothing_left
unfolding ctrl_of makers little_endian channel_of mam perm prn reversed_octet stage used_channels data_channels
returns-clause-nothing_left c = refl

pub returns-clause-over : goal.returns-clause-over
unfolding ctrl_of makers little_endian channel_of mam perm prn reversed_octet stage used_channels data_channels
returns-clause-over c = refl
