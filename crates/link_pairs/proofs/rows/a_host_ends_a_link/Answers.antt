-- The rows of `a_host_ends_a_link` compute.
use Rattle.std.proofs.Common.{refl}
use Rattle.ble_base.specs.ChannelMap.{data_channels, used_channels}
use Rattle.chan_select.specs.Channel.{channel_of}
use Rattle.chan_select.specs.PseudoRandom.{mam, perm, prn, reversed_octet, stage}
use Rattle.data_pdu.specs.Reading.{ctrl_of}
use Rattle.data_pdu.specs.Layouts.{makers}
use Rattle.wire_fields.specs.Field.{little_endian}
use Rattle.link_pairs.proofs.rows.a_host_ends_a_link.Goals as goal

pub returns-clause-central : goal.returns-clause-central
unfolding ctrl_of makers little_endian channel_of mam perm prn reversed_octet stage used_channels data_channels
returns-clause-central c = refl

pub returns-clause-peripheral : goal.returns-clause-peripheral
unfolding ctrl_of makers little_endian channel_of mam perm prn reversed_octet stage used_channels data_channels
returns-clause-peripheral c = refl

pub returns-clause-lost : goal.returns-clause-lost
unfolding ctrl_of makers little_endian channel_of mam perm prn reversed_octet stage used_channels data_channels
returns-clause-lost c = refl
