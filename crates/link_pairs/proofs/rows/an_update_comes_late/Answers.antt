-- The rows of `an_update_comes_late` compute.
use Rattle.std.proofs.Common.{refl}
use Rattle.ble_base.specs.ChannelMap.{data_channels, used_channels}
use Rattle.chan_select.specs.Channel.{channel_of}
use Rattle.chan_select.specs.PseudoRandom.{mam, perm, prn, reversed_octet, stage}
use Rattle.data_pdu.specs.Reading.{ctrl_of}
use Rattle.data_pdu.specs.Layouts.{makers}
use Rattle.wire_fields.specs.Field.{little_endian}
use Rattle.link_pairs.proofs.rows.an_update_comes_late.Goals as goal

pub returns-clause-in_time : goal.returns-clause-in_time
unfolding ctrl_of makers little_endian channel_of mam perm prn reversed_octet stage used_channels data_channels
returns-clause-in_time c = refl

pub returns-clause-not_before : goal.returns-clause-not_before
unfolding ctrl_of makers little_endian channel_of mam perm prn reversed_octet stage used_channels data_channels
returns-clause-not_before c = refl

pub returns-clause-central : goal.returns-clause-central
unfolding ctrl_of makers little_endian channel_of mam perm prn reversed_octet stage used_channels data_channels
returns-clause-central c = refl

pub returns-clause-goes_on : goal.returns-clause-goes_on
unfolding ctrl_of makers little_endian channel_of mam perm prn reversed_octet stage used_channels data_channels
returns-clause-goes_on c = refl

pub returns-clause-late : goal.returns-clause-late
unfolding ctrl_of makers little_endian channel_of mam perm prn reversed_octet stage used_channels data_channels
returns-clause-late c = refl
