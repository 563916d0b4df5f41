-- The worked examples of `rows::worked_ranges`.
use Rattle.std.proofs.Common.{refl}
use Rattle.ble_base.specs.ChannelMap.{data_channels, used_channels}
use Rattle.advertise.proofs.rows.worked_ranges.Goals as goal

pub returns : goal.returns
unfolding used_channels data_channels
returns c = refl
