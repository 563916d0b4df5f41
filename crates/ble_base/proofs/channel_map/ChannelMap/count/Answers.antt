-- Proof of `channel_map::ChannelMap::count`.
use Rattle.std.proofs.Common.{sym}
use Rattle.ble_base.proofs.UsedChannels.{length-used_channels, length-used_channels_le}
use Rattle.ble_base.proofs.channel_map.ChannelMap.count.Goals as goal

pub returns-clause-count : goal.returns-clause-count
returns-clause-count c = rw (← c.self.view_is) (sym (length-used_channels _ c.self.invariant.data_channels_only))

pub returns-clause-two_or_more : goal.returns-clause-two_or_more
returns-clause-two_or_more c =
    rw (← length-used_channels _ c.self.invariant.data_channels_only) c.self.invariant.two_or_more

pub returns-clause-at_most_all : goal.returns-clause-at_most_all
returns-clause-at_most_all c =
    rw (← length-used_channels _ c.self.invariant.data_channels_only)
    (length-used_channels_le _ c.self.invariant.data_channels_only)
