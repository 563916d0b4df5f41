-- Proof of `channel_map::ChannelMap::nth`.
use Rattle.std.proofs.Common.{◌<◌, length}
use Rattle.ble_base.specs.ChannelMap.{used_channels}
use Rattle.std.proofs.lemmas.List.Elements.{Contains-get_or}
use Rattle.ble_base.proofs.UsedChannels.{used_if_listed}
use Rattle.ble_base.proofs.channel_map.ChannelMap.nth.Goals as goal

pub returns-clause-data : goal.returns-clause-data
returns-clause-data c =
    let inside : c.args.index < length (used_channels c.self.inside.bits) = rw c.self.view_is c.requires in
    rw c.nth_set_bit.ensures (used_if_listed c.self.inside.bits _ (Contains-get_or (used_channels c.self.inside.bits) c.args.index 0 inside)).0
