-- Proof of `channel_map::ChannelMapDefault::default`.
use Rattle.ble_base.proofs.UsedChannels.{IsMap-all}
use Rattle.ble_base.proofs.channel_map.ChannelMapDefault.default.Goals as goal

pub invariant_of-result : goal.invariant_of-result
invariant_of-result c = IsMap-all
