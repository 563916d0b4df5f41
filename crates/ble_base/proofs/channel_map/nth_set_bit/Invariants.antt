-- Invariants of `channel_map::nth_set_bit`.
use Rattle.ble_base.proofs.UsedChannels.{IsAhead}
use Rattle.ble_base.proofs.channel_map.nth_set_bit.Given as goal

abbrev pub invariant-loop-channel : goal.invariant-loop-channel
invariant-loop-channel l = IsAhead l.bits l.index l.channel l.left
