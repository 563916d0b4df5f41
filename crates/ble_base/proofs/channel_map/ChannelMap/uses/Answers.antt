-- Proof of `channel_map::ChannelMap::uses`.
use Rattle.ble_base.proofs.UsedChannels.{listed_if_used, used_if_listed, used-lt}
use Rattle.ble_base.proofs.channel_map.ChannelMap.uses.Goals as goal

pub returns-clause-bit : goal.returns-clause-bit
returns-clause-bit c =
    rw (← c.self.view_is) (
      λ yes. (c.is_bit_set.ensures.0 yes).1,
      λ used. c.is_bit_set.ensures.1 (used-lt _ _ c.self.invariant.data_channels_only used, used),
    )

pub returns-clause-listed : goal.returns-clause-listed
returns-clause-listed c =
    rw (← c.self.view_is) (
      λ yes. let h = c.is_bit_set.ensures.0 yes in listed_if_used _ _ h.0 h.1,
      λ listed. c.is_bit_set.ensures.1 (used_if_listed _ _ listed),
    )
