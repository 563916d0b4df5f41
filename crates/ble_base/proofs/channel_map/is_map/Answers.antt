-- Proof of `channel_map::is_map`.
use Rattle.std.proofs.Common.{arith}
use Rattle.std.proofs.lemmas.Bool.Decides.{nat_tests}
use Rattle.ble_base.proofs.UsedChannels.{length-used_channels, IsMap-from_ones}
use Rattle.ble_base.proofs.channel_map.is_map.Goals as goal

pub returns-then-bits : goal.returns-then-bits
returns-then-bits c = (
  λ test. IsMap-from_ones _ c.if-bits.true (grind (arith, nat_tests)),
  λ map.
      let same = length-used_channels _ map.data_channels_only in
      let two = map.two_or_more in
      grind (arith, nat_tests),
)
