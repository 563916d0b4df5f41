-- Proof of `channel_map::nth_set_bit`.
use Rattle.std.proofs.Common.{◌≡◌, ◌≢◌, true}
use Rattle.std.specs.Int.{bit_at}
use Rattle.ble_base.proofs.UsedChannels.{ahead_at_first, ahead_found, ahead_past_used, ahead_past_unused, ahead_nowhere}
use Rattle.ble_base.proofs.channel_map.nth_set_bit.Goals as goal
use Rattle.ble_base.proofs.channel_map.nth_set_bit.Goals.{then-is_bit_set+else-left-eq0, else-is_bit_set}

pub loop-channel-init : goal.loop-channel-init
loop-channel-init c = ahead_at_first _ _ c.requires

pub returns-then-left-eq0 : goal.returns-then-left-eq0
returns-then-left-eq0 c =
    let used = (c.is_bit_set.ensures.0 c.if-is_bit_set.true).1 in
    ahead_found _ _ _ _ c.loop-channel.invariant c.loop-channel-test.true used c.if-left-eq0.true

pub loop-channel-preserved : goal.loop-channel-preserved
loop-channel-preserved c =
    elim c.if-is_bit_set.branch [
      | then-is_bit_set+else-left-eq0 w ↦
          let used = (c.is_bit_set.ensures.0 w.if-is_bit_set.true).1 in
          rw w.left-is (ahead_past_used _ _ _ _ c.loop-channel.invariant c.loop-channel-test.true used w.if-left-eq0.false)
      | else-is_bit_set w ↦
          let unused : bit_at c.args.bits c.loop-channel.channel ≢ 1 =
          λ used. let yes : c.is_bit_set.result ≡ true = c.is_bit_set.ensures.1 (c.loop-channel-test.true, used) in absurd (cc) in
          rw w.left-is (ahead_past_unused _ _ _ _ c.loop-channel.invariant c.loop-channel-test.true unused)
    ]

pub unreachable-requires : goal.unreachable-requires
unreachable-requires c = ahead_nowhere _ _ _ _ c.loop-channel.invariant c.loop-channel-test.false
