-- Invariants of `accepted::take_packets`.
use Rattle.std.proofs.Common.{◌≡◌, drop}
use Rattle.host_view.specs.Changes.{after_counts}
use Rattle.host_view.proofs.accepted.take_packets.Given as goal

-- to take what is left is to take all
abbrev pub invariant-loop-pair : goal.invariant-loop-pair
invariant-loop-pair l = after_counts l.links (drop l.pair-index l.counts) ≡ after_counts l.fn.links l.counts
