-- The loop invariants of `add`.
use Rattle.std.proofs.Common.{◌≡◌}
use Rattle.ccm_link.proofs.BlockOctets.{partly}
use Rattle.ccm_link.proofs.block.add.Given as goal

abbrev pub invariant-loop-place : goal.invariant-loop-place
invariant-loop-place l = l.sum ≡ partly l.fn.block l.octets l.place
