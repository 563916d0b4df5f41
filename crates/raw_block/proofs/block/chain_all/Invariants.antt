-- The loop of `chain_all`.
use Rattle.std.proofs.Common.{◌≡◌}
use Rattle.raw_block.specs.Regions.{IsRegion}
use Rattle.raw_block.proofs.Chains.{IsLaid}
use Rattle.raw_block.proofs.block.chain_all.Given as goal

abbrev pub invariant-loop-done : goal.invariant-loop-done
invariant-loop-done g l = record {
  region : IsRegion l.region;
  long : l.region.len ≡ l.most;
  laid : IsLaid l.most l.done l.region.places.held;
}
