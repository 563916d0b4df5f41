-- The loop of `Region::end`.
use Rattle.std.proofs.Common.{◌≡◌, ℕ, ◌<◌, ◌≤◌, None, length, get_or}
use Rattle.raw_block.specs.Places.{IsTaken}
use Rattle.raw_block.proofs.region.Region.end.Given as goal

abbrev pub invariant-loop-place : goal.invariant-loop-place
invariant-loop-place g l = record {
  starts : l.places.at ≡ l.start.at;
  long : length l.places.held ≡ l.len;
  empty : (k : ℕ) → k < l.place → get_or l.places.held k None ≡ None;
  taken : (k : ℕ) → l.place ≤ k → k < l.len → IsTaken l.places.held k;
}
