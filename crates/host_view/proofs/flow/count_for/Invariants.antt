-- Invariants of `flow::count_for`.
use Rattle.std.proofs.Common.{◌≡◌, ◌+◌, ◌*◌, ◌≤◌, drop}
use Rattle.host_view.specs.Status.{count_for}
use Rattle.host_view.proofs.flow.count_for.Given as goal

-- the total so far and what is left are the whole, and each count is below 2 ^ 16
abbrev pub invariant-loop-pair : goal.invariant-loop-pair
invariant-loop-pair l = record {
  total : l.total + count_for l.handle (drop l.pair-index l.counts) ≡ count_for l.handle l.counts;
  small : l.total ≤ l.pair-index * 65535;
}
