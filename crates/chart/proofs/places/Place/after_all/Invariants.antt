-- Invariants of `places::Place::after_all`.
use Rattle.std.proofs.Common.{◌≡◌, ◌+◌, ◌<◌, ◌^◌, length}
use Rattle.chart.specs.Chart.{place_after_all}
use Rattle.chart.proofs.places.Place.after_all.Given as goal

abbrev pub invariant-loop-entry : goal.invariant-loop-entry
invariant-loop-entry l = record {
  same : place_after_all l.place l.rest ≡ place_after_all l.fn.self l.entries;
  fits : l.place.row + l.place.waiting + length l.rest < 2 ^ 32;
}

abbrev pub decreases-loop-entry : goal.decreases-loop-entry
decreases-loop-entry l = length l.rest
