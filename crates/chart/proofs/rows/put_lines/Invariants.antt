-- Invariants of `rows::put_lines`.
use Rattle.std.proofs.Common.{◌≡◌, ◌+◌, ◌++◌, ◌<◌, ◌^◌, length}
use Rattle.chart.specs.Chart.{all_drawn, place_after_all}
use Rattle.chart.specs.Svg.{all_spelled}
use Rattle.chart.proofs.rows.put_lines.Given as goal

abbrev pub invariant-loop-entry : goal.invariant-loop-entry
invariant-loop-entry l = record {
  written : l.svg.items ++ all_spelled (all_drawn l.place l.rest)
      ≡ l.fn.svg.items ++ all_spelled (all_drawn l.fn.place l.entries);
  same : place_after_all l.place l.rest ≡ place_after_all l.fn.place l.entries;
  fits : l.place.row + l.place.waiting + length l.rest < 2 ^ 32;
}

abbrev pub decreases-loop-entry : goal.decreases-loop-entry
decreases-loop-entry l = length l.rest
