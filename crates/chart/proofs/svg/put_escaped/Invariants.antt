-- Invariants of `svg::put_escaped`.
use Rattle.std.proofs.Common.{◌≡◌, ◌++◌, take}
use Rattle.chart.specs.Svg.{escaped}
use Rattle.chart.proofs.svg.put_escaped.Given as goal

abbrev pub invariant-loop-octet : goal.invariant-loop-octet
invariant-loop-octet l = l.svg.items ≡ l.fn.svg.items ++ escaped (take l.octet-index l.octets)
