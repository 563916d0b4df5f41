-- Invariants of `charts::write_rows`.
use Rattle.std.proofs.Common.{length}
use Rattle.renderings.proofs.RowsLeft.{AreRowsLeft}
use Rattle.renderings.proofs.charts.write_rows.Given as goal

abbrev pub invariant-loop-block : goal.invariant-loop-block
invariant-loop-block g l =
    AreRowsLeft g.O.Sink.written g.O.Sink.faults g.O.Sink.is_reliable l.fn.out l.out l.place l.rest l.entries

abbrev pub decreases-loop-block : goal.decreases-loop-block
decreases-loop-block g l = length l.rest
