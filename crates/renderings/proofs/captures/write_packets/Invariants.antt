-- Invariants of `captures::write_packets`.
use Rattle.std.proofs.Common.{length}
use Rattle.renderings.proofs.PacketsLeft.{ArePacketsLeft}
use Rattle.renderings.proofs.captures.write_packets.Given as goal

abbrev pub invariant-loop-block : goal.invariant-loop-block
invariant-loop-block g l =
    ArePacketsLeft g.O.Sink.written g.O.Sink.faults g.O.Sink.is_reliable l.fn.out l.out l.recorder l.rest l.entries

abbrev pub decreases-loop-block : goal.decreases-loop-block
decreases-loop-block g l = length l.rest
