-- Invariants of `pairs::write_journal`.
use Rattle.std.proofs.Common.{◌≡◌, ℕ, List, ◌++◌, ◌≤◌, length}
use Rattle.journal.specs.Text.{text}
use Rattle.program.specs.World.{writes_of, HasWritten}
use Rattle.program.proofs.pairs.write_journal.Given as goal

abbrev pub invariant-loop-rest : goal.invariant-loop-rest
invariant-loop-rest g l = (front : List ℕ)
    × record {
      wrote : HasWritten (writes_of g.O.Sink.written g.O.Sink.is_reliable g.O.Sink.faults l.fn.out l.out) front;
      parts : front ++ text l.rest ≡ text l.journal;
      stays : g.O.Sink.is_reliable l.fn.out → g.O.Sink.is_reliable l.out;
      counts : g.O.Sink.faults l.fn.out ≤ g.O.Sink.faults l.out;
    }

abbrev pub decreases-loop-rest : goal.decreases-loop-rest
decreases-loop-rest g l = length l.rest
