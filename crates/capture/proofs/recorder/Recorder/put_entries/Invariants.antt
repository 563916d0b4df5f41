-- Invariants of `recorder::Recorder::put_entries`.
use Rattle.std.proofs.Common.{List, length}
use Rattle.journal.specs.declared.entries.Entry.{Entry}
use Rattle.capture.specs.Knowing.{Knows}
use Rattle.capture.proofs.Loops.{IsRecorded}
use Rattle.capture.proofs.recorder.Recorder.put_entries.Given as goal

abbrev pub invariant-loop-entry : goal.invariant-loop-entry
invariant-loop-entry l = (past : List Entry) → Knows l.fn.self past
    → IsRecorded l.self l.out.items l.left past l.entries l.fn.out.items

abbrev pub decreases-loop-entry : goal.decreases-loop-entry
decreases-loop-entry l = length l.left
