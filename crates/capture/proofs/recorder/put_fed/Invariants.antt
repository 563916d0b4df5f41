-- Invariants of `recorder::put_fed`.
use Rattle.std.proofs.Common.{ℕ, List, length}
use Rattle.capture.specs.Knowing.{KnowsHost}
use Rattle.capture.proofs.Loops.{IsFed}
use Rattle.capture.proofs.recorder.put_fed.Given as goal

abbrev pub invariant-loop-octet : goal.invariant-loop-octet
invariant-loop-octet l = (past : List ℕ) → KnowsHost l.fn.stream past
    → IsFed l.side l.time l.stream l.out.items l.left past l.octets l.fn.out.items

abbrev pub decreases-loop-octet : goal.decreases-loop-octet
decreases-loop-octet l = length l.left
