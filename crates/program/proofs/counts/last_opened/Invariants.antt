-- Invariants of `counts::last_opened`.
use Rattle.std.proofs.Common.{◌≡◌, take}
use Rattle.program.specs.Counts.{last_opened}
use Rattle.program.proofs.counts.last_opened.Given as goal

abbrev pub invariant-loop-entry : goal.invariant-loop-entry
invariant-loop-entry l = l.last ≡ last_opened (take l.entry-index l.entries)
