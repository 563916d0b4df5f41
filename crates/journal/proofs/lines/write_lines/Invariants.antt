-- Invariants of `lines::write_lines`.
use Rattle.std.proofs.Common.{◌≡◌, take}
use Rattle.journal.specs.Text.{text}
use Rattle.journal.proofs.lines.write_lines.Given as goal

abbrev pub invariant-loop-entry : goal.invariant-loop-entry
invariant-loop-entry l = l.lines.items ≡ text (take l.entry-index l.entries)
