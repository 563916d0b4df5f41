-- The loop invariants of `counts`.
use Rattle.std.proofs.Common.{[]}
use Rattle.wire_fields.specs.Layout.{value_of}
use Rattle.hci_cmd.specs.Command.{counts_layout}
use Rattle.hci_cmd.proofs.Counts.{Taken}
use Rattle.hci_cmd.proofs.rows.counts.Given as goal

abbrev pub invariant-loop-i : goal.invariant-loop-i
invariant-loop-i l = Taken (value_of (counts_layout l.handles []) l.initial.fields) l.counts.items l.fields l.handles l.i
