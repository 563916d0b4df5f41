-- Proof of `line_reading::read_line`.
use Rattle.std.proofs.Common.{sym, ◌∙◌}
use Rattle.journal.proofs.Fitting.{first_fits}
use Rattle.journal.proofs.LineEntries.{is_found, not_found, other_line}
use Rattle.journal.proofs.line_reading.read_line.Goals as goal

pub returns-in_default-clause-read : goal.returns-in_default-clause-read
returns-in_default-clause-read c = not_found c.args.octets.now c.in_ok-entry.field-0 c.in_ok-entry.ensures c.in_default.is

pub returns-in_default-clause-none : goal.returns-in_default-clause-none
returns-in_default-clause-none c = λ entry fits same.
    let no = not_found c.args.octets.now c.in_ok-entry.field-0 c.in_ok-entry.ensures c.in_default.is entry fits same in absurd (cc no)

pub returns-then-eq-clause-read : goal.returns-then-eq-clause-read
returns-then-eq-clause-read c = is_found c.args.octets.now c.in_ok-entry.field-0 c.in-Some.entry c.in_ok-entry.ensures c.in-Some.is

pub returns-then-eq-clause-fits : goal.returns-then-eq-clause-fits
returns-then-eq-clause-fits c =
    rw c.in-Some.is at (first_fits c.args.octets.now c.in_ok-entry.field-0 c.in_ok-entry.ensures)

pub returns-else-eq-clause-none : goal.returns-else-eq-clause-none
returns-else-eq-clause-none c =
    other_line c.args.octets.now c.as_slice.result.now c.in_ok-entry.field-0 c.in-Some.entry c.in_ok-entry.ensures c.in-Some.is
    (c.as_slice.ensures ∙ c.in_ok-written.ensures) (sym c.if-eq.ensures)

pub returns-else-eq-clause-read : goal.returns-else-eq-clause-read
returns-else-eq-clause-read c = λ entry fits same. absurd (returns-else-eq-clause-none c entry fits same)
