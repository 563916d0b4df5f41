-- Proof of `journal_reading::read_entry`.
use Rattle.journal.proofs.Divisions.{no_first_line, other_first_line}
use Rattle.journal.proofs.journal_reading.read_entry.Goals as goal

pub returns-in_default : goal.returns-in_default
returns-in_default c = no_first_line c.args.octets.now c.in_default.ensures

pub returns-in-None : goal.returns-in-None
returns-in-None c =
    other_first_line c.args.octets.now c.in-Some.line.now c.in-Some.after.now c.in-Some.ensures
    (rw c.in-None.is at c.in_ok-entry.ensures.none)
