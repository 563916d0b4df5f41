-- Proof of `due::an_end_is_due_for_its_cause`.
use Rattle.journal_leaving.proofs.DueReasons.{leaving_ends, overdue_due}
use Rattle.journal_leaving.proofs.due.an_end_is_due_for_its_cause.Goals as goal

pub returns : goal.returns
returns c = record { overdue = overdue_due; leaving = leaving_ends }
