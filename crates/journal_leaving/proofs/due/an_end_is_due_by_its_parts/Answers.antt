-- Proof of `due::an_end_is_due_by_its_parts`.
use Rattle.std.proofs.Common.{refl}
use Rattle.journal_leaving.proofs.DueReasons.{due_is}
use Rattle.journal_leaving.proofs.due.an_end_is_due_by_its_parts.Goals as goal

pub returns : goal.returns
returns c = record { begins = due_is; ends = λ facts. refl }
