-- Proof of `laws::a_line_has_one_entry`.
use Rattle.journal.proofs.LineEntries.{same_entry}
use Rattle.journal.proofs.laws.a_line_has_one_entry.Goals as goal

pub returns : goal.returns
returns c = same_entry
