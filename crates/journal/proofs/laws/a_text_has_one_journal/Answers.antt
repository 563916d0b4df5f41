-- Proof of `laws::a_text_has_one_journal`.
use Rattle.journal.proofs.LineEntries.{same_text}
use Rattle.journal.proofs.laws.a_text_has_one_journal.Goals as goal

pub returns : goal.returns
returns c = same_text
