-- Proof of `laws::a_text_is_its_lines`.
use Rattle.journal.proofs.Divisions.{lines_of_text}
use Rattle.journal.proofs.laws.a_text_is_its_lines.Goals as goal

pub returns : goal.returns
returns c = lines_of_text
