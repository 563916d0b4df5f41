-- Proof of `journals::the_last_line_of_a_side_tells_of_an_indication`.
use Rattle.journal_due.proofs.DueLines.{other_applied, own_applied}
use Rattle.journal_due.proofs.journals.the_last_line_of_a_side_tells_of_an_indication.Goals as goal

pub returns : goal.returns
returns c = record {
  own = λ side journal line own. own_applied side journal line own;
  other = λ side journal line other. other_applied side journal line other;
}
