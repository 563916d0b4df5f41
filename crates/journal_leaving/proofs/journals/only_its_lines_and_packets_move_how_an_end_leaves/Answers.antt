-- Proof of `journals::only_its_lines_and_packets_move_how_an_end_leaves`.
use Rattle.std.proofs.Common.{◌∙◌}
use Rattle.journal.specs.declared.entries.Entry.TheVariants.{Opened, Shut}
use Rattle.journal_leaving.specs.Leaving.{leaving_on}
use Rattle.journal_leaving.proofs.LineFolds.{leaving_more, opened_line, quiet_line, shut_line}
use Rattle.journal_leaving.proofs.journals.only_its_lines_and_packets_move_how_an_end_leaves.Goals as goal

pub returns : goal.returns
returns c = record {
  begins = λ words side number handle role journal.
      leaving_more words side number journal (Opened side number handle role) ∙ opened_line words side number handle role journal (leaving_on words side number journal);
  ends = λ words side number reason journal. leaving_more words side number journal (Shut side number reason) ∙ shut_line words side number reason journal (leaving_on words side number journal);
  stays = λ words side number journal line none unanswered own.
      leaving_more words side number journal line ∙ quiet_line words side number journal (leaving_on words side number journal) line none unanswered own;
}
