-- Proof of `journals::only_what_an_end_says_and_hears_moves_its_control_part`.
use Rattle.std.proofs.Common.{◌∙◌, refl}
use Rattle.journal.specs.declared.entries.Entry.TheVariants.{Opened}
use Rattle.journal_controls.specs.LineSteps.{control_on, keyed_on}
use Rattle.journal_controls.proofs.LineFolds.{keyed_more, opened_line, quiet_line}
use Rattle.journal_controls.proofs.journals.only_what_an_end_says_and_hears_moves_its_control_part.Goals as goal

pub returns : goal.returns
unfolding control_on
returns c = record {
  begins = λ words side number handle role journal link is.
      keyed_more words side number journal (Opened side number handle role) ∙ opened_line words side number handle role journal (keyed_on words side number journal) link is;
  stays = λ words side number journal line none unanswered.
      keyed_more words side number journal line ∙ quiet_line words side number journal (keyed_on words side number journal) line none unanswered;
  part = λ words side number journal. refl;
}
