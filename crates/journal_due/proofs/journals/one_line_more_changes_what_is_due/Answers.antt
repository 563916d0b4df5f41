-- Proof of `journals::one_line_more_changes_what_is_due`.
use Rattle.journal_due.proofs.DueLines.{forged_due, heard_due, none_unopened, quiet_due, said_due}
use Rattle.journal_due.proofs.journals.one_line_more_changes_what_is_due.Goals as goal

pub returns : goal.returns
returns c = record {
  said = λ words side number journal line k is said. said_due words side number journal line k is said;
  heard = λ words side number slot octets journal line k is heard. heard_due words side number slot octets journal line k is heard;
  forged = λ words side number journal line forged. forged_due words side number journal line forged;
  stays = λ words side number journal line none. quiet_due words side number journal line none;
  shut = λ words side number journal none. none_unopened words side number journal none;
}
