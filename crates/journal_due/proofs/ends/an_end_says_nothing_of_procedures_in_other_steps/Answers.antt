-- Proof of `ends::an_end_says_nothing_of_procedures_in_other_steps`.
use Rattle.journal_due.proofs.DuePlain.{other_step_told}
use Rattle.journal_due.proofs.ends.an_end_says_nothing_of_procedures_in_other_steps.Goals as goal

pub returns : goal.returns
returns c = record {
  each = λ words side number setup facts step journal none rests. (other_step_told words side number setup facts step journal none rests).each;
  left = λ words side number setup facts step journal none rests. (other_step_told words side number setup facts step journal none rests).left;
}
