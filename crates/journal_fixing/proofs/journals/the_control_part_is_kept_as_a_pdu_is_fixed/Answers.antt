-- Proof of `journals::the_control_part_is_kept_as_a_pdu_is_fixed`.
use Rattle.journal_fixing.proofs.ControlKept.{fixed_is, fixing_begins, fixing_now, fixing_quiet, fixing_stays, unfixed_begins}
use Rattle.journal_fixing.proofs.journals.the_control_part_is_kept_as_a_pdu_is_fixed.Goals as goal

pub returns : goal.returns
returns c = record {
  begins = λ words side number slot a_on b_on journal. fixing_begins words side number journal slot a_on b_on;
  unfixed = λ words side number slot a_on b_on journal. unfixed_begins words side number journal slot a_on b_on;
  now = λ words. fixing_now words;
  fixed = λ words. fixed_is words;
  stays = λ words. fixing_stays words;
  quiet = λ words. fixing_quiet words;
}
