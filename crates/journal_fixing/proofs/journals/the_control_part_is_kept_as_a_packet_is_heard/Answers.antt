-- Proof of `journals::the_control_part_is_kept_as_a_packet_is_heard`.
use Rattle.journal_fixing.proofs.ControlKept.{going_answers, going_begins, going_now, going_quiet, going_stays, heard_is, unheard_begins}
use Rattle.journal_fixing.proofs.journals.the_control_part_is_kept_as_a_packet_is_heard.Goals as goal

pub returns : goal.returns
returns c = record {
  begins = λ words side number slot a_on b_on journal. going_begins words side number journal slot a_on b_on;
  unheard = λ words side number slot a_on b_on journal. unheard_begins words side number journal slot a_on b_on;
  now = λ words. going_now words;
  heard = λ words. heard_is words;
  hears = λ words. going_answers words;
  stays = λ words. going_stays words;
  quiet = λ words. going_quiet words;
}
