-- Proof of `waiting::md_tells_what_waits_after_the_pdu_of_its_packet`.
use Rattle.journal_rules.proofs.MdDue.{all_tell}
use Rattle.journal_rules.proofs.waiting.md_tells_what_waits_after_the_pdu_of_its_packet.Goals as goal

pub returns : goal.returns
returns c = λ words journal tells next goes rests. all_tell words journal tells next goes rests
