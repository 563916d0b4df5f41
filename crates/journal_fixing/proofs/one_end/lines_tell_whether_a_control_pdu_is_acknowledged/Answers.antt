-- Proof of `one_end::lines_tell_whether_a_control_pdu_is_acknowledged`.
use Rattle.journal_fixing.proofs.AnsweredPdus.{acks_told}
use Rattle.journal_fixing.proofs.one_end.lines_tell_whether_a_control_pdu_is_acknowledged.Goals as goal

pub returns : goal.returns
returns c = acks_told
