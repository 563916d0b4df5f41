-- Proof of `waiting::a_pdu_sent_again_tells_nothing_of_what_was_taken`.
use Rattle.journal_rules.proofs.MdDue.{again_same}
use Rattle.journal_rules.proofs.waiting.a_pdu_sent_again_tells_nothing_of_what_was_taken.Goals as goal

pub returns : goal.returns
returns c = λ words front side taker number link count llid body pdu fixing then_fixing fixed is then_is.
    again_same words front side taker number link count llid body pdu fixing then_fixing fixed is then_is
