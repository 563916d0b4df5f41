-- Proof of `one_end::a_peripheral_answers_with_the_pdu_that_it_fixed`.
use Rattle.journal_controls.specs.link_model.End.{facts_of}
use Rattle.journal_fixing.proofs.AnsweredPdus.{answer_more, answer_new, answer_old}
use Rattle.journal_fixing.proofs.one_end.a_peripheral_answers_with_the_pdu_that_it_fixed.Goals as goal

pub returns : goal.returns
returns c = record {
  pdu = λ setup past slot octets pdu room fixing outgoing role is good.
      answer_new setup (facts_of setup past) slot octets pdu room fixing outgoing role is good;
  more_new = λ setup past slot octets pdu room fixing outgoing role is good.
      answer_more setup (facts_of setup past) slot octets pdu room fixing outgoing role is good;
  more_old = λ setup past slot octets pdu room fixing outgoing role is good.
      answer_old setup (facts_of setup past) slot octets pdu room fixing outgoing role is good;
}
