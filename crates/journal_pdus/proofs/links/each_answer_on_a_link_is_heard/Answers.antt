-- Proof of `links::each_answer_on_a_link_is_heard`.
use Rattle.journal_pdus.proofs.AnswersHeard.{answers_heard}
use Rattle.journal_pdus.proofs.links.each_answer_on_a_link_is_heard.Goals as goal

pub returns : goal.returns
returns c = λ given stations six few.
    answers_heard c.packet_tells_its_pdu.ensures.heard c.a_pdu_is_understood.ensures.says c.connections_are_taken.ensures.taken c.searches_give_each_valid_address.ensures.valid
    c.searches_give_each_valid_address.ensures.distinct given stations six few
