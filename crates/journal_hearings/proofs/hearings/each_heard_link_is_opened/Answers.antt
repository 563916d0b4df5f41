-- Proof of `hearings::each_heard_link_is_opened`.
use Rattle.journal_hearings.proofs.LinksOpened.{heard_last, heard_lines}
use Rattle.journal_hearings.proofs.hearings.each_heard_link_is_opened.Goals as goal

pub returns-clause-before_a_turn : goal.returns-clause-before_a_turn
returns-clause-before_a_turn c = λ given stations six few eight.
    heard_lines c.packet_tells_its_pdu.ensures.heard c.a_pdu_is_understood.ensures.says c.connections_are_taken.ensures.taken c.searches_give_each_valid_address.ensures.valid
    c.searches_give_each_valid_address.ensures.distinct given stations six few eight

pub returns-clause-at_the_end : goal.returns-clause-at_the_end
returns-clause-at_the_end c = λ given history stations six few eight goes.
    heard_last c.packet_tells_its_pdu.ensures.heard c.a_pdu_is_understood.ensures.says c.connections_are_taken.ensures.taken c.searches_give_each_valid_address.ensures.valid
    c.searches_give_each_valid_address.ensures.distinct given stations six few eight history goes
