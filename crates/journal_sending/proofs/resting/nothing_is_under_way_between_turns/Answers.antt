-- Proof of `resting::nothing_is_under_way_between_turns`.
use Rattle.journal_leaving.proofs.journal_links.OfTwo.{are_distinct}
use Rattle.journal_sending.proofs.AtRest.{resting_last, resting_lines}
use Rattle.journal_sending.proofs.resting.nothing_is_under_way_between_turns.Goals as goal

pub returns-clause-before_a_turn : goal.returns-clause-before_a_turn
returns-clause-before_a_turn c = λ words given are six gives few eight air.
    resting_lines words c.packet_tells_its_pdu.ensures.heard c.a_pdu_is_understood.ensures.says c.connections_are_taken.ensures.taken c.searches_give_each_valid_address.ensures.valid
    c.searches_give_each_valid_address.ensures.distinct given are (record { links = few }) six gives (are_distinct given are) eight air

pub returns-clause-at_the_end : goal.returns-clause-at_the_end
returns-clause-at_the_end c = λ words given history are six gives few eight air.
    resting_last words c.packet_tells_its_pdu.ensures.heard c.a_pdu_is_understood.ensures.says c.connections_are_taken.ensures.taken c.searches_give_each_valid_address.ensures.valid
    c.searches_give_each_valid_address.ensures.distinct given are (record { links = few }) six gives (are_distinct given are) eight air history
