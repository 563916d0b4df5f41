-- Proof of `next::each_new_pdu_is_next_by_the_lines`.
use Rattle.journal_sending.proofs.NextLines.{next_of_lines}
use Rattle.journal_sending.proofs.next.each_new_pdu_is_next_by_the_lines.Goals as goal

pub returns : goal.returns
returns c = λ words given are six gives few eight.
    next_of_lines words c.packet_tells_its_pdu.ensures.heard c.a_pdu_is_understood.ensures.says c.connections_are_taken.ensures.taken c.searches_give_each_valid_address.ensures.valid
    c.searches_give_each_valid_address.ensures.distinct given are (record { links = few }) six gives eight
