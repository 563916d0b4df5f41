-- Proof of `packets::the_line_of_each_new_pdu_is_just_before_its_packet`.
use Rattle.journal_leaving.proofs.journal_links.OfTwo.{are_distinct}
use Rattle.journal_sending.proofs.ToldInRuns.{told_at_stop, told_lines}
use Rattle.journal_sending.proofs.packets.the_line_of_each_new_pdu_is_just_before_its_packet.Goals as goal

pub returns-clause-aired : goal.returns-clause-aired
returns-clause-aired c = λ given are six few eight.
    told_lines c.packet_tells_its_pdu.ensures.heard c.a_pdu_is_understood.ensures.says c.connections_are_taken.ensures.taken c.searches_give_each_valid_address.ensures.valid
    c.searches_give_each_valid_address.ensures.distinct given are (record { links = few }) six (are_distinct given are) eight

pub returns-clause-stopped : goal.returns-clause-stopped
returns-clause-stopped c = λ given history stop are six few eight stops.
    told_at_stop c.packet_tells_its_pdu.ensures.heard c.a_pdu_is_understood.ensures.says c.connections_are_taken.ensures.taken c.searches_give_each_valid_address.ensures.valid
    c.searches_give_each_valid_address.ensures.distinct given are (record { links = few }) six (are_distinct given are) eight history stop stops
