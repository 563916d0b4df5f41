-- Proof of `links::each_packet_is_in_its_event`.
use Rattle.journal_pdus.proofs.PacketTurns.{packets_in_events}
use Rattle.journal_pdus.proofs.links.each_packet_is_in_its_event.Goals as goal

pub returns : goal.returns
returns c = λ given stations six.
    packets_in_events c.packet_tells_its_pdu.ensures.heard c.a_pdu_is_understood.ensures.says c.connections_are_taken.ensures.taken c.searches_give_each_valid_address.ensures.valid
    c.searches_give_each_valid_address.ensures.distinct given stations six
