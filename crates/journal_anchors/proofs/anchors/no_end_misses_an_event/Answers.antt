-- Proof of `anchors::no_end_misses_an_event`.
use Rattle.journal_anchors.proofs.NextAnchors.{no_events_missed, none_missed_at_end}
use Rattle.journal_anchors.proofs.anchors.no_end_misses_an_event.Goals as goal

pub returns-clause-before : goal.returns-clause-before
returns-clause-before c = λ words given are six gives few eight.
    no_events_missed words c.packet_tells_its_pdu.ensures.heard c.a_pdu_is_understood.ensures.says c.connections_are_taken.ensures.taken
    c.searches_give_each_valid_address.ensures.valid c.searches_give_each_valid_address.ensures.distinct given are (record { links = few }) six gives eight

pub returns-clause-at_the_end : goal.returns-clause-at_the_end
returns-clause-at_the_end c = λ words given history are six gives few eight.
    none_missed_at_end words c.packet_tells_its_pdu.ensures.heard c.a_pdu_is_understood.ensures.says c.connections_are_taken.ensures.taken
    c.searches_give_each_valid_address.ensures.valid c.searches_give_each_valid_address.ensures.distinct given are (record { links = few }) six gives eight history
