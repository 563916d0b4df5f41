-- Proof of `rules::each_end_has_the_latency_of_the_indications`.
use Rattle.journal_rules.proofs.LatencyLines.{has_latency}
use Rattle.journal_rules.proofs.rules.each_end_has_the_latency_of_the_indications.Goals as goal

pub returns : goal.returns
returns c = λ words a b script six six_too gives front rest side number event channel link is is_link.
    has_latency words c.packet_tells_its_pdu.ensures.heard c.a_pdu_is_understood.ensures.says c.connections_are_taken.ensures.taken
    c.searches_give_each_valid_address.ensures.valid c.searches_give_each_valid_address.ensures.distinct a b script six six_too gives front rest side number event channel link is is_link
