-- Proof of `taking::each_pdu_is_taken_at_once`.
use Rattle.journal_leaving.proofs.journal_links.OfTwo.{are_distinct}
use Rattle.journal_sending.proofs.TakenInRuns.{taken_lines}
use Rattle.journal_sending.proofs.taking.each_pdu_is_taken_at_once.Goals as goal

pub returns : goal.returns
returns c = λ words given are six gives few eight air.
    taken_lines words c.packet_tells_its_pdu.ensures.heard c.a_pdu_is_understood.ensures.says c.connections_are_taken.ensures.taken c.searches_give_each_valid_address.ensures.valid
    c.searches_give_each_valid_address.ensures.distinct given are (record { links = few }) six gives (are_distinct given are) eight air
