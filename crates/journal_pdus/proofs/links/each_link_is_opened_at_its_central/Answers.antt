-- Proof of `links::each_link_is_opened_at_its_central`.
use Rattle.journal_moves.proofs.journal_wants.journal_sending.journal_links.OfTwo.{are_distinct}
use Rattle.journal_pdus.proofs.CentralsOpen.{opened_last, opened_lines}
use Rattle.journal_pdus.proofs.links.each_link_is_opened_at_its_central.Goals as goal

pub returns-clause-before_a_turn : goal.returns-clause-before_a_turn
returns-clause-before_a_turn c = λ given stations six.
    opened_lines c.a_pdu_is_understood.ensures.says given stations six (are_distinct given stations) c.connections_are_taken.ensures.taken

pub returns-clause-at_the_end : goal.returns-clause-at_the_end
returns-clause-at_the_end c = λ given history stations six goes.
    opened_last c.a_pdu_is_understood.ensures.says given stations six (are_distinct given stations) c.connections_are_taken.ensures.taken history goes
