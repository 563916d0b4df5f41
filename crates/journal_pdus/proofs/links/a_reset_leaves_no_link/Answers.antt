-- Proof of `links::a_reset_leaves_no_link`.
use Rattle.journal_moves.proofs.journal_wants.journal_sending.journal_links.OfTwo.{are_distinct}
use Rattle.journal_pdus.proofs.ResetsLeaveNone.{resets_leave_none}
use Rattle.journal_pdus.proofs.links.a_reset_leaves_no_link.Goals as goal

pub returns : goal.returns
returns c = λ given stations six few eight.
    resets_leave_none c.packet_tells_its_pdu.ensures.heard c.a_pdu_is_understood.ensures.says c.connections_are_taken.ensures.taken c.searches_give_each_valid_address.ensures.valid
    c.searches_give_each_valid_address.ensures.distinct given stations (record { links = few }) six (are_distinct given stations) eight
