-- Proof of `hearings::each_opened_link_was_to_open`.
use Rattle.journal_hearings.proofs.OpenedHeard.{opened_were_to_open}
use Rattle.journal_hearings.proofs.hearings.each_opened_link_was_to_open.Goals as goal

pub returns : goal.returns
returns c = λ given stations six few eight.
    opened_were_to_open given stations six c.a_pdu_is_understood.ensures.says c.packet_tells_its_pdu.ensures.heard c.connections_are_taken.ensures.taken
    c.searches_give_each_valid_address.ensures.valid c.searches_give_each_valid_address.ensures.distinct few eight
