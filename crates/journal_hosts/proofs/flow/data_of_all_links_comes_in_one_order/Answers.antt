-- Proof of `flow::data_of_all_links_comes_in_one_order`.
use Rattle.journal_hosts.proofs.PiecesInRuns.{order_of_pair}
use Rattle.journal_hosts.proofs.flow.data_of_all_links_comes_in_one_order.Goals as goal

pub returns : goal.returns
returns c =
    order_of_pair c.packet_tells_its_pdu.ensures.heard c.a_pdu_is_understood.ensures.says c.connections_are_taken.ensures.taken
    c.searches_give_each_valid_address.ensures.valid c.searches_give_each_valid_address.ensures.distinct
