-- Proof of `held::lines_of_two_stations_are_of_open_links`.
use Rattle.journal_acks.proofs.journal_links.OfTwo.{are_distinct}
use Rattle.journal_data.proofs.HeldInRuns.{held_of_two}
use Rattle.journal_data.proofs.held.lines_of_two_stations_are_of_open_links.Goals as goal

pub returns : goal.returns
returns c = λ given stations six few eight.
    held_of_two c.packet_tells_its_pdu.ensures.heard c.a_pdu_is_understood.ensures.says c.connections_are_taken.ensures.taken c.searches_give_each_valid_address.ensures.valid
    c.searches_give_each_valid_address.ensures.distinct given stations (record { links = few }) six (are_distinct given stations) eight
