-- Proof of `delivery::data_of_two_stations_arrives_in_order`.
use Rattle.journal_acks.proofs.journal_links.OfTwo.{are_distinct}
use Rattle.journal_data.proofs.Followed.{agree_unmixed}
use Rattle.journal_data.proofs.Law.{data_of_two}
use Rattle.journal_data.proofs.delivery.data_of_two_stations_arrives_in_order.Goals as goal

pub returns : goal.returns
returns c = λ given mixed front rest side link stations six few eight follows is unmixed.
    data_of_two c.packet_tells_its_pdu.ensures.heard c.a_pdu_is_understood.ensures.says c.connections_are_taken.ensures.taken c.searches_give_each_valid_address.ensures.valid
    c.searches_give_each_valid_address.ensures.distinct given
    (agree_unmixed given stations (are_distinct given stations) six c.both_ends_hear_each_other_in_turns.ensures.hear c.ends_that_last_are_sound.ensures.agreement)
    mixed follows stations (record { links = few }) six (are_distinct given stations) eight front rest side link is unmixed
