-- Proof of `stations::links_of_two_stations_keep_to_the_journal`.
use Rattle.link_calls.proofs.run_model.Stations.{contains_in}
use Rattle.journal_packets.proofs.journal_links.OfTwo.{are_distinct}
use Rattle.journal_acks.proofs.EventsInOrder.{event_in_order}
use Rattle.journal_acks.proofs.HeardPackets.{line_heard}
use Rattle.journal_acks.proofs.LinkPackets.{packet_of_line, payload_of_packet}
use Rattle.journal_acks.proofs.NewPdus.{sent_line_is_new}
use Rattle.journal_acks.proofs.RunCounts.{counted_before, counted_last}
use Rattle.journal_acks.proofs.stations.links_of_two_stations_keep_to_the_journal.Goals as goal

pub returns-clause-counts_before_a_turn : goal.returns-clause-counts_before_a_turn
returns-clause-counts_before_a_turn c = λ given before rest slot radios station handle link stations six is at is_open.
    counted_before c.packet_tells_its_pdu.ensures.heard c.a_pdu_is_understood.ensures.says c.connections_are_taken.ensures.taken c.searches_give_each_valid_address.ensures.valid
    c.searches_give_each_valid_address.ensures.distinct given stations six (are_distinct given stations) before rest slot radios at station handle link
    (contains_in given.stations station is) is_open

pub returns-clause-counts_at_the_end : goal.returns-clause-counts_at_the_end
returns-clause-counts_at_the_end c = λ given history station handle link stations six is goes is_open.
    counted_last c.packet_tells_its_pdu.ensures.heard c.a_pdu_is_understood.ensures.says c.connections_are_taken.ensures.taken c.searches_give_each_valid_address.ensures.valid
    c.searches_give_each_valid_address.ensures.distinct given stations six (are_distinct given stations) history goes station handle link
    (contains_in given.stations station is) is_open

pub returns-clause-packets : goal.returns-clause-packets
returns-clause-packets c = λ given front rest side channel octets fate verdict stations six at.
    packet_of_line c.packet_tells_its_pdu.ensures.heard c.a_pdu_is_understood.ensures.says c.connections_are_taken.ensures.taken c.searches_give_each_valid_address.ensures.valid
    c.searches_give_each_valid_address.ensures.distinct given stations six (are_distinct given stations) front side channel octets fate verdict
    (c.each_packet_on_the_air_is_due.ensures.due given front rest side channel octets fate verdict at)

pub returns-clause-payloads : goal.returns-clause-payloads
returns-clause-payloads c = λ given before rest station channel octets hearings stations six at.
    payload_of_packet c.packet_tells_its_pdu.ensures.heard c.a_pdu_is_understood.ensures.says c.connections_are_taken.ensures.taken c.searches_give_each_valid_address.ensures.valid
    c.searches_give_each_valid_address.ensures.distinct given stations six (are_distinct given stations) before rest station channel octets hearings at

pub returns-clause-hearings : goal.returns-clause-hearings
returns-clause-hearings c = λ given front rest side channel octets fate verdict stations six at off handed.
    let aired = c.each_packet_on_the_air_is_due.ensures.due given front rest side channel octets fate verdict at in record {
      aired = aired;
      by_end = line_heard c.packet_tells_its_pdu.ensures.heard c.a_pdu_is_understood.ensures.says c.connections_are_taken.ensures.taken c.searches_give_each_valid_address.ensures.valid
          c.searches_give_each_valid_address.ensures.distinct given stations six (are_distinct given stations) front side channel octets fate verdict aired off handed;
    }

pub returns-clause-new_pdus : goal.returns-clause-new_pdus
returns-clause-new_pdus c = λ given front rest side number count llid body stations six at.
    sent_line_is_new c.packet_tells_its_pdu.ensures.heard c.a_pdu_is_understood.ensures.says c.connections_are_taken.ensures.taken c.searches_give_each_valid_address.ensures.valid
    c.searches_give_each_valid_address.ensures.distinct given stations six (are_distinct given stations) front rest side number count llid body at

pub returns-clause-events : goal.returns-clause-events
returns-clause-events c = λ given front rest side number event channel stations six at.
    event_in_order c.a_pdu_is_understood.ensures.says c.connections_are_taken.ensures.taken given stations six (are_distinct given stations) front rest side number event channel at
