-- The proof of the law `packets_of_a_link_are_read_as_sent`.
use Rattle.link_calls.proofs.run_model.Stations.{contains_in}
use Rattle.run_pairs.proofs.LinkSteps.{asks_come}
use Rattle.run_pairs.proofs.ReadAsSent.{read_as_sent}
use Rattle.run_pairs.proofs.laws.packets_of_a_link_are_read_as_sent.Goals as goal

pub returns : goal.returns
returns c = λ given before rest central peripheral distinct six is is_too at of_one hear none_mixed is_open is_open_too.
    read_as_sent c.packet_tells_its_pdu.ensures.heard c.a_sealed_packet_is_opened.ensures.opened c.a_pdu_is_understood.ensures.says c.connections_are_taken.ensures.taken given six distinct
    (asks_come c.what_hosts_ask_may_come.ensures given) before rest at central peripheral (contains_in given.stations central.station is)
    (contains_in given.stations peripheral.station is_too) of_one is_open is_open_too hear none_mixed
