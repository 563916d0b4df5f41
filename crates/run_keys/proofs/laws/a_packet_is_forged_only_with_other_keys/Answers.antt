-- The proof of the law `a_packet_is_forged_only_with_other_keys`.
use Rattle.run_pairs.proofs.link_calls.run_model.Stations.{contains_in}
use Rattle.run_pairs.proofs.LinkSteps.{asks_come}
use Rattle.run_keys.proofs.Forgeries.{forged_at_central, forged_at_peripheral}
use Rattle.run_keys.proofs.laws.a_packet_is_forged_only_with_other_keys.Goals as goal

pub returns-clause-peripheral : goal.returns-clause-peripheral
returns-clause-peripheral c = λ given before rest channel octets hearings central peripheral distinct six is is_too at of_one hear none_mixed is_open is_open_too
    listens sent. forged_at_peripheral c.packet_tells_its_pdu.ensures.heard c.a_sealed_packet_is_opened.ensures.opened c.a_pdu_is_understood.ensures.says
    c.connections_are_taken.ensures.taken given six distinct (asks_come c.what_hosts_ask_may_come.ensures given) before rest central.station channel octets hearings
    central peripheral at (contains_in given.stations central.station is) (contains_in given.stations peripheral.station is_too) of_one is_open is_open_too hear
    none_mixed listens sent

pub returns-clause-central : goal.returns-clause-central
returns-clause-central c = λ given before rest channel octets hearings central peripheral distinct six is is_too at of_one hear none_mixed is_open is_open_too
    listens sent. forged_at_central c.packet_tells_its_pdu.ensures.heard c.a_sealed_packet_is_opened.ensures.opened c.a_pdu_is_understood.ensures.says
    c.connections_are_taken.ensures.taken given six distinct (asks_come c.what_hosts_ask_may_come.ensures given) before rest peripheral.station channel octets hearings
    central peripheral at (contains_in given.stations central.station is) (contains_in given.stations peripheral.station is_too) of_one is_open is_open_too hear
    none_mixed listens sent
