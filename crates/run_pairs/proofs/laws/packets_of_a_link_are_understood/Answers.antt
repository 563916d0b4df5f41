-- The proof of the law `packets_of_a_link_are_understood`.
use Rattle.std.proofs.Common.{◌∷◌}
use Rattle.link_calls.specs.controller_model.Step.{PacketHeard}
use Rattle.link_calls.specs.run_model.History.{Called}
use Rattle.link_calls.proofs.run_model.Stations.{contains_in}
use Rattle.run_pairs.proofs.LinkSteps.{asks_come}
use Rattle.run_pairs.proofs.Conclusions.{central_understands, peripheral_understands}
use Rattle.run_pairs.proofs.laws.packets_of_a_link_are_understood.Goals as goal

pub returns-clause-peripheral : goal.returns-clause-peripheral
returns-clause-peripheral c = λ given before rest octets central peripheral distinct six is is_too at of_one hear none_mixed is_open is_open_too listens sent.
    peripheral_understands c.packet_tells_its_pdu.ensures.heard c.a_sealed_packet_is_opened.ensures.opened c.a_pdu_is_understood.ensures.says c.connections_are_taken.ensures.taken given six distinct
    (asks_come c.what_hosts_ask_may_come.ensures given)
    before (Called
    peripheral.station (PacketHeard octets) ∷ rest) at central peripheral (contains_in given.stations central.station is) (contains_in given.stations peripheral.station
    is_too) of_one is_open is_open_too hear none_mixed octets rest at listens sent

pub returns-clause-central : goal.returns-clause-central
returns-clause-central c = λ given before rest octets central peripheral distinct six is is_too at of_one hear none_mixed is_open is_open_too listens sent.
    central_understands c.packet_tells_its_pdu.ensures.heard c.a_sealed_packet_is_opened.ensures.opened c.a_pdu_is_understood.ensures.says c.connections_are_taken.ensures.taken given six distinct
    (asks_come c.what_hosts_ask_may_come.ensures given)
    before (Called
    central.station (PacketHeard octets) ∷ rest) at central peripheral (contains_in given.stations central.station is) (contains_in given.stations peripheral.station is_too)
    of_one is_open is_open_too hear none_mixed octets rest at listens sent
