-- The proof of the law `no_procedure_ends_a_link_but_a_late_one`.
use Rattle.link_calls.proofs.run_model.Stations.{contains_in}
use Rattle.run_pairs.proofs.LinkSteps.{asks_come}
use Rattle.run_pairs.proofs.Conclusions.{goes_on_here, terminated_here}
use Rattle.run_pairs.proofs.laws.no_procedure_ends_a_link_but_a_late_one.Goals as goal

pub returns-clause-procedures : goal.returns-clause-procedures
returns-clause-procedures c = λ given before rest central peripheral distinct six is is_too at of_one hear none_mixed is_open is_open_too.
    goes_on_here c.packet_tells_its_pdu.ensures.heard c.a_sealed_packet_is_opened.ensures.opened c.a_pdu_is_understood.ensures.says c.connections_are_taken.ensures.taken given six distinct
    (asks_come c.what_hosts_ask_may_come.ensures given)
    before rest at central
    peripheral (contains_in given.stations central.station is) (contains_in given.stations peripheral.station is_too) of_one is_open is_open_too hear none_mixed

pub returns-clause-codes : goal.returns-clause-codes
returns-clause-codes c = λ given before rest central peripheral distinct six is is_too at of_one hear none_mixed is_open is_open_too.
    terminated_here c.packet_tells_its_pdu.ensures.heard c.a_sealed_packet_is_opened.ensures.opened c.a_pdu_is_understood.ensures.says c.connections_are_taken.ensures.taken given six distinct
    (asks_come c.what_hosts_ask_may_come.ensures given)
    before rest at central
    peripheral (contains_in given.stations central.station is) (contains_in given.stations peripheral.station is_too) of_one is_open is_open_too hear none_mixed
