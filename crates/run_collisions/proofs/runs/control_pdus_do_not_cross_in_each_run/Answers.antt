-- The proof of the law `control_pdus_do_not_cross_in_each_run`.
use Rattle.run_pairs.proofs.link_calls.run_model.Stations.{contains_in}
use Rattle.run_pairs.proofs.LinkSteps.{asks_come}
use Rattle.run_collisions.proofs.InRuns.{central_taken_in_run, peripheral_lasts_in_run, peripheral_taken_in_run, refuses_none_in_run}
use Rattle.run_collisions.proofs.runs.control_pdus_do_not_cross_in_each_run.Goals as goal

pub returns-clause-central : goal.returns-clause-central
returns-clause-central c = λ given before rest octets room central peripheral distinct six is is_too at of_one hear none_mixed is_open is_open_too listens sent.
    central_taken_in_run c.packet_tells_its_pdu.ensures.heard c.a_sealed_packet_is_opened.ensures.opened c.a_pdu_is_understood.ensures.says c.connections_are_taken.ensures.taken given six distinct
    (asks_come c.what_hosts_ask_may_come.ensures given) before rest octets central peripheral at
    (contains_in given.stations central.station is) (contains_in given.stations peripheral.station is_too) of_one is_open is_open_too hear none_mixed listens sent
    room

pub returns-clause-peripheral : goal.returns-clause-peripheral
returns-clause-peripheral c = λ given before rest octets room central peripheral distinct six is is_too at of_one hear none_mixed is_open is_open_too listens sent.
    peripheral_taken_in_run c.packet_tells_its_pdu.ensures.heard c.a_sealed_packet_is_opened.ensures.opened c.a_pdu_is_understood.ensures.says c.connections_are_taken.ensures.taken given six distinct
    (asks_come c.what_hosts_ask_may_come.ensures given) before rest octets central peripheral at
    (contains_in given.stations central.station is) (contains_in given.stations peripheral.station is_too) of_one is_open is_open_too hear none_mixed listens sent
    room

pub returns-clause-refused : goal.returns-clause-refused
returns-clause-refused c = λ given before rest octets room central peripheral distinct six is is_too at of_one hear none_mixed is_open is_open_too listens sent.
    refuses_none_in_run c.packet_tells_its_pdu.ensures.heard c.a_sealed_packet_is_opened.ensures.opened c.a_pdu_is_understood.ensures.says c.connections_are_taken.ensures.taken given six distinct
    (asks_come c.what_hosts_ask_may_come.ensures given) before rest octets central peripheral at
    (contains_in given.stations central.station is) (contains_in given.stations peripheral.station is_too) of_one is_open is_open_too hear none_mixed listens sent
    room

pub returns-clause-lasts : goal.returns-clause-lasts
returns-clause-lasts c = λ given before rest octets room central peripheral distinct six is is_too at of_one hear none_mixed is_open is_open_too listens sent.
    peripheral_lasts_in_run c.packet_tells_its_pdu.ensures.heard c.a_sealed_packet_is_opened.ensures.opened c.a_pdu_is_understood.ensures.says c.connections_are_taken.ensures.taken given six distinct
    (asks_come c.what_hosts_ask_may_come.ensures given) before rest octets central peripheral at
    (contains_in given.stations central.station is) (contains_in given.stations peripheral.station is_too) of_one is_open is_open_too hear none_mixed listens sent
    room
