-- The proof of the law `the_central_prevails_in_each_run`.
use Rattle.run_pairs.proofs.link_calls.run_model.Stations.{contains_in}
use Rattle.run_pairs.proofs.LinkSteps.{asks_come}
use Rattle.run_collisions.proofs.InRuns.{prevails_after, prevails_in_run}
use Rattle.run_collisions.proofs.runs.the_central_prevails_in_each_run.Goals as goal

pub returns-clause-taken : goal.returns-clause-taken
returns-clause-taken c = λ given before rest octets room central peripheral own other distinct six is is_too at of_one hear none_mixed is_open is_open_too listens sent.
    prevails_in_run c.packet_tells_its_pdu.ensures.heard c.a_sealed_packet_is_opened.ensures.opened c.a_pdu_is_understood.ensures.says c.connections_are_taken.ensures.taken given six distinct
    (asks_come c.what_hosts_ask_may_come.ensures given) before rest octets central peripheral at
    (contains_in given.stations central.station is) (contains_in given.stations peripheral.station is_too) of_one is_open is_open_too hear none_mixed listens sent
    room own other

pub returns-clause-held : goal.returns-clause-held
returns-clause-held c =
    λ given before rest octets link central peripheral own other distinct six is is_too at of_one hear none_mixed is_open is_open_too listens sent opened same.
    prevails_after c.packet_tells_its_pdu.ensures.heard c.a_sealed_packet_is_opened.ensures.opened c.a_pdu_is_understood.ensures.says c.connections_are_taken.ensures.taken given six distinct
    (asks_come c.what_hosts_ask_may_come.ensures given) before rest octets central peripheral at
    (contains_in given.stations central.station is) (contains_in given.stations peripheral.station is_too) of_one is_open is_open_too hear none_mixed listens sent
    link own other opened same
