-- The proof of the law `rejected_procedures_are_refused_in_each_run`.
use Rattle.run_pairs.proofs.link_calls.run_model.Stations.{contains_in}
use Rattle.run_pairs.proofs.LinkSteps.{asks_come}
use Rattle.run_collisions.proofs.InRuns.{refused_in_run}
use Rattle.run_collisions.proofs.runs.rejected_procedures_are_refused_in_each_run.Goals as goal

pub returns : goal.returns
returns c = λ given before rest octets room central peripheral q code distinct six is is_too at of_one hear none_mixed is_open is_open_too listens sent.
    refused_in_run c.packet_tells_its_pdu.ensures.heard c.a_sealed_packet_is_opened.ensures.opened c.a_pdu_is_understood.ensures.says c.connections_are_taken.ensures.taken given six distinct
    (asks_come c.what_hosts_ask_may_come.ensures given) before rest octets central peripheral at
    (contains_in given.stations central.station is) (contains_in given.stations peripheral.station is_too) of_one is_open is_open_too hear none_mixed listens sent
    room q code
