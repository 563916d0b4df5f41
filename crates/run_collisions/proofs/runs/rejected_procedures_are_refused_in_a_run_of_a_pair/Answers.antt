-- The proof of the law `rejected_procedures_are_refused_in_a_run_of_a_pair`.
use Rattle.std.proofs.Common.{◌∷◌, refl}
use Rattle.controller_model.specs.Step.{PacketHeard}
use Rattle.run_pairs.specs.link_calls.open_links.OpenLinks.{facts_in}
use Rattle.run_pairs.specs.link_calls.run_model.History.{Called}
use Rattle.run_pairs.specs.link_calls.run_model.Pair.{given_of}
use Rattle.run_pairs.specs.link_calls.run_model.Run.{facts_at}
use Rattle.run_pairs.proofs.link_calls.run_model.LinkEnds.{pair_addresses}
use Rattle.run_pairs.proofs.link_calls.run_model.Ordered.{pair_distinct}
use Rattle.run_pairs.proofs.link_calls.run_model.Stations.{contains_in}
use Rattle.run_pairs.proofs.link_calls.run_laws.TwoStations.{are_two}
use Rattle.run_collisions.proofs.OfPairs.{good_taken, hear_before, sent_to_peripheral}
use Rattle.run_collisions.proofs.runs.rejected_procedures_are_refused_in_a_run_of_a_pair.Goals as goal

pub returns : goal.returns
returns c = λ a b script before rest octets room central peripheral q code long long_too is is_too at ends none_mixed is_open is_open_too listens taking.
    let given = given_of a b script in
    let distinct = pair_distinct a b script in
    let six = pair_addresses a b script long long_too in
    let understood = c.a_pdu_is_understood.ensures.says in
    let taken = c.connections_are_taken.ensures.taken in
    let apart = c.searches_give_each_valid_address.ensures.distinct in
    let two = are_two given 0 1 refl in
    let in_it = contains_in given.stations central.station is in
    let in_too = contains_in given.stations peripheral.station is_too in
    let slot = (facts_at given peripheral.station before).turn.slot in
    let good = good_taken peripheral.link.setup (facts_in peripheral.link) octets slot room taking.earlier taking.later _ taking.notes in
    c.rejected_procedures_are_refused_in_each_run.ensures given before rest octets room central peripheral q code distinct six is is_too at ends
    (hear_before understood taken apart given six distinct two before (Called peripheral.station (PacketHeard octets) ∷ rest) octets central peripheral
    in_it in_too ends at)
    none_mixed is_open is_open_too listens
    (sent_to_peripheral understood taken apart given six distinct two before rest octets central peripheral in_it in_too ends at is_open_too listens good)
    taking
