-- The proof of the law `the_central_prevails_in_a_run_of_a_pair`.
use Rattle.std.proofs.Common.{◌∷◌, refl}
use Rattle.controller_model.specs.Heard.{has_room}
use Rattle.controller_model.specs.Step.{PacketHeard}
use Rattle.run_pairs.specs.link_calls.open_links.OpenLinks.{facts_in}
use Rattle.run_pairs.specs.link_calls.run_model.History.{Called}
use Rattle.run_pairs.specs.link_calls.run_model.Pair.{given_of}
use Rattle.run_pairs.specs.link_calls.run_model.Run.{facts_at, setup_at}
use Rattle.run_pairs.proofs.link_calls.run_model.LinkEnds.{pair_addresses}
use Rattle.run_pairs.proofs.link_calls.run_model.Ordered.{pair_distinct}
use Rattle.run_pairs.proofs.link_calls.run_model.Stations.{contains_in}
use Rattle.run_pairs.proofs.link_calls.run_laws.TwoStations.{are_two}
use Rattle.run_collisions.proofs.OfPairs.{good_taken, hear_before, sent_to_central}
use Rattle.run_collisions.proofs.runs.the_central_prevails_in_a_run_of_a_pair.Goals as goal

pub returns-clause-taken : goal.returns-clause-taken
returns-clause-taken c =
    λ a b script before rest octets room central peripheral own other long long_too is is_too at ends none_mixed is_open is_open_too listens colliding.
    let given = given_of a b script in
    let distinct = pair_distinct a b script in
    let six = pair_addresses a b script long long_too in
    let understood = c.a_pdu_is_understood.ensures.says in
    let taken = c.connections_are_taken.ensures.taken in
    let apart = c.searches_give_each_valid_address.ensures.distinct in
    let two = are_two given 0 1 refl in
    let in_it = contains_in given.stations central.station is in
    let in_too = contains_in given.stations peripheral.station is_too in
    let slot = (facts_at given central.station before).turn.slot in
    let good = good_taken central.link.setup (facts_in central.link) octets slot room colliding.earlier colliding.later _ colliding.notes in
    c.the_central_prevails_in_each_run.ensures.taken given before rest octets room central peripheral own other distinct six is is_too at ends
    (hear_before understood taken apart given six distinct two before (Called central.station (PacketHeard octets) ∷ rest) octets central peripheral in_it
    in_too ends at)
    none_mixed is_open is_open_too listens
    (sent_to_central understood taken apart given six distinct two before rest octets central peripheral in_it in_too ends at is_open listens good) colliding

pub returns-clause-held : goal.returns-clause-held
returns-clause-held c =
    λ a b script before rest octets link central peripheral own other long long_too is is_too at ends none_mixed is_open is_open_too listens opened same colliding.
    let given = given_of a b script in
    let distinct = pair_distinct a b script in
    let six = pair_addresses a b script long long_too in
    let understood = c.a_pdu_is_understood.ensures.says in
    let taken = c.connections_are_taken.ensures.taken in
    let apart = c.searches_give_each_valid_address.ensures.distinct in
    let two = are_two given 0 1 refl in
    let in_it = contains_in given.stations central.station is in
    let in_too = contains_in given.stations peripheral.station is_too in
    let room = has_room (setup_at given central.station) (facts_at given central.station before) in
    let slot = (facts_at given central.station before).turn.slot in
    let good = good_taken central.link.setup (facts_in central.link) octets slot room colliding.earlier colliding.later _ colliding.notes in
    c.the_central_prevails_in_each_run.ensures.held given before rest octets link central peripheral own other distinct six is is_too at ends
    (hear_before understood taken apart given six distinct two before (Called central.station (PacketHeard octets) ∷ rest) octets central peripheral in_it
    in_too ends at)
    none_mixed is_open is_open_too listens
    (sent_to_central understood taken apart given six distinct two before rest octets central peripheral in_it in_too ends at is_open listens good) opened
    same colliding
