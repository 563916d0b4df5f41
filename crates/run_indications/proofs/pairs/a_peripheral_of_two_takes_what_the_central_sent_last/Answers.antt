-- The proof of the law `a_peripheral_of_two_takes_what_the_central_sent_last`.
use Rattle.std.proofs.Common.{[], ◌∷◌, ◌++◌, sym, ◌∙◌, refl}
use Rattle.std.proofs.lemmas.List.{append_assoc}
use Rattle.controller_model.specs.Step.{PacketHeard}
use Rattle.run_pairs.specs.link_calls.run_model.History.{Called}
use Rattle.run_pairs.specs.link_calls.run_model.Pair.{given_of}
use Rattle.run_pairs.proofs.link_calls.run_model.LinkEnds.{pair_addresses}
use Rattle.run_pairs.proofs.link_calls.run_model.Ordered.{pair_distinct}
use Rattle.run_pairs.proofs.link_calls.run_model.Stations.{contains_in}
use Rattle.run_pairs.proofs.link_calls.run_laws.SameEvent.{apart_ends, one_connect_ind}
use Rattle.run_pairs.proofs.link_calls.run_laws.TwoStations.{are_two}
use Rattle.run_pairs.proofs.FarEnds.{hear_in_turn}
use Rattle.run_indications.proofs.pairs.a_peripheral_of_two_takes_what_the_central_sent_last.Goals as goal

pub returns-clause-two : goal.returns-clause-two
returns-clause-two c = λ given one other before rest octets central peripheral room first later handle number llid body indication stations distinct
    six is is_too at ends.
    let call = Called peripheral.station (PacketHeard octets) in
    let hear =
    hear_in_turn c.a_pdu_is_understood.ensures.says c.connections_are_taken.ensures.taken c.searches_give_each_valid_address.ensures.distinct
    given six distinct (are_two given one other stations) (before ++ call ∷ []) rest (at ∙ sym (append_assoc before (call ∷ []) rest)) central peripheral
    (contains_in given.stations central.station is) (contains_in given.stations peripheral.station is_too) (apart_ends before central peripheral ends)
    (one_connect_ind before central peripheral ends) in
    λ none_mixed is_open is_open_too. c.a_peripheral_takes_what_the_central_sent_last.ensures given before rest octets central peripheral room first later
    handle number llid body indication distinct six is is_too at ends hear none_mixed is_open is_open_too

pub returns-clause-pair : goal.returns-clause-pair
returns-clause-pair c = λ a b script before rest octets central peripheral room first later handle number llid body indication long long_too.
    returns-clause-two c (given_of a b script) 0 1 before rest octets central peripheral room first later handle number llid body indication refl
    (pair_distinct a b script) (pair_addresses a b script long long_too)
