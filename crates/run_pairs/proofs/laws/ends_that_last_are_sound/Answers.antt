-- The proof of the law `ends_that_last_are_sound`.
use Rattle.std.proofs.Common.{[], ◌∷◌}
use Rattle.link_calls.specs.run_model.History.{TurnBegan, turns_begun}
use Rattle.link_calls.proofs.run_model.Stations.{contains_in}
use Rattle.run_pairs.proofs.CallPlaces.{stands_before_turn, stands_last, whole_history}
use Rattle.run_pairs.proofs.LinkSteps.{asks_come}
use Rattle.run_pairs.proofs.Conclusions.{delivered_here, lasting_sound, sound_here}
use Rattle.run_pairs.proofs.laws.ends_that_last_are_sound.Goals as goal

pub returns-clause-before_a_turn : goal.returns-clause-before_a_turn
returns-clause-before_a_turn c = λ given before rest slot radios central peripheral distinct six is is_too at of_one hear none_mixed is_open is_open_too.
    lasting_sound c.packet_tells_its_pdu.ensures.heard c.a_sealed_packet_is_opened.ensures.opened c.a_pdu_is_understood.ensures.says c.connections_are_taken.ensures.taken given six distinct
    (asks_come c.what_hosts_ask_may_come.ensures given)
    before (TurnBegan slot radios
    ∷ rest) at central peripheral (contains_in given.stations central.station is) (contains_in given.stations peripheral.station is_too) of_one is_open is_open_too hear none_mixed slot
    (stands_before_turn given before rest slot radios distinct at)

pub returns-clause-at_the_end : goal.returns-clause-at_the_end
returns-clause-at_the_end c = λ given history central peripheral distinct six is is_too goes of_one hear none_mixed is_open is_open_too.
    lasting_sound c.packet_tells_its_pdu.ensures.heard c.a_sealed_packet_is_opened.ensures.opened c.a_pdu_is_understood.ensures.says c.connections_are_taken.ensures.taken given six distinct
    (asks_come c.what_hosts_ask_may_come.ensures given)
    history [] (whole_history
    given history goes) central peripheral (contains_in given.stations central.station is) (contains_in given.stations peripheral.station is_too) of_one is_open is_open_too
    hear none_mixed
    (turns_begun history) (stands_last given history distinct goes)

pub returns-clause-agreement : goal.returns-clause-agreement
returns-clause-agreement c = λ given before rest central peripheral distinct six is is_too at of_one hear none_mixed is_open is_open_too.
    (sound_here c.packet_tells_its_pdu.ensures.heard c.a_sealed_packet_is_opened.ensures.opened c.a_pdu_is_understood.ensures.says c.connections_are_taken.ensures.taken given six distinct
    (asks_come c.what_hosts_ask_may_come.ensures given)
    before rest at central
    peripheral (contains_in given.stations central.station is) (contains_in given.stations peripheral.station is_too) of_one is_open is_open_too hear none_mixed).agreement

pub returns-clause-delivery : goal.returns-clause-delivery
returns-clause-delivery c = λ given before rest central peripheral distinct six is is_too at of_one hear none_mixed is_open is_open_too.
    delivered_here c.packet_tells_its_pdu.ensures.heard c.a_sealed_packet_is_opened.ensures.opened c.a_pdu_is_understood.ensures.says c.connections_are_taken.ensures.taken given six distinct
    (asks_come c.what_hosts_ask_may_come.ensures given) before rest at central peripheral (contains_in given.stations central.station is)
    (contains_in given.stations peripheral.station is_too) of_one is_open is_open_too hear none_mixed
