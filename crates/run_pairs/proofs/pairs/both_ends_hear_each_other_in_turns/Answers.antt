-- The proof of the law `both_ends_hear_each_other_in_turns`.
use Rattle.std.proofs.Common.{◌==◌}
use Rattle.std.proofs.lemmas.Bool.{eqb-true, false_from_ne_true}
use Rattle.link_calls.proofs.run_model.Stations.{contains_in}
use Rattle.link_calls.proofs.run_laws.SameEvent.{apart_ends, one_connect_ind}
use Rattle.link_calls.proofs.run_laws.TwoStations.{are_two}
use Rattle.run_pairs.proofs.FarEnds.{hear_in_turn, sent_in_turn}
use Rattle.run_pairs.proofs.pairs.both_ends_hear_each_other_in_turns.Goals as goal

pub returns-clause-hear : goal.returns-clause-hear
returns-clause-hear c = λ given one other before rest central peripheral stations distinct six is is_too at ends.
    hear_in_turn c.a_pdu_is_understood.ensures.says c.connections_are_taken.ensures.taken c.searches_give_each_valid_address.ensures.distinct given six distinct
    (are_two given one other stations) before rest at central peripheral (contains_in given.stations central.station is) (contains_in given.stations peripheral.station is_too)
    (apart_ends before central peripheral ends) (one_connect_ind before central peripheral ends)

pub returns-clause-now : goal.returns-clause-now
returns-clause-now c = λ given one other before rest octets end far stations distinct six is differs at same is_open listens unforged sent.
    sent_in_turn c.a_pdu_is_understood.ensures.says c.connections_are_taken.ensures.taken c.searches_give_each_valid_address.ensures.distinct given six distinct
    (are_two given one other stations) before rest octets end far at (contains_in given.stations far.station is)
    (false_from_ne_true (end.station == far.station) (λ equal. differs (eqb-true end.station far.station equal))) same is_open listens unforged sent
