-- Proof of `ends::ends_of_one_link_agree`.
use Rattle.run_model.specs.Pair.{given_of}
use Rattle.run_model.proofs.LinkEnds.{pair_addresses}
use Rattle.run_model.proofs.Ordered.{pair_distinct}
use Rattle.run_model.proofs.Stations.{contains_in}
use Rattle.run_laws.proofs.ChSel.{one_link}
use Rattle.run_laws.proofs.ends.ends_of_one_link_agree.Goals as goal

pub returns-clause-one_link : goal.returns-clause-one_link
returns-clause-one_link c = λ given before rest central peripheral distinct six is is_too at ends is_open is_open_too.
    one_link c.a_pdu_is_understood.ensures.says given before rest central peripheral distinct six (contains_in given.stations central.station is)
    (contains_in given.stations peripheral.station is_too) at ends is_open is_open_too

pub returns-clause-pair : goal.returns-clause-pair
returns-clause-pair c = λ a b script before rest central peripheral six six_too is is_too at ends is_open is_open_too.
    let given = given_of a b script in
    one_link c.a_pdu_is_understood.ensures.says given before rest central peripheral (pair_distinct a b script) (pair_addresses a b script six six_too)
    (contains_in given.stations central.station is) (contains_in given.stations peripheral.station is_too) at ends is_open is_open_too
