-- Proof of `links::each_link_has_its_connect_ind`.
use Rattle.run_model.specs.Pair.{given_of}
use Rattle.run_model.specs.Readers.{station_of}
use Rattle.run_model.proofs.LinkEnds.{has_connect_ind, pair_addresses}
use Rattle.run_model.proofs.Ordered.{pair_distinct}
use Rattle.run_model.proofs.links.each_link_has_its_connect_ind.Goals as goal

pub returns-clause-each : goal.returns-clause-each
returns-clause-each c = has_connect_ind c.a_pdu_is_understood.ensures.says c.connections_are_taken.ensures.taken

pub returns-clause-pair : goal.returns-clause-pair
returns-clause-pair c = λ a b script before rest side handle link six six_too is at.
    has_connect_ind c.a_pdu_is_understood.ensures.says c.connections_are_taken.ensures.taken (given_of a b script) before rest (station_of side) handle link
    (pair_distinct a b script) (pair_addresses a b script six six_too) is at
