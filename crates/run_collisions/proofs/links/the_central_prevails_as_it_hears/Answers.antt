-- The proof of the law `the_central_prevails_as_it_hears`.
use Rattle.run_collisions.proofs.Acknowledging.{own_seen}
use Rattle.run_collisions.proofs.CentralTakes.{prevails_here}
use Rattle.run_collisions.proofs.Taken.{taken_first}
use Rattle.run_collisions.proofs.links.the_central_prevails_as_it_hears.Goals as goal

pub returns-clause-prevails : goal.returns-clause-prevails
returns-clause-prevails g central peripheral slot c p channel octets room own other ends linked c_lasts p_lasts past entered packet same colliding unmixed =
    prevails_here g.packet_tells_its_pdu.ensures.heard central peripheral slot c p channel octets room ends linked c_lasts p_lasts past entered packet same
    (taken_first central c slot octets room own other colliding) g.a_sealed_packet_is_opened.ensures.opened unmixed own other colliding.first colliding.runs

pub returns-clause-stage : goal.returns-clause-stage
returns-clause-stage g =
    λ central slot c octets room number llid body later is_central. own_seen central is_central slot room c central.link.handle number llid body later octets
