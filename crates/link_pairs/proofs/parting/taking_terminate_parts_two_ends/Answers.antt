-- The proof of the law `taking_terminate_parts_two_ends`.
use Rattle.link_pairs.proofs.PartingBegins.{central_took, peripheral_took}
use Rattle.link_pairs.proofs.parting.taking_terminate_parts_two_ends.Goals as goal

pub returns-clause-peripheral : goal.returns-clause-peripheral
returns-clause-peripheral g =
    λ central peripheral slot c p channel octets room ends begun central_lasts peripheral_lasts packet same pure ended.
    peripheral_took g.packet_tells_its_pdu.ensures.heard central peripheral ends slot c p channel octets room begun central_lasts peripheral_lasts packet same pure ended

pub returns-clause-central : goal.returns-clause-central
returns-clause-central g =
    λ central peripheral slot c p channel octets room ends linked central_lasts peripheral_lasts packet same pure ended.
    central_took g.packet_tells_its_pdu.ensures.heard central peripheral ends slot c p channel octets room linked central_lasts peripheral_lasts packet same pure ended
