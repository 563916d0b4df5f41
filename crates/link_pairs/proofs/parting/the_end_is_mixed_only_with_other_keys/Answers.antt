-- The proof of the law `the_end_is_mixed_only_with_other_keys`.
use Rattle.std.proofs.Common.{true, sym}
use Rattle.link_pairs.proofs.SenderHears.{unmixed_parting}
use Rattle.link_pairs.proofs.parting.the_end_is_mixed_only_with_other_keys.Goals as goal

pub returns-clause-peripheral : goal.returns-clause-peripheral
returns-clause-peripheral g =
    λ central peripheral slot c p channel octets ends parting packet same.
    unmixed_parting g.packet_tells_its_pdu.ensures.heard central peripheral ends.one_link.fields ends.peripheral_max.to c p parting slot channel octets packet same true
    g.a_sealed_packet_is_opened.ensures.opened

pub returns-clause-central : goal.returns-clause-central
returns-clause-central g =
    λ central peripheral slot c p channel octets ends parting packet same.
    unmixed_parting g.packet_tells_its_pdu.ensures.heard peripheral central (sym ends.one_link.fields) ends.central_max.to p c parting slot channel octets packet same true
    g.a_sealed_packet_is_opened.ensures.opened
