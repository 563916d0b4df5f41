-- The proof of the law `a_packet_is_mixed_only_with_other_keys`.
use Rattle.link_pairs.proofs.OtherKeys.{mixed_at_central, mixed_at_peripheral}
use Rattle.link_pairs.proofs.soundness.a_packet_is_mixed_only_with_other_keys.Goals as goal

pub returns-clause-peripheral : goal.returns-clause-peripheral
returns-clause-peripheral g =
    λ central peripheral turns slot answers c p channel octets ends linked central_lasts peripheral_lasts.
    mixed_at_peripheral g.packet_tells_its_pdu.ensures.heard g.a_sealed_packet_is_opened.ensures.opened central peripheral turns slot answers c p channel octets ends
    linked central_lasts peripheral_lasts

pub returns-clause-central : goal.returns-clause-central
returns-clause-central g =
    λ central peripheral turns slot answers c p channel octets ends linked central_lasts peripheral_lasts.
    mixed_at_central g.packet_tells_its_pdu.ensures.heard g.a_sealed_packet_is_opened.ensures.opened central peripheral turns slot answers c p channel octets ends
    linked central_lasts peripheral_lasts
