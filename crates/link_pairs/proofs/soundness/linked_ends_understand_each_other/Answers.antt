-- The proof of the law `linked_ends_understand_each_other`.
use Rattle.link_pairs.proofs.Understanding.{judged_at_central, judged_at_peripheral, read_at_central, read_at_peripheral}
use Rattle.link_pairs.proofs.soundness.linked_ends_understand_each_other.Goals as goal

pub returns-clause-peripheral : goal.returns-clause-peripheral
returns-clause-peripheral g =
    λ central peripheral turns slot answers c p channel octets ends linked central_lasts peripheral_lasts.
    judged_at_peripheral g.packet_tells_its_pdu.ensures.heard central peripheral turns slot answers c p channel octets ends linked central_lasts peripheral_lasts

pub returns-clause-central : goal.returns-clause-central
returns-clause-central g =
    λ central peripheral turns slot answers c p channel octets ends linked central_lasts peripheral_lasts.
    judged_at_central g.packet_tells_its_pdu.ensures.heard central peripheral turns slot answers c p channel octets ends linked central_lasts peripheral_lasts

pub returns-clause-peripheral_with_one_key : goal.returns-clause-peripheral_with_one_key
returns-clause-peripheral_with_one_key g =
    λ central peripheral turns slot answers c p channel octets ends linked central_lasts peripheral_lasts packet same one.
    let is =
    read_at_peripheral g.packet_tells_its_pdu.ensures.heard central peripheral turns slot answers c p channel octets ends linked central_lasts peripheral_lasts packet same
    g.a_sealed_packet_is_opened.ensures.opened one in
    (is.genuine, is.pure)

pub returns-clause-central_with_one_key : goal.returns-clause-central_with_one_key
returns-clause-central_with_one_key g =
    λ central peripheral turns slot answers c p channel octets ends linked central_lasts peripheral_lasts packet same one.
    let is =
    read_at_central g.packet_tells_its_pdu.ensures.heard central peripheral turns slot answers c p channel octets ends linked central_lasts peripheral_lasts packet same
    g.a_sealed_packet_is_opened.ensures.opened one in
    (is.genuine, is.pure)
