-- The proof of the law `a_sender_hears_the_end`.
use Rattle.std.proofs.Common.{subst, sym}
use Rattle.link_model.specs.Facts.{Facts}
use Rattle.link_pairs.specs.Parting.{HasSeenTerminate}
use Rattle.link_pairs.proofs.SenderHears.{ends_forged, has_seen, hears_the_end}
use Rattle.link_pairs.proofs.parting.a_sender_hears_the_end.Goals as goal

pub returns-clause-peripheral_ends : goal.returns-clause-peripheral_ends
returns-clause-peripheral_ends g =
    λ central peripheral slot c p channel octets room ends parting packet same pure genuine.
    hears_the_end g.packet_tells_its_pdu.ensures.heard central peripheral ends.one_link.fields ends.peripheral_max.to c p parting slot channel octets packet same room pure genuine

pub returns-clause-peripheral : goal.returns-clause-peripheral
returns-clause-peripheral g =
    λ central peripheral slot c p channel octets room ends parting packet same pure genuine.
    subst (λ (f : Facts). HasSeenTerminate c.acknowledgement f)
    (sym (returns-clause-peripheral_ends g central peripheral slot c p channel octets room ends parting packet same pure genuine).answers_none)
    (has_seen g.packet_tells_its_pdu.ensures.heard central peripheral ends.one_link.fields ends.peripheral_max.to c p parting slot channel octets packet same room pure genuine)

pub returns-clause-central : goal.returns-clause-central
returns-clause-central g =
    λ central peripheral slot c p channel octets room ends parting packet same pure genuine.
    has_seen g.packet_tells_its_pdu.ensures.heard peripheral central (sym ends.one_link.fields) ends.central_max.to p c parting slot channel octets packet same room pure genuine

pub returns-clause-central_ends : goal.returns-clause-central_ends
returns-clause-central_ends g =
    λ central peripheral slot c p channel octets room ends parting packet same pure genuine.
    hears_the_end g.packet_tells_its_pdu.ensures.heard peripheral central (sym ends.one_link.fields) ends.central_max.to p c parting slot channel octets packet same
    room pure genuine

pub returns-clause-peripheral_forged : goal.returns-clause-peripheral_forged
returns-clause-peripheral_forged g =
    λ central peripheral slot c p channel octets room ends parting packet same.
    ends_forged g.packet_tells_its_pdu.ensures.heard central peripheral ends.one_link.fields ends.peripheral_max.to c p parting slot channel octets packet same room

pub returns-clause-central_forged : goal.returns-clause-central_forged
returns-clause-central_forged g =
    λ central peripheral slot c p channel octets room ends parting packet same.
    ends_forged g.packet_tells_its_pdu.ensures.heard peripheral central (sym ends.one_link.fields) ends.central_max.to p c parting slot channel octets packet same room
