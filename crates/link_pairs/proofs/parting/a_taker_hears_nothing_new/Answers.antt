-- The proof of the law `a_taker_hears_nothing_new`.
use Rattle.std.proofs.Common.{sym}
use Rattle.link_pairs.proofs.TakerHears.{answered_parting, heard_parting, hears_nothing_new, replies_again}
use Rattle.link_pairs.proofs.parting.a_taker_hears_nothing_new.Goals as goal

pub returns-clause-peripheral : goal.returns-clause-peripheral
returns-clause-peripheral g =
    λ central peripheral slot c p channel octets room ends parting packet same.
    answered_parting g.packet_tells_its_pdu.ensures.heard peripheral central ends.one_link.fields ends.peripheral_max.to ends.peripheral_max.from p c parting slot channel octets packet same
    room (parting.answers ends.is_peripheral).out

pub returns-clause-peripheral_nothing : goal.returns-clause-peripheral_nothing
returns-clause-peripheral_nothing g =
    λ central peripheral slot c p channel octets room ends parting packet same.
    hears_nothing_new g.packet_tells_its_pdu.ensures.heard peripheral central ends.one_link.fields ends.peripheral_max.to ends.peripheral_max.from p c parting slot channel octets packet same
    room

pub returns-clause-peripheral_answers : goal.returns-clause-peripheral_answers
returns-clause-peripheral_answers g =
    λ central peripheral slot c p channel octets room ends parting packet same.
    replies_again g.packet_tells_its_pdu.ensures.heard peripheral central ends.one_link.fields ends.peripheral_max.to ends.peripheral_max.from p c parting slot channel octets packet same room
    ends.is_peripheral

pub returns-clause-central : goal.returns-clause-central
returns-clause-central g =
    λ central peripheral slot c p channel octets room ends parting packet same.
    heard_parting g.packet_tells_its_pdu.ensures.heard central peripheral (sym ends.one_link.fields) ends.central_max.to ends.central_max.from c p parting slot channel octets packet same
    room

pub returns-clause-central_nothing : goal.returns-clause-central_nothing
returns-clause-central_nothing g =
    λ central peripheral slot c p channel octets room ends parting packet same.
    hears_nothing_new g.packet_tells_its_pdu.ensures.heard central peripheral (sym ends.one_link.fields) ends.central_max.to ends.central_max.from c p parting slot channel octets packet
    same room
