-- The proof of the law `a_taker_ends_with_the_code`.
use Rattle.std.proofs.Common.{◌∙◌, arith, true}
use Rattle.link_pairs.specs.Turns.{central_begun}
use Rattle.link_pairs.proofs.PartingEndings.{sender_waits, taker_ends, taker_waits}
use Rattle.link_pairs.proofs.TakerSends.{begun_by_peer, begun_parting, transmits_answers}
use Rattle.link_pairs.proofs.parting.a_taker_ends_with_the_code.Goals as goal

pub returns-clause-taker : goal.returns-clause-taker
returns-clause-taker g = taker_ends

pub returns-clause-not_before : goal.returns-clause-not_before
returns-clause-not_before g = taker_waits

pub returns-clause-sender : goal.returns-clause-sender
returns-clause-sender g = sender_waits

pub returns-clause-peripheral : goal.returns-clause-peripheral
returns-clause-peripheral g =
    λ central peripheral c p ends parting. taker_ends peripheral central p c parting (parting.answers ends.is_peripheral).answered

pub returns-clause-central : goal.returns-clause-central
returns-clause-central g =
    λ central peripheral slot c p ends parting.
    let least = ends.peripheral_max.from in
    taker_ends central peripheral (central_begun central slot true c) p (begun_parting central peripheral (omega (arith, least)) c p slot parting true)
    (transmits_answers central peripheral (omega (arith, least)) c p slot parting).answered
    ∙ begun_by_peer central slot true c
