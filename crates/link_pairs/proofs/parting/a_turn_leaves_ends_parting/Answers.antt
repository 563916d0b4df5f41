-- The proof of the law `a_turn_leaves_ends_parting`.
use Rattle.std.proofs.Common.{arith}
use Rattle.link_pairs.specs.Turns.{prepared}
use Rattle.link_pairs.proofs.Counts.{unseen_is_out}
use Rattle.link_pairs.proofs.HearingNothingNew.{begun_still}
use Rattle.link_pairs.proofs.NothingNew.{prepared_still, sender_still, taker_still}
use Rattle.link_pairs.proofs.TakerSends.{begun_parting}
use Rattle.link_pairs.proofs.parting.a_turn_leaves_ends_parting.Goals as goal

pub returns-clause-central_took : goal.returns-clause-central_took
returns-clause-central_took g =
    λ central peripheral slot transmits c p ends parting.
    let least = ends.peripheral_max.from in
    begun_parting central peripheral (omega (arith, least)) c p slot parting transmits

pub returns-clause-peripheral_sent : goal.returns-clause-peripheral_sent
returns-clause-peripheral_sent g =
    λ central peripheral slot listens c p ends parting.
    sender_still central peripheral c p parting (prepared peripheral slot listens p) (prepared_still peripheral slot listens p)

pub returns-clause-peripheral_took : goal.returns-clause-peripheral_took
returns-clause-peripheral_took g =
    λ central peripheral slot listens c p ends parting.
    taker_still peripheral central p c parting (prepared peripheral slot listens p) (prepared_still peripheral slot listens p)

pub returns-clause-central_sent : goal.returns-clause-central_sent
returns-clause-central_sent g =
    λ central peripheral slot transmits c p ends parting.
    sender_still peripheral central p c parting _ (begun_still central slot transmits c (unseen_is_out c.acknowledgement p.acknowledgement parting.unseen))
