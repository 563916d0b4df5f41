-- The proof of the law `lengths_fit_their_receiver`.
use Rattle.std.proofs.Common.{arith}
use Rattle.joint_exchanges.proofs.States.{length_known, length_stays, length_transmits}
use Rattle.joint_exchanges.proofs.laws.lengths_fit_their_receiver.Goals as goal

pub returns-clause-stays : goal.returns-clause-stays
returns-clause-stays c = λ central_rx peripheral_rx first slot steps role on. length_stays central_rx peripheral_rx first slot steps on role

pub returns-clause-known : goal.returns-clause-known
returns-clause-known c =
    λ central_rx peripheral_rx first slot steps role on central_least peripheral_least.
    length_known central_rx peripheral_rx first slot steps on central_least peripheral_least role

pub returns-clause-fits : goal.returns-clause-fits
returns-clause-fits c =
    λ central_rx peripheral_rx octets first slot steps role on central_least peripheral_least within.
    let most = length_transmits central_rx peripheral_rx first slot steps on central_least peripheral_least role in omega (arith, within, most)
