-- Proof of `rows::a_peer_may_withdraw_its_request`: the definitions compute.
use Rattle.std.proofs.Common.{refl}
use Rattle.host_asks.proofs.rows.a_peer_may_withdraw_its_request.Goals as goal

pub returns : goal.returns
returns c = record { waits = refl; gone = refl; goes_on = refl }
