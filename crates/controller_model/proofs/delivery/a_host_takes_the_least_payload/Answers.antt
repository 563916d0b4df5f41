-- Proof of `delivery::a_host_takes_the_least_payload`.
use Rattle.controller_model.proofs.HostBuffers.{takes_least}
use Rattle.controller_model.proofs.delivery.a_host_takes_the_least_payload.Goals as goal

pub returns : goal.returns
returns c = takes_least
