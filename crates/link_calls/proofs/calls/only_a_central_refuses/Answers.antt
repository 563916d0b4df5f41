-- Proof of `calls::only_a_central_refuses`.
use Rattle.link_calls.proofs.Refusals.{only_central_refuses}
use Rattle.link_calls.proofs.calls.only_a_central_refuses.Goals as goal

pub returns : goal.returns
returns c = only_central_refuses
