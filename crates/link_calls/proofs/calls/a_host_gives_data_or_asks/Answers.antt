-- Proof of `calls::a_host_gives_data_or_asks`.
use Rattle.link_calls.proofs.UnderHandles.{host_under}
use Rattle.link_calls.proofs.calls.a_host_gives_data_or_asks.Goals as goal

pub returns : goal.returns
returns c = host_under
