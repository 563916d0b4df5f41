-- Proof of `laws::a_new_link_is_known`.
use Rattle.host_asks.proofs.Ends.{first_knows}
use Rattle.host_asks.proofs.laws.a_new_link_is_known.Goals as goal

pub returns : goal.returns
returns c = first_knows
