-- Proof of `laws::a_link_is_known_while_it_lasts`.
use Rattle.host_asks.proofs.Lasting.{known_while_it_lasts}
use Rattle.host_asks.proofs.laws.a_link_is_known_while_it_lasts.Goals as goal

pub returns : goal.returns
returns c = known_while_it_lasts
