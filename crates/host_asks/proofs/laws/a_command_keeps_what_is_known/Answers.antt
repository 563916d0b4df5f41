-- Proof of `laws::a_command_keeps_what_is_known`.
use Rattle.host_asks.proofs.Accepting.{command_keeps}
use Rattle.host_asks.proofs.laws.a_command_keeps_what_is_known.Goals as goal

pub returns : goal.returns
returns c = command_keeps
