-- Proof of `laws::accepted_commands_may_come`.
use Rattle.host_asks.proofs.Accepting.{command_may_come}
use Rattle.host_asks.proofs.laws.accepted_commands_may_come.Goals as goal

pub returns : goal.returns
returns c = command_may_come
