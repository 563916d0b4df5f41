-- Proof of `laws::accepted_commands_ask_in_range`.
use Rattle.link_commands.proofs.Ranges.{asked_in_range}
use Rattle.link_commands.proofs.laws.accepted_commands_ask_in_range.Goals as goal

pub returns : goal.returns
returns c = asked_in_range
