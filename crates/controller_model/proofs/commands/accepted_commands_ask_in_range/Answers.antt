-- Proof of `commands::accepted_commands_ask_in_range`.
use Rattle.host_view.specs.Status.{status_of}
use Rattle.link_commands.proofs.Ranges.{asked_in_range}
use Rattle.controller_model.proofs.commands.accepted_commands_ask_in_range.Goals as goal

pub returns : goal.returns
unfolding status_of
returns c = λ view command accepted. asked_in_range view command accepted
