-- Proof of `views::commands_change_their_link`.
use Rattle.host_asks.proofs.LinksViewed.{command_other, command_own}
use Rattle.host_asks.proofs.views.commands_change_their_link.Goals as goal

pub returns-clause-own : goal.returns-clause-own
returns-clause-own c = command_own

pub returns-clause-other : goal.returns-clause-other
returns-clause-other c = command_other
