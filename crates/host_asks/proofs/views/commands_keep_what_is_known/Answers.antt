-- Proof of `views::commands_keep_what_is_known`.
use Rattle.host_asks.proofs.EndsViewed.{answered_or_asked, command_known, command_may, other_known}
use Rattle.host_asks.proofs.views.commands_keep_what_is_known.Goals as goal

pub returns-clause-may : goal.returns-clause-may
returns-clause-may c = command_may

pub returns-clause-keeps : goal.returns-clause-keeps
returns-clause-keeps c = command_known

pub returns-clause-other : goal.returns-clause-other
returns-clause-other c = other_known

pub returns-clause-answered : goal.returns-clause-answered
returns-clause-answered c = answered_or_asked
