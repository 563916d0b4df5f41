-- Proof of `laws::links_are_shut_with_their_reason`.
use Rattle.controller_model.proofs.Resets.{resets}
use Rattle.controller_model.proofs.Shuts.{shuts_with_reason}
use Rattle.controller_model.proofs.laws.links_are_shut_with_their_reason.Goals as goal

pub returns-clause-shut : goal.returns-clause-shut
returns-clause-shut c = shuts_with_reason

pub returns-clause-reset : goal.returns-clause-reset
returns-clause-reset c = resets
