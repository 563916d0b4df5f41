-- Proof of `delivery::nothing_waits_between_turns`.
use Rattle.controller_model.proofs.BetweenTurns.{none_complete, nothing_waits}
use Rattle.controller_model.proofs.delivery.nothing_waits_between_turns.Goals as goal

pub returns-clause-received : goal.returns-clause-received
returns-clause-received c = nothing_waits

pub returns-clause-complete : goal.returns-clause-complete
returns-clause-complete c = none_complete
