-- Proof of `laws::exchanges_are_in_events`.
use Rattle.controller_model.proofs.Exchanges.{always_in_event}
use Rattle.controller_model.proofs.laws.exchanges_are_in_events.Goals as goal

pub returns : goal.returns
returns c = always_in_event
