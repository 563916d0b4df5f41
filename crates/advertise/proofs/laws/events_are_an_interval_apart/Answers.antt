-- The proof of the law `events_are_an_interval_apart`.
use Rattle.advertise.proofs.Events.{due_at_once, events_apart}
use Rattle.advertise.proofs.laws.events_are_an_interval_apart.Goals as goal

pub returns-clause-apart : goal.returns-clause-apart
returns-clause-apart c = events_apart

pub returns-clause-at_once : goal.returns-clause-at_once
returns-clause-at_once c = due_at_once
