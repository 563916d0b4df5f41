-- Proof of `laws::past_grows`.
use Rattle.controller_model.proofs.Pasts.{facts_more, notes_more}
use Rattle.controller_model.proofs.laws.past_grows.Goals as goal

pub returns-clause-facts : goal.returns-clause-facts
returns-clause-facts c = facts_more

pub returns-clause-notes : goal.returns-clause-notes
returns-clause-notes c = notes_more
