-- Proof of `laws::an_end_follows_its_notes`.
use Rattle.link_changes.proofs.Entries.{past_follows}
use Rattle.link_changes.proofs.Steps.{past_known}
use Rattle.link_changes.proofs.laws.an_end_follows_its_notes.Goals as goal

pub returns-clause-follows : goal.returns-clause-follows
returns-clause-follows c = past_follows

pub returns-clause-event : goal.returns-clause-event
returns-clause-event c = λ setup past ranges. (past_known setup past ranges).part.knows.event
