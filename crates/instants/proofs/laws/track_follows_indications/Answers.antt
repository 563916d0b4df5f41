-- The proof of the law `track_follows_indications`.
use Rattle.instants.proofs.Standing.{events_are_counted, track_follows, next_anchor_follows, number_follows}
use Rattle.instants.proofs.laws.track_follows_indications.Goals as goal

pub returns-clause-events : goal.returns-clause-events
returns-clause-events c = events_are_counted

pub returns-clause-follows : goal.returns-clause-follows
returns-clause-follows c = track_follows

pub returns-clause-next_anchor : goal.returns-clause-next_anchor
returns-clause-next_anchor c = next_anchor_follows

pub returns-clause-number : goal.returns-clause-number
returns-clause-number c = number_follows
