-- Proof of `views::notes_change_their_link`.
use Rattle.host_asks.proofs.LinksViewed.{notes_of_step, notes_other, notes_own}
use Rattle.host_asks.proofs.views.notes_change_their_link.Goals as goal

pub returns-clause-notes : goal.returns-clause-notes
returns-clause-notes c = notes_of_step

pub returns-clause-own : goal.returns-clause-own
returns-clause-own c = notes_own

pub returns-clause-other : goal.returns-clause-other
returns-clause-other c = notes_other
