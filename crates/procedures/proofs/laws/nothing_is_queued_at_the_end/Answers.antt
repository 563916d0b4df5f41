-- Nothing may begin once the link is to end.
use Rattle.procedures.proofs.Beginnings.{none_begun}
use Rattle.procedures.proofs.laws.nothing_is_queued_at_the_end.Goals as goal

pub returns-clause-begins : goal.returns-clause-begins
returns-clause-begins c = none_begun
