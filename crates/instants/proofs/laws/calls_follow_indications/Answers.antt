-- The proof of the law `calls_follow_indications`.
use Rattle.instants.proofs.Following.{Follows-first, Follows-taken, Follows-entered}
use Rattle.instants.proofs.laws.calls_follow_indications.Goals as goal

pub returns-clause-begins : goal.returns-clause-begins
returns-clause-begins c = Follows-first

pub returns-clause-takes : goal.returns-clause-takes
returns-clause-takes c = Follows-taken

pub returns-clause-enters : goal.returns-clause-enters
returns-clause-enters c = Follows-entered
