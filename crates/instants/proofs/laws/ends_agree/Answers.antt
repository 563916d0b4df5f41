-- The proof of the law `ends_agree`.
use Rattle.instants.proofs.Standing.{together, ends_are_together}
use Rattle.instants.proofs.laws.ends_agree.Goals as goal

pub returns-clause-tracks : goal.returns-clause-tracks
returns-clause-tracks c = together

pub returns-clause-events : goal.returns-clause-events
returns-clause-events c = ends_are_together
