-- The place that the code looks for is that of the first ask that may begin.
use Rattle.procedures.proofs.Beginnings.{begun}
use Rattle.procedures.proofs.laws.first_that_may_begins.Goals as goal

pub returns-clause-first : goal.returns-clause-first
returns-clause-first c = begun
