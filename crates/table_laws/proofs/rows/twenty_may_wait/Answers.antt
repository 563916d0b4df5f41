-- The proof of the law `twenty_may_wait`.
use Rattle.table_laws.proofs.WorkedCalls.{crowding_comes, twenty_wait}
use Rattle.table_laws.proofs.rows.twenty_may_wait.Goals as goal

pub returns-clause-comes : goal.returns-clause-comes
returns-clause-comes c = crowding_comes

pub returns-clause-twenty : goal.returns-clause-twenty
returns-clause-twenty c = twenty_wait
