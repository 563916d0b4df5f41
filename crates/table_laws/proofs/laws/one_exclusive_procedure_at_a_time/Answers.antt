-- The proof of the law `one_exclusive_procedure_at_a_time`.
use Rattle.table_laws.proofs.OneAtATime.{ahead_after, alone_after, none_after, queued_after}
use Rattle.table_laws.proofs.laws.one_exclusive_procedure_at_a_time.Goals as goal

pub returns-clause-queued : goal.returns-clause-queued
returns-clause-queued c = queued_after

pub returns-clause-none : goal.returns-clause-none
returns-clause-none c = none_after

pub returns-clause-alone : goal.returns-clause-alone
returns-clause-alone c = alone_after

pub returns-clause-peripheral : goal.returns-clause-peripheral
returns-clause-peripheral c = ahead_after
