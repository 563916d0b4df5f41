-- The proof of the law `calls_of_an_end_may_come`.
use Rattle.phased_control.proofs.AllLawful.{few_wait, key_is_asked, may_now, passes_now, table_now}
use Rattle.phased_control.proofs.laws.calls_of_an_end_may_come.Goals as goal

pub returns-clause-table : goal.returns-clause-table
returns-clause-table c = table_now

pub returns-clause-may : goal.returns-clause-may
returns-clause-may c = may_now

pub returns-clause-phase : goal.returns-clause-phase
returns-clause-phase c = passes_now

pub returns-clause-key : goal.returns-clause-key
returns-clause-key c = key_is_asked

pub returns-clause-few : goal.returns-clause-few
returns-clause-few c = few_wait
