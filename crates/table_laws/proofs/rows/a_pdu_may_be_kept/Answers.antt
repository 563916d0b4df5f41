-- The proof of the law `a_pdu_may_be_kept`.
use Rattle.table_laws.proofs.WorkedCalls.{encryption_comes, encryption_keeps, encryption_rules, later_comes, later_meanwhile, one_waits}
use Rattle.table_laws.proofs.rows.a_pdu_may_be_kept.Goals as goal

pub returns-clause-comes : goal.returns-clause-comes
returns-clause-comes c = encryption_comes

pub returns-clause-rules : goal.returns-clause-rules
returns-clause-rules c = encryption_rules

pub returns-clause-keeps : goal.returns-clause-keeps
returns-clause-keeps c = encryption_keeps

pub returns-clause-comes_later : goal.returns-clause-comes_later
returns-clause-comes_later c = later_comes

pub returns-clause-meanwhile : goal.returns-clause-meanwhile
returns-clause-meanwhile c = later_meanwhile

pub returns-clause-waits : goal.returns-clause-waits
returns-clause-waits c = one_waits
