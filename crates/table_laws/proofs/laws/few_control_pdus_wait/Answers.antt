-- The proof of the law `few_control_pdus_wait`.
use Rattle.table_laws.proofs.Bounds.{all_after, bound_after, end_after, none_after, own_after, version_after}
use Rattle.table_laws.proofs.laws.few_control_pdus_wait.Goals as goal

pub returns-clause-bound : goal.returns-clause-bound
returns-clause-bound c = bound_after

pub returns-clause-own : goal.returns-clause-own
returns-clause-own c = own_after

pub returns-clause-none : goal.returns-clause-none
returns-clause-none c = none_after

pub returns-clause-version : goal.returns-clause-version
returns-clause-version c = version_after

pub returns-clause-end : goal.returns-clause-end
returns-clause-end c = end_after

pub returns-clause-all : goal.returns-clause-all
returns-clause-all c = all_after
