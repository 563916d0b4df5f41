-- The proof of the law `few_pdus_of_the_encryption_wait`.
use Rattle.phased_control.proofs.Waiting.{apart_now, few_now, order_now}
use Rattle.phased_control.proofs.laws.few_pdus_of_the_encryption_wait.Goals as goal

pub returns-clause-order : goal.returns-clause-order
returns-clause-order c = order_now

pub returns-clause-few : goal.returns-clause-few
returns-clause-few c = few_now

pub returns-clause-kinds : goal.returns-clause-kinds
returns-clause-kinds c = apart_now
