-- The proof of the law `few_pdus_wait_at_a_table`.
use Rattle.collision_steps.proofs.FewWait.{few_at_central, few_at_peripheral}
use Rattle.collision_steps.proofs.laws.few_pdus_wait_at_a_table.Goals as goal

pub returns-clause-central : goal.returns-clause-central
returns-clause-central c = λ f x events is same. few_at_central f x events is same

pub returns-clause-peripheral : goal.returns-clause-peripheral
returns-clause-peripheral c = λ f p events is same. few_at_peripheral f p events is same
