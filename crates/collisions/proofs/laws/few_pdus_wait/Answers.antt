-- The proof of the law `few_pdus_wait`.
use Rattle.collisions.proofs.Collisions.{few_wait}
use Rattle.collisions.proofs.laws.few_pdus_wait.Goals as goal

pub returns-clause-rejections : goal.returns-clause-rejections
returns-clause-rejections c = λ events. (few_wait events).0

pub returns-clause-central : goal.returns-clause-central
returns-clause-central c = λ events. (few_wait events).1

pub returns-clause-peripheral : goal.returns-clause-peripheral
returns-clause-peripheral c = λ events. (few_wait events).2
