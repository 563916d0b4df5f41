-- The proof of the law `few_control_pdus_wait_by_kind`.
use Rattle.joint_exchanges.proofs.Few.{all_few, waiting_sum}
use Rattle.joint_exchanges.proofs.laws.few_control_pdus_wait_by_kind.Goals as goal

pub returns-clause-sum : goal.returns-clause-sum
returns-clause-sum c = waiting_sum

pub returns-clause-few : goal.returns-clause-few
returns-clause-few c = λ central_rx peripheral_rx first slot steps role on. all_few central_rx peripheral_rx first slot steps on role
