-- The proof of the law `a_peripheral_sends_as_in_a_joint_run`.
use Rattle.collision_steps.proofs.PeripheralGoing.{first_one, goes_one, sends_one}
use Rattle.collision_steps.proofs.laws.a_peripheral_sends_as_in_a_joint_run.Goals as goal

pub returns-clause-next : goal.returns-clause-next
returns-clause-next c = λ f p event quiet is. goes_one f p event quiet is

pub returns-clause-first : goal.returns-clause-first
returns-clause-first c = λ f p pdu is. first_one f p pdu is

pub returns-clause-went : goal.returns-clause-went
returns-clause-went c = λ f p event skips slot quiet is. sends_one f p event skips slot quiet is
