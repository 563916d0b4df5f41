-- The proof of the law `a_central_sends_as_in_a_joint_run`.
use Rattle.collision_steps.proofs.CentralGoing.{first_one, goes_one, instant_one, sends_one}
use Rattle.collision_steps.proofs.laws.a_central_sends_as_in_a_joint_run.Goals as goal

pub returns-clause-next : goal.returns-clause-next
returns-clause-next c = λ f x event quiet is. goes_one f x event quiet is

pub returns-clause-first : goal.returns-clause-first
returns-clause-first c = λ f x pdu is. first_one f x pdu is

pub returns-clause-went : goal.returns-clause-went
returns-clause-went c = λ f x event skips slot quiet is. sends_one f x event skips slot quiet is

pub returns-clause-instant : goal.returns-clause-instant
returns-clause-instant c = λ f x event skips slot quiet is. instant_one f x event skips slot quiet is
