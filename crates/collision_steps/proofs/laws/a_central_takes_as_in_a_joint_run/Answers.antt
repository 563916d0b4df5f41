-- The proof of the law `a_central_takes_as_in_a_joint_run`.
use Rattle.collision_steps.proofs.CentralTaking.{took}
use Rattle.collision_steps.proofs.laws.a_central_takes_as_in_a_joint_run.Goals as goal

pub returns-clause-part : goal.returns-clause-part
returns-clause-part c = λ f x read slot quiet is room goes. (took f x read slot quiet is room goes).part

pub returns-clause-ends : goal.returns-clause-ends
returns-clause-ends c = λ f x read slot quiet is room goes. (took f x read slot quiet is room goes).ends

pub returns-clause-refused : goal.returns-clause-refused
returns-clause-refused c = λ f x read slot quiet is room goes. (took f x read slot quiet is room goes).refused

pub returns-clause-done : goal.returns-clause-done
returns-clause-done c = λ f x read slot quiet is room goes. (took f x read slot quiet is room goes).done

pub returns-clause-asks : goal.returns-clause-asks
returns-clause-asks c = λ f x read slot quiet is room goes. (took f x read slot quiet is room goes).host
