-- The proof of the law `a_taken_termination_stops_a_joint_run`.
use Rattle.collision_steps.proofs.Stopping.{stopped, told}
use Rattle.collision_steps.proofs.laws.a_taken_termination_stops_a_joint_run.Goals as goal

pub returns-clause-told : goal.returns-clause-told
returns-clause-told c = λ f slot code quiet. told f slot code quiet

pub returns-clause-closed : goal.returns-clause-closed
returns-clause-closed c = λ f slot code quiet. stopped f slot code quiet
