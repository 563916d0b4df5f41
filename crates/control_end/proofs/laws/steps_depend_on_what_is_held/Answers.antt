-- The proof of the law `steps_depend_on_what_is_held`.
use Rattle.control_end.proofs.Depending.{step_held, steps_held}
use Rattle.control_end.proofs.laws.steps_depend_on_what_is_held.Goals as goal

pub returns-clause-step : goal.returns-clause-step
returns-clause-step c = step_held

pub returns-clause-all : goal.returns-clause-all
returns-clause-all c = steps_held
