-- The proof of the law `keyed_steps_depend_on_what_is_held`.
use Rattle.phased_end.proofs.Reached.{steps_depend}
use Rattle.phased_end.proofs.laws.keyed_steps_depend_on_what_is_held.Goals as goal

pub returns : goal.returns
returns c = steps_depend
