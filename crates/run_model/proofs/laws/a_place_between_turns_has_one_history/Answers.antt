-- The proof of the law `a_place_between_turns_has_one_history`.
use Rattle.run_model.proofs.OnePlace.{one_place}
use Rattle.run_model.proofs.laws.a_place_between_turns_has_one_history.Goals as goal

pub returns : goal.returns
returns c = one_place
