-- The proof of the law `winner_exists`.
use Rattle.slot_plan.proofs.FirstWant.{winner_of_wants}
use Rattle.slot_plan.proofs.laws.winner_exists.Goals as goal

pub returns : goal.returns
returns c = winner_of_wants
