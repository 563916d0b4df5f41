-- Proof of `laws::a_turn_leaves_nothing_over`.
use Rattle.run_model.proofs.UpToDate.{pair_last, pair_turn}
use Rattle.run_model.proofs.laws.a_turn_leaves_nothing_over.Goals as goal

pub returns-clause-turn : goal.returns-clause-turn
returns-clause-turn c = pair_turn

pub returns-clause-last : goal.returns-clause-last
returns-clause-last c = pair_last
