-- The proof of the law `a_turn_leaves_ends_linked`.
use Rattle.std.proofs.Common.{refl}
use Rattle.link_pairs.proofs.Turning.{turn_begun}
use Rattle.link_pairs.proofs.laws.a_turn_leaves_ends_linked.Goals as goal

pub returns : goal.returns
returns g =
    λ central peripheral slot answers transmits listens c p ends linked transmits_in listens_in.
    turn_begun central peripheral slot answers transmits listens c p ends linked transmits_in listens_in _ refl
