-- Proof of `laws::a_pair_is_distinct`.
use Rattle.std.proofs.Common.{refl}
use Rattle.std.specs.List.{IsDistinct}
use Rattle.run_model.proofs.laws.a_pair_is_distinct.Goals as goal

pub returns : goal.returns
unfolding IsDistinct
returns c = λ a b script. ((refl, tt), (tt, tt))
