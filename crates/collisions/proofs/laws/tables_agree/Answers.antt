-- The proof of the law `tables_agree`.
use Rattle.collisions.proofs.Collisions.{tables_agree}
use Rattle.collisions.proofs.laws.tables_agree.Goals as goal

pub returns : goal.returns
returns c = tables_agree
