-- The proof of the law `an_indication_finds_none_that_waits`.
use Rattle.collisions.proofs.Collided.{free}
use Rattle.collisions.proofs.laws.an_indication_finds_none_that_waits.Goals as goal

pub returns : goal.returns
returns c = free
