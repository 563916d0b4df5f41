-- The proof of the law `an_indication_is_sent_after_the_last_instant`.
use Rattle.collisions.proofs.Lifting.{sent_after}
use Rattle.collisions.proofs.laws.an_indication_is_sent_after_the_last_instant.Goals as goal

pub returns : goal.returns
returns c = sent_after
