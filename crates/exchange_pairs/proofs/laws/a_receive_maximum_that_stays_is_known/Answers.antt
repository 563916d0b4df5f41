-- The proof of the law `a_receive_maximum_that_stays_is_known`.
use Rattle.exchange_pairs.proofs.LengthsFixed.{known_fixed, stays}
use Rattle.exchange_pairs.proofs.laws.a_receive_maximum_that_stays_is_known.Goals as goal

pub returns-clause-stays : goal.returns-clause-stays
returns-clause-stays c = stays

pub returns-clause-known : goal.returns-clause-known
returns-clause-known c = known_fixed
