-- The proof of the law `the_receive_maximum_stays`.
use Rattle.exchange_steps.proofs.Calls.{receives_same}
use Rattle.exchange_steps.proofs.laws.the_receive_maximum_stays.Goals as goal

pub returns : goal.returns
returns c = receives_same
