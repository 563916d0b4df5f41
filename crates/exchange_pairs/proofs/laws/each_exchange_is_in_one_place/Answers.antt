-- The proof of the law `each_exchange_is_in_one_place`.
use Rattle.exchange_pairs.proofs.Exchanges.{idle, unsent, sent, begins}
use Rattle.exchange_pairs.proofs.laws.each_exchange_is_in_one_place.Goals as goal

pub returns-clause-idle : goal.returns-clause-idle
returns-clause-idle c = idle

pub returns-clause-unsent : goal.returns-clause-unsent
returns-clause-unsent c = unsent

pub returns-clause-sent : goal.returns-clause-sent
returns-clause-sent c = sent

pub returns-clause-begins : goal.returns-clause-begins
returns-clause-begins c = begins
