-- The proof of the law `few_exchange_pdus_wait`.
use Rattle.exchange_pairs.proofs.Exchanges
use Rattle.exchange_pairs.proofs.Versions
use Rattle.exchange_pairs.proofs.laws.few_exchange_pdus_wait.Goals as goal

pub returns-clause-exchange : goal.returns-clause-exchange
returns-clause-exchange c = Exchanges.few_wait

pub returns-clause-version : goal.returns-clause-version
returns-clause-version c = Versions.few_wait
