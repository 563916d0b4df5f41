-- The proof of the law `an_end_runs_one_exchange`.
use Rattle.exchange_steps.proofs.OneExchange.{none, one}
use Rattle.exchange_steps.proofs.laws.an_end_runs_one_exchange.Goals as goal

pub returns-clause-one : goal.returns-clause-one
returns-clause-one c = one

pub returns-clause-none : goal.returns-clause-none
returns-clause-none c = none
