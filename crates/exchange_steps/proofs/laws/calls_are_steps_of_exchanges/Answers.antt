-- The proof of the law `calls_are_steps_of_exchanges`.
use Rattle.exchange_steps.proofs.Calls.{each_call, each_comes}
use Rattle.exchange_steps.proofs.laws.calls_are_steps_of_exchanges.Goals as goal

pub returns-clause-steps : goal.returns-clause-steps
returns-clause-steps c = each_call

pub returns-clause-comes : goal.returns-clause-comes
returns-clause-comes c = each_comes
