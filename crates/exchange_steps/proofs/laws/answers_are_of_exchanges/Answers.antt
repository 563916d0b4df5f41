-- The proof of the law `answers_are_of_exchanges`.
use Rattle.exchange_steps.proofs.Answers.{answers}
use Rattle.exchange_steps.proofs.Going.{acked_none, entered_none}
use Rattle.exchange_steps.proofs.laws.answers_are_of_exchanges.Goals as goal

pub returns-clause-done : goal.returns-clause-done
returns-clause-done c = λ f read slot quiet. (answers f read slot quiet).0

pub returns-clause-refused : goal.returns-clause-refused
returns-clause-refused c = λ f read slot quiet. (answers f read slot quiet).1.0

pub returns-clause-effect : goal.returns-clause-effect
returns-clause-effect c = λ f read slot quiet. (answers f read slot quiet).1.1

pub returns-clause-acked : goal.returns-clause-acked
returns-clause-acked c = acked_none

pub returns-clause-entered : goal.returns-clause-entered
returns-clause-entered c = entered_none
