-- The proof of the law `ends_stay_in_step`.
use Rattle.ack_bit.proofs.Links.{begins, exchanged, out, received, run_keeps, sent, step_keeps}
use Rattle.ack_bit.proofs.laws.ends_stay_in_step.Goals as goal

pub returns-clause-begins : goal.returns-clause-begins
returns-clause-begins g c = begins

pub returns-clause-exchanged : goal.returns-clause-exchanged
returns-clause-exchanged g c = exchanged

pub returns-clause-sent : goal.returns-clause-sent
returns-clause-sent g c = sent

pub returns-clause-out : goal.returns-clause-out
returns-clause-out g c = out

pub returns-clause-received : goal.returns-clause-received
returns-clause-received g c = received

pub returns-clause-step : goal.returns-clause-step
returns-clause-step g c = step_keeps

pub returns-clause-run : goal.returns-clause-run
returns-clause-run g c = run_keeps
