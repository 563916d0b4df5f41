-- The proof of the law `bits_say_what_was_accepted`.
use Rattle.ack_bit.proofs.Links.{exchanged, in_step, says}
use Rattle.ack_bit.proofs.laws.bits_say_what_was_accepted.Goals as goal

pub returns-clause-in_step : goal.returns-clause-in_step
returns-clause-in_step g c = says

pub returns-clause-from_a : goal.returns-clause-from_a
returns-clause-from_a g c = λ x y steps p. says _ _ p (in_step x y steps)

pub returns-clause-from_b : goal.returns-clause-from_b
returns-clause-from_b g c = λ x y steps p. says _ _ p (exchanged _ _ (in_step x y steps))
