-- The proof of the law `packets_carry_the_last_pdu_sent`.
use Rattle.ack_bit.proofs.Links.{in_step}
use Rattle.ack_bit.proofs.laws.packets_carry_the_last_pdu_sent.Goals as goal

pub returns-clause-from_a : goal.returns-clause-from_a
returns-clause-from_a g c = λ x y steps. (in_step x y steps).from_a.last

pub returns-clause-from_b : goal.returns-clause-from_b
returns-clause-from_b g c = λ x y steps. (in_step x y steps).from_b.last
