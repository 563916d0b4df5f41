-- The proof of the law `each_pdu_at_most_once_and_in_order`.
use Rattle.ack_bit.proofs.Links.{in_step}
use Rattle.ack_bit.proofs.laws.each_pdu_at_most_once_and_in_order.Goals as goal

pub returns-clause-from_a : goal.returns-clause-from_a
returns-clause-from_a g c = λ x y steps. (in_step x y steps).from_a.reliable

pub returns-clause-from_b : goal.returns-clause-from_b
returns-clause-from_b g c = λ x y steps. (in_step x y steps).from_b.reliable
