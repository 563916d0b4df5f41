-- The proof of the law `bits_are_counts`.
use Rattle.ack_bit.proofs.Links.{in_step}
use Rattle.ack_bit.proofs.laws.bits_are_counts.Goals as goal

pub returns-clause-sn_of_a : goal.returns-clause-sn_of_a
returns-clause-sn_of_a g c = λ x y steps. (in_step x y steps).from_a.sn

pub returns-clause-nesn_of_a : goal.returns-clause-nesn_of_a
returns-clause-nesn_of_a g c = λ x y steps. (in_step x y steps).from_b.nesn

pub returns-clause-sn_of_b : goal.returns-clause-sn_of_b
returns-clause-sn_of_b g c = λ x y steps. (in_step x y steps).from_b.sn

pub returns-clause-nesn_of_b : goal.returns-clause-nesn_of_b
returns-clause-nesn_of_b g c = λ x y steps. (in_step x y steps).from_a.nesn
