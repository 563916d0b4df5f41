-- The proof of the law `nonempty_pdus_at_most_once_and_in_order`.
use Rattle.ack_bit.proofs.Links.{in_step}
use Rattle.ack_bit.proofs.Nonempties.{acked_nonempty, new_number, reliable_nonempty}
use Rattle.ack_bit.proofs.laws.nonempty_pdus_at_most_once_and_in_order.Goals as goal

pub returns-clause-reliable : goal.returns-clause-reliable
returns-clause-reliable g c = reliable_nonempty

pub returns-clause-from_a : goal.returns-clause-from_a
returns-clause-from_a g c = λ is_empty x y steps. reliable_nonempty is_empty _ _ (in_step x y steps).from_a

pub returns-clause-from_b : goal.returns-clause-from_b
returns-clause-from_b g c = λ is_empty x y steps. reliable_nonempty is_empty _ _ (in_step x y steps).from_b

pub returns-clause-fresh : goal.returns-clause-fresh
returns-clause-fresh g c = new_number

pub returns-clause-acked : goal.returns-clause-acked
returns-clause-acked g c = acked_nonempty
