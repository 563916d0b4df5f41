-- The proof of `Queue::make`.
use Rattle.acl_banks.proofs.InCells.{values_in-empty, IsSound-make}
use Rattle.acl_banks.proofs.queue.Queue.make.Goals as goal

pub invariant_of-result : goal.invariant_of-result
invariant_of-result g c = rw (c.in_ok-cells.ensures, c.in_ok-order.ensures.items) (IsSound-make _ _ c.in_ok-order.ensures.capacity)

pub returns : goal.returns
returns g c = rw (c.in_ok-cells.ensures, c.in_ok-order.ensures.items) values_in-empty
