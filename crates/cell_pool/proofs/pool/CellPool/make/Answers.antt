-- The proof of `CellPool::make`.
use Rattle.cell_pool.proofs.Numbers.{values_of-nil}
use Rattle.cell_pool.proofs.Soundness.{IsSound-make}
use Rattle.cell_pool.proofs.pool.CellPool.make.Goals as goal

pub invariant_of-result : goal.invariant_of-result
invariant_of-result g c =
    rw (c.in_ok-cells.ensures.items, c.in_ok-free.ensures.items)
    (IsSound-make _ _ _ c.requires.numbered c.in_ok-cells.ensures.capacity c.in_ok-free.ensures.capacity)

pub returns : goal.returns
returns g c = rw c.in_ok-cells.ensures.items values_of-nil
