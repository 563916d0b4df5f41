-- The proof of `CellPool::holds`.
use Rattle.std.proofs.Common.{arith}
use Rattle.cell_pool.proofs.Numbers.{held_within, read_at}
use Rattle.cell_pool.proofs.pool.CellPool.holds.Goals as goal

pub returns-then-place-len : goal.returns-then-place-len
returns-then-place-len g c =
    rw (← c.self.view_is) (read_at c.self.inside.cells.items c.args.cell.0 _ c.is_held.result (omega arith) c.index.ensures c.is_held.ensures)

pub returns-else-place-len : goal.returns-else-place-len
returns-else-place-len g c = (
  λ h. absurd (cc),
  λ some. absurd (omega (arith, held_within c.self.inside.cells.items c.args.cell.0 (rw (← c.self.view_is) at some))),
)
