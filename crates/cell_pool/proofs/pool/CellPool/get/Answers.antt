-- The proof of `CellPool::get`.
use Rattle.std.proofs.Common.{arith, ap, ◌∙◌}
use Rattle.cell_pool.specs.Cells.{value_of}
use Rattle.cell_pool.proofs.Numbers.{held_within, read_value, read_is_held}
use Rattle.cell_pool.proofs.pool.CellPool.get.Goals as goal

pub index-requires : goal.index-requires
index-requires g c = omega (arith, held_within c.self.inside.cells.items c.args.cell.0 (rw (← c.self.view_is) at c.requires))

pub value-requires : goal.value-requires
value-requires g c = read_is_held c.self.inside.cells.items c.args.cell.0 _ (rw (← c.self.view_is) at c.requires) c.index.ensures

pub returns : goal.returns
returns g c =
    let some = rw (← c.self.view_is) at c.requires in
    rw (← c.self.view_is) (read_value c.self.inside.cells.items c.args.cell.0 _ some c.index.ensures ∙ ap value_of c.value.ensures)
