-- The proof of `CellPool::get_mut`.
use Rattle.std.proofs.Common.{refl, arith, ap, ◌∙◌}
use Rattle.cell_pool.specs.Cells.{value_of}
use Rattle.cell_pool.proofs.Numbers.{held_within, read_cell, read_value, read_is_held, values_of-fill}
use Rattle.cell_pool.proofs.Soundness.{IsSound-write}
use Rattle.cell_pool.proofs.pool.CellPool.get_mut.Goals as goal

pub index_mut-requires : goal.index_mut-requires
index_mut-requires g c = omega (arith, held_within c.self.inside.cells.items c.args.cell.0 (rw (← c.self.view_is) at c.requires))

pub value_mut-requires : goal.value_mut-requires
value_mut-requires g c = read_is_held c.self.inside.cells.items c.args.cell.0 _ (rw (← c.self.view_is) at c.requires) c.index_mut.ensures.value

pub invariant_of-self-lent : goal.invariant_of-self-lent
invariant_of-self-lent g c w =
    let some = rw (← c.self.view_is) at c.requires in
    let cell = read_cell c.self.inside.cells.items c.args.cell.0 _ some c.index_mut.ensures.value ∙ c.value_mut.ensures.value in
    IsSound-write _ _ _ c.self.inside.cells.items _ c.args.cell.0 _ w some cell c.self.invariant

pub returns : goal.returns
returns g c =
    let some = rw (← c.self.view_is) at c.requires in
    let within = held_within c.self.inside.cells.items c.args.cell.0 some in
    let read = read_value c.self.inside.cells.items c.args.cell.0 _ some c.index_mut.ensures.value in (
      (refl, λ w. rw (← c.self.view_is) (values_of-fill c.self.inside.cells.items c.args.cell.0 w within)),
      record { lends = tt; value = rw (← c.self.view_is) (read ∙ ap value_of c.value_mut.ensures.value) },
    )
