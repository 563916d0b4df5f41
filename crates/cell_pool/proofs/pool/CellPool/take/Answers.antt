-- The proof of `CellPool::take`.
use Rattle.std.proofs.Common.{arith, ap, ◌∙◌}
use Rattle.cell_pool.specs.Cells.{value_of}
use Rattle.cell_pool.proofs.Numbers.{held_within, read_cell, read_value, read_is_held, values_of-empty, len_after_remove}
use Rattle.cell_pool.proofs.Soundness.{IsSound-empty}
use Rattle.cell_pool.proofs.pool.CellPool.take.Goals as goal

pub index_mut-requires : goal.index_mut-requires
index_mut-requires g c = omega (arith, held_within c.self.inside.cells.items c.args.cell.0 (rw (← c.self.view_is) at c.requires))

pub empty-value-requires : goal.empty-value-requires
empty-value-requires g c = read_is_held c.self.inside.cells.items c.args.cell.0 _ (rw (← c.self.view_is) at c.requires) c.index_mut.ensures.value

pub push_reserved-requires : goal.push_reserved-requires
push_reserved-requires g c = omega (arith, len_after_remove _ _ (rw (← c.self.view_is) at c.requires), c.self.invariant.total)

pub invariant_of-self : goal.invariant_of-self
invariant_of-self g c =
    let some = rw (← c.self.view_is) at c.requires in
    let cell = read_cell c.self.inside.cells.items c.args.cell.0 _ some c.index_mut.ensures.value ∙ c.empty-value.ensures.value in
    rw (c.empty-value.ensures.after, c.push_reserved.ensures.items, c.push_reserved.ensures.capacity)
    (IsSound-empty _ _ _ c.self.inside.cells.items _ c.args.cell.0 _ some cell c.self.invariant)

pub returns-clause-value : goal.returns-clause-value
returns-clause-value g c =
    let some = rw (← c.self.view_is) at c.requires in
    let read = read_value c.self.inside.cells.items c.args.cell.0 _ some c.index_mut.ensures.value in
    rw (← c.self.view_is) (read ∙ ap value_of c.empty-value.ensures.value)

pub returns-clause-rest : goal.returns-clause-rest
returns-clause-rest g c =
    let within = held_within c.self.inside.cells.items c.args.cell.0 (rw (← c.self.view_is) at c.requires) in
    rw (← c.self.view_is, c.empty-value.ensures.after) (values_of-empty c.self.inside.cells.items c.args.cell.0 within)
