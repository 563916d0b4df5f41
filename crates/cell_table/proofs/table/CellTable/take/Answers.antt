-- The proof of `CellTable::take`.
use Rattle.std.proofs.Common.{None, IsSome, get_or, subst, sym, arith}
use Rattle.cell_table.proofs.InPlaces.{cell_at, has_cell, read_at, values_take, IsSound-take}
use Rattle.cell_table.proofs.table.CellTable.take.Goals as goal

pub cell_in-cell-requires : goal.cell_in-cell-requires
cell_in-cell-requires g c =
    has_cell c.self.inside.cells c.args.place c.self.inside.places c.self.invariant.held
    (subst (λ values. IsSome (get_or values c.args.place None)) (sym c.self.view_is) c.requires)

pub take-requires : goal.take-requires
take-requires g c = (
  omega arith,
  cell_at c.self.inside.cells c.args.place c.self.inside.places c.cell_in-cell.result
      c.self.invariant.held c.cell_in-cell.ensures,
)

pub invariant_of-self : goal.invariant_of-self
invariant_of-self g c =
    rw (c.take.ensures.rest) (IsSound-take g.row.N c.self.inside.cells c.self.inside.places c.self.invariant
    c.args.place c.cell_in-cell.result c.cell_in-cell.ensures)

pub returns-clause-value : goal.returns-clause-value
returns-clause-value g c =
    rw (← c.self.view_is)
    (read_at c.self.inside.cells c.args.place c.self.inside.places c.cell_in-cell.result c.take.result
    c.cell_in-cell.ensures c.take.ensures.value)

pub returns-clause-rest : goal.returns-clause-rest
returns-clause-rest g c =
    rw (← c.self.view_is, c.take.ensures.rest) (values_take g.row.N c.self.inside.cells c.self.inside.places
    c.self.invariant c.args.place c.cell_in-cell.result c.cell_in-cell.ensures)
