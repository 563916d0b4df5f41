-- The proof of `CellTable::get_mut`.
use Rattle.std.proofs.Common.{None, IsSome, get_or, refl, subst, sym, arith}
use Rattle.cell_table.proofs.InPlaces.{cell_at, has_cell, read_at, values_write, IsSound-write}
use Rattle.cell_table.proofs.table.CellTable.get_mut.Goals as goal

pub cell_in-cell-requires : goal.cell_in-cell-requires
cell_in-cell-requires g c =
    has_cell c.self.inside.cells c.args.place c.self.inside.places c.self.invariant.held
    (subst (λ values. IsSome (get_or values c.args.place None)) (sym c.self.view_is) c.requires)

pub get_mut-requires : goal.get_mut-requires
get_mut-requires g c = (
  omega arith,
  cell_at c.self.inside.cells c.args.place c.self.inside.places c.cell_in-cell.result
      c.self.invariant.held c.cell_in-cell.ensures,
)

pub invariant_of-self-lent : goal.invariant_of-self-lent
invariant_of-self-lent g c w =
    IsSound-write g.row.N c.self.inside.cells c.self.inside.places c.self.invariant c.args.place
    c.cell_in-cell.result w c.cell_in-cell.ensures

pub returns : goal.returns
returns g c = (
  (
    refl,
    λ w. rw (← c.self.view_is) (values_write g.row.N c.self.inside.cells c.self.inside.places c.self.invariant
        c.args.place c.cell_in-cell.result w c.cell_in-cell.ensures),
  ),
  record {
    lends = tt;
    value = rw (← c.self.view_is) (read_at c.self.inside.cells c.args.place c.self.inside.places
        c.cell_in-cell.result c.get_mut.result.now c.cell_in-cell.ensures c.get_mut.ensures.value);
  },
)
