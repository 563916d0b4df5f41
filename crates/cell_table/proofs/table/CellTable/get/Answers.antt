-- The proof of `CellTable::get`.
use Rattle.std.proofs.Common.{None, IsSome, subst, sym, get_or, arith}
use Rattle.cell_table.proofs.InPlaces.{cell_at, has_cell, read_at}
use Rattle.cell_table.proofs.table.CellTable.get.Goals as goal

pub cell_in-requires : goal.cell_in-requires
cell_in-requires g c =
    has_cell c.self.inside.cells c.args.place c.self.inside.places c.self.invariant.held
    (subst (λ values. IsSome (get_or values c.args.place None)) (sym c.self.view_is) c.requires)

pub get-requires : goal.get-requires
get-requires g c = (
  omega arith,
  cell_at c.self.inside.cells c.args.place c.self.inside.places c.cell_in.result
      c.self.invariant.held c.cell_in.ensures,
)

pub returns : goal.returns
returns g c =
    rw (← c.self.view_is)
    (read_at c.self.inside.cells c.args.place c.self.inside.places c.cell_in.result c.get.result.now
    c.cell_in.ensures c.get.ensures)
