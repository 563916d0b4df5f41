-- The proof of `CellTable::make`.
use Rattle.cell_table.proofs.InPlaces.{values_none, IsSound-make}
use Rattle.cell_table.proofs.table.CellTable.make.Goals as goal

pub invariant_of-result : goal.invariant_of-result
invariant_of-result g c = rw (c.in_ok-cells.ensures) (IsSound-make g.row.N)

pub returns : goal.returns
returns g c = rw (c.in_ok-cells.ensures) (values_none g.row.N)
