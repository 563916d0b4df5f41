-- The proof of `CellTable::places`.
use Rattle.std.proofs.Common.{length, sym, ap, ◌∙◌}
use Rattle.cell_table.proofs.InPlaces.{length_values}
use Rattle.cell_table.proofs.table.CellTable.places.Goals as goal

pub returns-clause-count : goal.returns-clause-count
returns-clause-count g c =
    sym (length_values c.self.inside.cells c.self.inside.places) ∙ ap length c.self.view_is
