-- What a table is after a write through a reference to one of its values.
use Rattle.std.specs.Prelude.{ℕ, List, Option, Some, slice_set}
use Rattle.std.specs.Borrow.{Lends, Fml, RattleType, MutBor}
use Rattle.cell_table.specs.contracts.table.CellTable.{the_row}

module _ (T N : RattleType) (table : MutBor (List (Option T.Denot))) where
  -- once the borrow ends, the place has the last value written through it
  abbrev pub lends_value : ℕ → MutBor T.Denot → Fml
  lends_value place lent = Lends (the_row T N) T table lent (λ value. slice_set table.now place (Some value))
