-- How a queue keeps its values: each in a cell of a pool, and the numbers of the cells in order (our choice).
use Rattle.std.specs.Prelude.{◌≡◌, ◌≢◌, ℕ, ◌≤◌, List, [], ◌∷◌, length, IsSome}
use Rattle.std.specs.Ordering.{nat_cmp}
use Rattle.std.specs.FinMap as map
use Rattle.std.specs.List.{filter_map}
use Rattle.cell_pool.specs.declared.pool.CellNo.{CellNo}

module _ {V : Type 0} where
  -- the values of cells, in the order of this list
  unfoldable pub values_in : map.FinMap nat_cmp V → List CellNo → List V
  values_in cells order = filter_map (λ cell. map.get cells cell.0) order

  -- each cell of the list holds a value
  abbrev pub AreHeld : map.FinMap nat_cmp V → List CellNo → Type 0
  AreHeld cells [] = Unit {0}
  AreHeld cells (cell ∷ order) = IsSome (map.get cells cell.0) × AreHeld cells order

-- this cell is not in the list
abbrev pub IsAway : CellNo → List CellNo → Type 0
IsAway cell [] = Unit {0}
IsAway cell (other ∷ order) = (other.0 ≢ cell.0) × IsAway cell order

-- no cell is in the list twice
abbrev pub AreApart : List CellNo → Type 0
AreApart [] = Unit {0}
AreApart (cell ∷ order) = IsAway cell order × AreApart order

-- all values are in the list, and there is room for all numbers
pub record IsSound {V : Type 0} (most : ℕ) (cells : map.FinMap nat_cmp V) (order : List CellNo) (room : ℕ) : Type 0 where
  pub fits : length order ≤ most
  pub room_left : most ≤ room
  pub total : map.len cells ≡ length order
  pub held : AreHeld cells order
  pub apart : AreApart order
