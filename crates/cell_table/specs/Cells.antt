-- How a table keeps its values: each in a cell of a pool, and at each place the number of its cell (our choice). No
-- public contract names this file.
use Rattle.std.specs.Prelude.{◌≡◌, ◌≢◌, ℕ, ◌+◌, List, [], ◌∷◌, length, map, Option, Some, None, IsSome, ⊤}
use Rattle.std.specs.Ordering.{nat_cmp}
use Rattle.std.specs.FinMap as finite
use Rattle.cell_pool.specs.declared.pool.CellNo.{CellNo}

module _ {V : Type 0} where
  -- the value in the cell of a place, if it has one
  abbrev pub value_in : finite.FinMap nat_cmp V → Option CellNo → Option V
  value_in cells None = None
  value_in cells (Some cell) = finite.get cells cell.0

  -- the values, place by place
  unfoldable pub values_at : finite.FinMap nat_cmp V → List (Option CellNo) → List (Option V)
  values_at cells places = map (value_in cells) places

  -- the cell of a place, if it has one, holds a value
  abbrev pub IsHeld : finite.FinMap nat_cmp V → Option CellNo → Type 0
  IsHeld cells None = ⊤
  IsHeld cells (Some cell) = IsSome (finite.get cells cell.0)

  abbrev pub AreHeld : finite.FinMap nat_cmp V → List (Option CellNo) → Type 0
  AreHeld cells [] = ⊤
  AreHeld cells (place ∷ places) = IsHeld cells place × AreHeld cells places

-- a place has not this cell
abbrev pub HasNot : ℕ → Option CellNo → Type 0
HasNot cell None = ⊤
HasNot cell (Some other) = other.0 ≢ cell

-- no place has this cell
abbrev pub HaveNot : ℕ → List (Option CellNo) → Type 0
HaveNot cell [] = ⊤
HaveNot cell (place ∷ places) = HasNot cell place × HaveNot cell places

-- no cell is at two places
abbrev pub AreApart : List (Option CellNo) → Type 0
AreApart [] = ⊤
AreApart (None ∷ places) = AreApart places
AreApart (Some cell ∷ places) = HaveNot cell.0 places × AreApart places

-- how many places have a cell
abbrev pub cells_at : List (Option CellNo) → ℕ
cells_at [] = 0
cells_at (None ∷ places) = cells_at places
cells_at (Some cell ∷ places) = 1 + cells_at places

-- all values are in the places
pub record IsSound {V : Type 0} (most : ℕ) (cells : finite.FinMap nat_cmp V)
    (places : List (Option CellNo)) : Type 0 where
  pub long : length places ≡ most
  pub total : finite.len cells ≡ cells_at places
  pub held : AreHeld cells places
  pub apart : AreApart places
