-- How a block keeps its values and chains its free cells (our choice). No public contract names this file.
use Rattle.std.specs.Prelude.{◌≡◌, ◌≢◌, ℕ, ◌+◌, ◌^◌, ◌<◌, List, [], ◌∷◌, length, get_or, Option, Some, None, ⊤}
use Rattle.std.specs.Ordering.{nat_cmp}
use Rattle.std.specs.FinMap as map
use Rattle.raw_block.specs.Places.{IsTaken}
use Rattle.raw_block.specs.declared.cell.Cell.{Cell}
use Rattle.raw_block.specs.declared.cell.Cell.TheVariants.{Free, Held}

-- the cell is none of these
abbrev pub IsNoneOf : ℕ → List ℕ → Type 0
IsNoneOf cell [] = ⊤
IsNoneOf cell (other ∷ rest) = (other ≢ cell) × IsNoneOf cell rest

module _ {T : Type 0} where
  -- the value that a cell holds, if it holds one
  abbrev pub value_of : Cell T → Option T
  value_of (Free next) = None
  value_of (Held value) = Some value

  -- the same for a place, which may be empty
  abbrev pub value_in : Option (Cell T) → Option T
  value_in None = None
  value_in (Some cell) = value_of cell

  -- the values of cells that lie one after another, the first of them with this number
  abbrev pub values_from : ℕ → List (Option (Cell T)) → map.FinMap nat_cmp T
  values_from first [] = map.empty
  values_from first (None ∷ rest) = values_from (first + 1) rest
  values_from first (Some (Free next) ∷ rest) = values_from (first + 1) rest
  values_from first (Some (Held value) ∷ rest) = map.insert (values_from (first + 1) rest) first value

  -- the values of all cells, each under its number
  unfoldable pub values_of : List (Option (Cell T)) → map.FinMap nat_cmp T
  values_of cells = values_from 0 cells

  -- from this cell on, these are the free cells, each of which holds the number of the next;
  -- the last holds the number of all cells
  abbrev pub IsChain : List (Option (Cell T)) → ℕ → List ℕ → Type 0
  IsChain cells first [] = first ≡ length cells
  IsChain cells first (cell ∷ rest) =
      (cell ≡ first) ×
      (IsNoneOf cell rest × ((next : ℕ) × ((get_or cells cell None ≡ Some (Free next)) × IsChain cells next rest)))

  -- this many cells, and a chain of all that are free
  pub record IsSound (most : ℕ) (cells : List (Option (Cell T))) (first : ℕ) : Type 0 where
    pub numbered : most < 2 ^ 32
    pub long : length cells ≡ most
    pub filled : (k : ℕ) → k < most → IsTaken cells k
    pub free : List ℕ
    pub chained : IsChain cells first free
    pub total : map.len (values_of cells) + length free ≡ most
