-- How a pool keeps its values (our choice). No public contract names this file.
use Rattle.std.specs.Prelude.{◌≡◌, ◌≢◌, ℕ, ◌+◌, ◌^◌, ◌<◌, ◌≤◌, List, [], ◌∷◌, length, slice_index, slice_index_or, Option, Some, None}
use Rattle.std.specs.Ordering.{nat_cmp}
use Rattle.std.specs.FinMap as map
use Rattle.cell_pool.specs.declared.cell.Cell.{Cell}
use Rattle.cell_pool.specs.declared.cell.Cell.TheVariants.{Free, Held}

module _ {T : Type 0} where
  -- the value that a cell holds, if it holds one
  abbrev pub value_of : Cell T → Option T
  value_of Free = None
  value_of (Held value) = Some value

  -- the values of cells that lie one after another, the first of them with this number
  abbrev pub values_from : ℕ → List (Cell T) → map.FinMap nat_cmp T
  values_from first [] = map.empty
  values_from first (Free ∷ rest) = values_from (first + 1) rest
  values_from first (Held value ∷ rest) = map.insert (values_from (first + 1) rest) first value

  -- the values of all cells, each under its number
  unfoldable pub values_of : List (Cell T) → map.FinMap nat_cmp T
  values_of cells = values_from 0 cells

  -- each number in the list is that of a free cell, and is in it once
  pub record AreFree (cells : List (Cell T)) (free : List ℕ) : Type 0 where
    pub within : (i : ℕ) → i < length free → slice_index free i < length cells
    pub vacant : (i : ℕ) → i < length free → slice_index_or cells (slice_index free i) Free ≡ Free
    pub apart : (i j : ℕ) → i < j → j < length free → slice_index free i ≢ slice_index free j

  -- at most this number of cells, with room for all of them, and a list of those that are free
  pub record IsSound (most : ℕ) (cells : List (Cell T)) (free : List ℕ) (room free_room : ℕ) : Type 0 where
    pub numbered : most < 2 ^ 32
    pub fits : length cells ≤ most
    pub room_left : most ≤ room
    pub free_room_left : most ≤ free_room
    pub total : map.len (values_of cells) + length free ≡ length cells
    pub listed : AreFree cells free
