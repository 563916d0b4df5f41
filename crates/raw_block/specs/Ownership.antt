-- What the parts of a region own and lend, for values of the row R.
use Rattle.std.specs.Prelude.{ℕ, ◌+◌, ◌*◌, ◌^◌, List, [], ◌∷◌, length, Option, Some, None}
use Rattle.std.specs.Mem.{type_size}
use base.Fraction.{full_share}
use base.Fml.{Lft, Fml, ftrue, ffalse, fsep, flt, froom}
use mir.Syntax.{Ty, ty_array}
use mir.Raw.{raw}
use denote.RattleType.{RattleType}
use denote.Memory.{lone, part_at, shared_of}
use denote.Sharing.{nothing, said, beside}
use denote.RawPtr.{Ptr, block_ptr, null_ptr}

module _ (R : RattleType) where
  -- the place at this offset of a block: a value, or room for one
  abbrev pub place_owned : ℕ → ℕ → Option R.Denot → Fml
  place_owned block at None = froom (raw (lone R.mir)) block at
  place_owned block at (Some value) = part_at R full_share value block at

  -- places one after another, the first of them at this offset
  abbrev pub row_owned : ℕ → ℕ → List (Option R.Denot) → Fml
  row_owned block at [] = ftrue
  row_owned block at (place ∷ rest) = fsep (place_owned block at place) (row_owned block (at + type_size R) rest)

  -- all places lie in less than 2 ^ 63 bytes
  abbrev pub is_small : List (Option R.Denot) → Fml
  is_small held = flt (length held * type_size R) (2 ^ 63)

  abbrev pub places_owned : Ptr → List (Option R.Denot) → Fml
  places_owned null_ptr held = ffalse
  places_owned (block_ptr block at) held = fsep (is_small held) (row_owned block at held)

  -- what a shared borrow of them has
  abbrev pub place_lent : ℕ → ℕ → Option R.Denot → Lft → Fml
  place_lent block at None = nothing
  place_lent block at (Some value) = shared_of R value block at

  abbrev pub row_lent : ℕ → ℕ → List (Option R.Denot) → Lft → Fml
  row_lent block at [] = nothing
  row_lent block at (place ∷ rest) = beside (place_lent block at place) (row_lent block (at + type_size R) rest)

  abbrev pub places_lent : Ptr → List (Option R.Denot) → Lft → Fml
  places_lent null_ptr held = said ffalse
  places_lent (block_ptr block at) held = beside (said (is_small held)) (row_lent block at held)

  -- what the allocator wants back with a region of this many places
  abbrev pub right_owned : (Ty → Ptr → Fml) → Ptr → ℕ → Fml
  right_owned token at len = token (raw (ty_array (lone R.mir) len)) at
