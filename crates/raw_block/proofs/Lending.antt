-- A shared borrow of the places is made of one of each value. Assumes `Logic`.
use Prim.Native.Nat.{ℕ, ◌+◌}
use Rattle.std.specs.Prelude.{List, [], ◌∷◌, Option, Some, None}
use Rattle.std.specs.Mem.{type_size}
use seplogic.Ra.Ura.{Ura}
use base.Fml.{Lft, Incl, ftrue, ffalse}
use types.Logic.{Logic}
use denote.RattleType.{RattleType, RowLaws}
use denote.Param.Laws.{Laws}
use denote.RawPtr.{Ptr, block_ptr, null_ptr}
use denote.Sharing.{ShrLaws, said}
use denote.SharingLaws.{beside_shr_laws, nothing_shr_laws, said_shr_laws}
use denote.Shares.{Shares-less}
use denote.Struct.Lending.{Lends, Lends-both, Lends-nothing, Lends-said, Lends-false}
use Rattle.raw_block.specs.Ownership.{place_owned, place_lent, row_owned, row_lent, is_small, places_owned, places_lent}

module _ (R : RattleType) (laws : RowLaws R) where
  place_laws : (block at : ℕ) (place : Option R.Denot) → ShrLaws (place_lent R block at place)
  place_laws block at None = nothing_shr_laws
  place_laws block at (Some value) = laws value block at

  row_laws : (block at : ℕ) (held : List (Option R.Denot)) → ShrLaws (row_lent R block at held)
  row_laws block at [] = nothing_shr_laws
  row_laws block at (place ∷ rest) = beside_shr_laws _ _ (place_laws block at place) (row_laws block (at + type_size R) rest)

  pub places_laws : (at : Ptr) (held : List (Option R.Denot)) → ShrLaws (places_lent R at held)
  places_laws null_ptr held = said_shr_laws ffalse tt
  places_laws (block_ptr block at) held = beside_shr_laws _ _ (said_shr_laws (is_small R held) tt) (row_laws block at held)

module _ {M : Type 1} {𝓤 : Ura M} (𝓛 : Logic 𝓤) (life : Lft) (R : RattleType) (L : Laws R) (within : Incl life R.lives) where
  Lends-place : (block at : ℕ) (place : Option R.Denot) → Lends 𝓛 (place_owned R block at place) (place_lent R block at place) life
  Lends-place block at None = Lends-nothing 𝓛 (place_owned R block at None) life
  Lends-place block at (Some value) = λ κ shares. Shares-less 𝓛 R R.lives life within (L.shares 𝓛) value κ shares block at

  Lends-row : (block at : ℕ) (held : List (Option R.Denot)) → Lends 𝓛 (row_owned R block at held) (row_lent R block at held) life
  Lends-row block at [] = Lends-nothing 𝓛 ftrue life
  Lends-row block at (place ∷ rest) =
      let next = at + type_size R in
      Lends-both 𝓛 (place_owned R block at place) (row_owned R block next rest) (place_lent R block at place) (row_lent R block next rest) life
      (Lends-place block at place) (Lends-row block next rest)

  pub Lends-places : (at : Ptr) (held : List (Option R.Denot)) → Lends 𝓛 (places_owned R at held) (places_lent R at held) life
  Lends-places null_ptr held = Lends-false 𝓛 (said ffalse) life
  Lends-places (block_ptr block at) held =
      Lends-both 𝓛 (is_small R held) (row_owned R block at held) (said (is_small R held)) (row_lent R block at held) life
      (Lends-said 𝓛 (is_small R held) tt life) (Lends-row block at held)
