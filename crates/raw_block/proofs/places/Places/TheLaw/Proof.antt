-- A shared borrow of the places reaches each value. Assumes `Logic`.
use mathlib.Core.List.{[], ◌++◌}
use base.Fml.{Incl-trans}
use contract.BorrowLft.{meet_⊑_left}
use denote.RattleType.{RattleType}
use denote.RawPtr.{RawPtr}
use denote.Param.Laws.{Laws}
use denote.Param.Shared.{copy_shared}
use denote.Struct.Laws.{field_copy}
use denote.Struct.Lending.{of_Lends}
use Rattle.core.specs.contracts.marker.PhantomData as mark
use Rattle.raw_block.specs.contracts.places.Places as places
use Rattle.raw_block.proofs.Lending.{places_laws, Lends-places}
use Rattle.raw_block.proofs.places.Places.TheLaw.Statement.{statement}

pub shares : (R : RattleType) (L : Laws R) → statement R L
shares R L =
    of_Lends (places.struct R) (places.the_codes R.Denot R.coded (mark.the_row RawPtr).coded) (places.the_heap R) (places.the_lent R)
    (λ row at. places_laws R L.shr_laws row.at row.held) (copy_shared (mark.the_field RawPtr) (field_copy (mark.the_type RawPtr) tt), tt)
    (λ M 𝓤 𝓛 row at. Lends-places 𝓛 (places.the_row R).lives R L (Incl-trans (meet_⊑_left (R.lives ++ []) _) (meet_⊑_left R.lives [])) row.at row.held)
