-- A shared borrow of the right to give a region back has nothing. Assumes `Logic`.
use denote.RattleType.{RattleType}
use denote.RawPtr.{RawPtr}
use denote.Param.Laws.{Laws}
use denote.Param.Shared.{copy_shared}
use denote.SharingLaws.{nothing_shr_laws}
use denote.Struct.Laws.{field_copy}
use denote.Struct.Lending.{of_Lends, Lends-nothing}
use Rattle.core.specs.declared.alloc.Allocator.{Ghosts}
use Rattle.core.specs.contracts.marker.PhantomData as mark
use Rattle.raw_block.specs.contracts.places.Right as right
use Rattle.raw_block.proofs.places.Right.TheLaw.Statement.{statement}

pub shares : (R A : RattleType) (g : Ghosts A.Denot) (L : Laws R) (LA : Laws A) → statement R A g L LA
shares R A g L LA =
    of_Lends (right.struct R A g) (right.the_codes R.Denot A.Denot R.coded A.coded (mark.the_row RawPtr).coded) (right.the_heap R A g) (right.the_lent R A g)
    (λ row at. nothing_shr_laws) (copy_shared (mark.the_field RawPtr) (field_copy (mark.the_type RawPtr) tt), tt)
    (λ M 𝓤 𝓛 row at. Lends-nothing 𝓛 (right.the_heap R A g row) (right.the_row R A g).lives)
