-- The proof of the rows `wrong_material_is_refused`: one number differs.
use Rattle.std.proofs.Common.{◌≡◌, ℕ, nat_eq, false, List, get_or, refl, ap, arith}
use Rattle.keyed_control.specs.declared.material.KeyMaterial.{KeyMaterial}
use Rattle.keyed_control.proofs.rows.wrong_material_is_refused.Goals as goal

numbers_differ : (one other : ℕ) → nat_eq one other ≡ false → one ≡ other → ⊥
numbers_differ one other differs same = grind arith

pub returns-clause-half : goal.returns-clause-half
returns-clause-half c map same =
    numbers_differ 0x0213243546576879 0xACBDCEDFE0F10213 refl (ap (λ (m : KeyMaterial). m.skd_s) same)

pub returns-clause-vector : goal.returns-clause-vector
returns-clause-vector c same = numbers_differ 0xBE 0x24 refl (ap (λ (octets : List ℕ). get_or octets 0 0) same)
