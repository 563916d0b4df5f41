-- What a layout makes of fields is what it reads from their octets.
use Rattle.std.proofs.Common.{◌≡◌, ℕ, ◌<◌, ◌^◌, cond, nat_eq, Option, Some, None, inl, inr, List, [], ◌∷◌, ◌++◌, length, refl, sym, ap, subst, ◌∙◌, append-nil}
use Rattle.std.proofs.lemmas.Bool.Decides.{eqb_tells}
use Rattle.wire_fields.specs.Field.{Field, number, octets, little_endian, spelled, AllFit}
use Rattle.wire_fields.specs.Layout.{Layout, done, take_number, take_octets, take_rest, size_of, value_of, Spells}
use Rattle.wire_fields.proofs.Layouts.{spelled_is_read}

-- what the layout makes of these fields, where they are of its kinds
abbrev pub made_of : {R : Type 0} → Layout R → List Field → Option R
made_of (done value) [] = Some value
made_of (done value) (field ∷ fields) = None
made_of (take_number n next) (number m x ∷ fields) = cond (nat_eq n m) (made_of (next x) fields) None
made_of (take_number n next) other = None
made_of (take_octets n next) (octets m xs ∷ fields) = cond (nat_eq n m) (made_of (next xs) fields) None
made_of (take_octets n next) other = None
made_of (take_rest make) (octets m xs ∷ []) = Some (make xs)
made_of (take_rest make) other = None

none_made : {R : Type 0} (value : R) → None ≡ Some value → ⊥
none_made value made = cc

-- the fields go on where the first is of this width
same_width : {R : Type 0} (n m : ℕ) (others : Option R) (value : R) → cond (nat_eq n m) others None ≡ Some value → (n ≡ m) × (others ≡ Some value)
same_width n m others value made =
    elim (eqb_tells n m) [
      | inl same ↦ (same.1, rw same.0 at made)
      | inr other ↦ absurd (none_made value (rw other.0 at made))
    ]

pub made_is_spelled : {R : Type 0} (layout : Layout R) (fields : List Field) (value : R) → AllFit fields → made_of layout fields ≡ Some value → Spells layout value (spelled fields)
made_is_spelled (done made) [] value fit same = (cc, refl)
made_is_spelled (done made) (field ∷ fields) value fit same = absurd (none_made value same)
made_is_spelled (take_number n next) (number m x ∷ fields) value fit same =
    let parts = same_width n m (made_of (next x) fields) value same in
    (x, spelled fields, subst (λ (k : ℕ). x < 256 ^ k) (sym parts.0) fit.0, ap (λ (k : ℕ). little_endian k x ++ spelled fields) (sym parts.0), made_is_spelled (next x) fields value fit.1 parts.1)
made_is_spelled (take_number n next) [] value fit same = absurd (none_made value same)
made_is_spelled (take_number n next) (octets m xs ∷ fields) value fit same = absurd (none_made value same)
made_is_spelled (take_octets n next) (octets m xs ∷ fields) value fit same =
    let parts = same_width n m (made_of (next xs) fields) value same in
    (xs, spelled fields, fit.0 ∙ sym parts.0, refl, made_is_spelled (next xs) fields value fit.1 parts.1)
made_is_spelled (take_octets n next) [] value fit same = absurd (none_made value same)
made_is_spelled (take_octets n next) (number m x ∷ fields) value fit same = absurd (none_made value same)
made_is_spelled (take_rest make) (octets m xs ∷ []) value fit same = let made : make xs ≡ value = cc in ap make (append-nil xs) ∙ made
made_is_spelled (take_rest make) [] value fit same = absurd (none_made value same)
made_is_spelled (take_rest make) (number m x ∷ fields) value fit same = absurd (none_made value same)
made_is_spelled (take_rest make) (octets m xs ∷ field ∷ fields) value fit same = absurd (none_made value same)

-- the octets of fields are read as what the layout makes of the fields
pub made_is_read : {R : Type 0} (layout : Layout R) (fields : List Field) (value : R) → AllFit fields → made_of layout fields ≡ Some value → (length (spelled fields) ≡ size_of layout (spelled fields)) × (value_of layout (spelled fields) ≡ value)
made_is_read layout fields value fit made = spelled_is_read layout value (spelled fields) (made_is_spelled layout fields value fit made)
