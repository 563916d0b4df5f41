-- Layouts by the kinds of their fields: what a table of packets has for each of them (our choice).
use Rattle.std.specs.Prelude.{ℕ, zero, suc, List, [], ◌∷◌, ◌++◌}
use Rattle.wire_fields.specs.Field.{Field, number as number_field, octets as octets_field}
use Rattle.wire_fields.specs.Layout.{Layout, done, take_number, take_octets}

-- the kind of a field: a number of this many octets, this many octets, or this many numbers of two octets
pub data Kind : Type 0 where
  number : ℕ → Kind
  octets : ℕ → Kind
  numbers : ℕ → Kind

abbrev pub u8 : Kind
u8 = number 1

abbrev pub u16 : Kind
u16 = number 2

abbrev pub u24 : Kind
u24 = number 3

abbrev pub u32 : Kind
u32 = number 4

abbrev pub u40 : Kind
u40 = number 5

abbrev pub u64 : Kind
u64 = number 8

-- what makes a value of fields of these kinds
abbrev pub Maker : List Kind → Type 0 → Type 0
Maker [] R = R
Maker (number n ∷ kinds) R = ℕ → Maker kinds R
Maker (octets n ∷ kinds) R = List ℕ → Maker kinds R
Maker (numbers n ∷ kinds) R = List ℕ → Maker kinds R

-- this many numbers of two octets, after those that were taken before
abbrev pub take_numbers : {R : Type 0} → ℕ → List ℕ → (List ℕ → Layout R) → Layout R
take_numbers zero taken next = next taken
take_numbers (suc n) taken next = take_number 2 (λ x. take_numbers n (taken ++ x ∷ []) next)

-- the layout of fields of these kinds, one after another, and the value that is made of them
abbrev pub fields : {R : Type 0} → (kinds : List Kind) → Maker kinds R → Layout R
fields [] make = done make
fields (number n ∷ kinds) make = take_number n (λ x. fields kinds (make x))
fields (octets n ∷ kinds) make = take_octets n (λ xs. fields kinds (make xs))
fields (numbers n ∷ kinds) make = take_numbers n [] (λ xs. fields kinds (make xs))

-- the kinds of these fields, whatever their values
abbrev pub kinds_of : List Field → List Kind
kinds_of [] = []
kinds_of (number_field n x ∷ rest) = number n ∷ kinds_of rest
kinds_of (octets_field n xs ∷ rest) = octets n ∷ kinds_of rest
