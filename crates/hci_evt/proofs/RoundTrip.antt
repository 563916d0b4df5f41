-- Each event is made by the layout of its code from its parameters, so it is read from what is written of it.
use Rattle.std.proofs.Common.{◌≡◌, ℕ, ◌<◌, ◌^◌, true, cond, nat_eq, List, [], ◌∷◌, ◌++◌, length, Option, Some, None, inl, inr, refl, ap, subst, ◌∙◌}
use Rattle.std.proofs.lemmas.Bool.{le-leb}
use Rattle.std.proofs.lemmas.Bool.Decides.{eqb_tells}
use Rattle.wire_fields.specs.Field.{Field, number, octets, little_endian, spelled, AllFit}
use Rattle.wire_fields.specs.Layout.{Layout, size_of}
use Rattle.wire_fields.specs.Table.{value_in}
use Rattle.wire_fields.proofs.Spelling.{octet_then}
use Rattle.wire_fields.proofs.Making.{made_of, made_is_read}
use Rattle.hci_evt.specs.Event.{code_of, parameters_of, IsWithinCapacity}
use Rattle.hci_evt.specs.Reading.{layouts, le_layouts, read_with, le_event_in, le_event_of, event_in}
use Rattle.hci_evt.specs.declared.event.Event.{Event}
use Rattle.hci_evt.specs.declared.event.Event.TheVariants.{AdvertisingReport}

-- ---- what the layouts make of fields

abbrev made_with : Option (Layout (Option Event)) → List Field → Option (Option Event)
made_with None fields = None
made_with (Some layout) fields = made_of layout fields

abbrev le_made : List Field → Option (Option Event)
le_made (number n subevent ∷ fields) = cond (nat_eq n 1) (made_with (value_in le_layouts subevent) fields) None
le_made other = None

abbrev made_in : ℕ → List Field → Option (Option Event)
made_in code fields = cond (nat_eq code 0x3E) (le_made fields) (made_with (value_in layouts code) fields)

eqb_same : (n : ℕ) → nat_eq n n ≡ true
eqb_same n = elim (eqb_tells n n) [ inl same ↦ same.0 | inr other ↦ absurd (other.1 refl) ]

-- each event is made of its own parameters
has_row : (event : Event) → IsWithinCapacity event → made_in (code_of event) (parameters_of event) ≡ Some (Some event)
unfolding layouts le_layouts
has_row (AdvertisingReport kind address_kind address report rssi) room =
    let few = le-leb (length report.items) 31 room in
    rw (eqb_same (length report.items), few) refl
has_row event room = refl

-- ---- what is read of the octets of those fields

none_some : (value : Option Event) → None ≡ Some value → ⊥
none_some value made = cc

read_with_made : (row : Option (Layout (Option Event))) (fields : List Field) (value : Option Event) → AllFit fields → made_with row fields ≡ Some value → read_with row (spelled fields) ≡ value
read_with_made None fields value fit made = absurd (none_some value made)
read_with_made (Some layout) fields value fit made =
    let read = made_is_read layout fields value fit made in
    elim (eqb_tells (length (spelled fields)) (size_of layout (spelled fields))) [
      | inl same ↦ rw same.0 read.1
      | inr other ↦ absurd (other.1 read.0)
    ]

le_read_made : (fields : List Field) (value : Option Event) → AllFit fields → le_made fields ≡ Some value → le_event_of (spelled fields) ≡ value
unfolding le_event_in
le_read_made [] value fit made = absurd (none_some value made)
le_read_made (octets n xs ∷ fields) value fit made = absurd (none_some value made)
le_read_made (number n subevent ∷ fields) value fit made =
    elim (eqb_tells n 1) [
      | inl same ↦
          let small : subevent < 256 = subst (λ (k : ℕ). subevent < 256 ^ k) same.1 fit.0 in
          let octet : little_endian n subevent ++ spelled fields ≡ subevent ∷ spelled fields = ap (λ (k : ℕ). little_endian k subevent ++ spelled fields) same.1 ∙ octet_then subevent (spelled fields) small in
          ap le_event_of octet ∙ read_with_made (value_in le_layouts subevent) fields value fit.1 (rw same.0 at made)
      | inr other ↦ absurd (none_some value (rw other.0 at made))
    ]

read_made : (code : ℕ) (fields : List Field) (value : Option Event) → AllFit fields → made_in code fields ≡ Some value → event_in code (spelled fields) ≡ value
unfolding event_in
read_made code fields value fit made =
    elim (eqb_tells code 0x3E) [
      | inl same ↦ rw same.0 (le_read_made fields value fit (rw same.0 at made))
      | inr other ↦ rw other.0 (read_with_made (value_in layouts code) fields value fit (rw other.0 at made))
    ]

-- an event is read from its code and its parameters
pub parameters_read : (event : Event) → AllFit (parameters_of event) → IsWithinCapacity event → event_in (code_of event) (spelled (parameters_of event)) ≡ Some event
parameters_read event fit room = read_made (code_of event) (parameters_of event) (Some event) fit (has_row event room)
