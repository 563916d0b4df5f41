-- The parts of a packet, one after another, and the event that a packet is.
use Rattle.std.proofs.Common.{◌≡◌, ℕ, suc, ◌%◌, List, [], ◌∷◌, ◌++◌, ◌<◌, ◌≤◌, length, take, drop, ◌-◌, get_or, set, Option, Some, None, refl, sym, ap, ◌∙◌, inl, inr, arith}
use Rattle.std.proofs.lemmas.Bool.Decides.{eqb_tells}
use Rattle.std.proofs.Math.Seq.{take-length}
use Rattle.std.specs.Prelude.{IfSome, IfNone}
use Rattle.wire_fields.specs.Field.{Field, number, little_endian, appended, spelled, AllFit}
use Rattle.wire_fields.proofs.Spelling.{appended-spelled, octet_then}
use Rattle.hci_evt.specs.Event.{code_of, parameters_of, packet_of, IsEvent, Spells, written}
use Rattle.hci_evt.specs.Reading.{event_in, event_of, IsPacket}
use Rattle.hci_evt.specs.declared.event.Event.{Event}
use Rattle.hci_evt.proofs.RoundTrip.{parameters_read}

-- the header and the parameters, before the third octet is their number
parts_are : (code : ℕ) (fields : List Field) (n p q r s : List ℕ) → n ≡ [] → p ≡ n ++ little_endian 1 4 → q ≡ p ++ little_endian 1 code
    → r ≡ q ++ little_endian 1 0 → s ≡ appended r fields → s ≡ 4 ∷ code % 256 ∷ 0 ∷ spelled fields
unfolding little_endian
parts_are code fields n p q r s none first second third fourth =
    let header : r ≡ 4 ∷ code % 256 ∷ 0 ∷ [] = third ∙ rw (second, first, none) refl in
    fourth ∙ appended-spelled r fields ∙ ap (λ (front : List ℕ). front ++ spelled fields) header

pub with_length : (code : ℕ) (fields : List Field) (n p q r s t : List ℕ) → n ≡ [] → p ≡ n ++ little_endian 1 4 → q ≡ p ++ little_endian 1 code
    → r ≡ q ++ little_endian 1 0 → s ≡ appended r fields → length s ≤ 258 → t ≡ set s 2 (length s - 3)
    → t ≡ spelled (number 1 4 ∷ number 1 code ∷ number 1 (length (spelled fields)) ∷ fields)
unfolding little_endian
with_length code fields n p q r s t none first second third fourth few last =
    let parts = parts_are code fields n p q r s none first second third fourth in
    let long : length s ≡ suc (suc (suc (length (spelled fields)))) = ap length parts in
    let count : length s - 3 ≡ length (spelled fields) % 256 = omega (arith, long, few) in
    last ∙ (λ i. set (parts i) 2 (count i))

header_is : (event : Event) → IsEvent event → written event ≡ 4 ∷ code_of event ∷ length (spelled (parameters_of event)) ∷ spelled (parameters_of event)
header_is event is =
    octet_then 4 _ is.0.0
    ∙ ap (λ (rest : List ℕ). 4 ∷ rest) (octet_then (code_of event) _ is.0.1.0
    ∙ ap (λ (rest : List ℕ). code_of event ∷ rest) (octet_then (length (spelled (parameters_of event))) _ is.0.1.1.0))

packet_read : (code : ℕ) (parameters : List ℕ) → event_of (4 ∷ code ∷ length parameters ∷ parameters) ≡ event_in code parameters
unfolding event_of
packet_read code parameters =
    elim (eqb_tells (length parameters) (length parameters)) [ inl same ↦ rw same.0 refl | inr other ↦ absurd (other.1 refl) ]

-- an event is read from its packet
pub written_read : (event : Event) → IsEvent event → event_of (written event) ≡ Some event
written_read event is =
    ap event_of (header_is event is) ∙ packet_read (code_of event) (spelled (parameters_of event)) ∙ parameters_read event is.0.1.1.1 is.1

-- octets that are not a packet are not read
not_four : (indicator code count : ℕ) (parameters : List ℕ) → ((i : ℕ) → get_or (indicator ∷ code ∷ count ∷ parameters) i 0 < 256)
    → ((other_code : ℕ) (other : List ℕ) → IsPacket (indicator ∷ code ∷ count ∷ parameters) other_code other → ⊥) → event_of (indicator ∷ code ∷ count ∷ parameters) ≡ None
unfolding event_of
not_four indicator code count parameters bytes others =
    elim (eqb_tells indicator 4) [
      | inl four ↦ elim (eqb_tells (length parameters) count) [
        | inl same ↦
            let small : count < 256 = bytes 2 in
            absurd (others code parameters (record { whole = λ i. four.1 i ∷ code ∷ sym same.1 i ∷ parameters; short = omega arith }))
        | inr other ↦ rw (four.0, other.0) refl
      ]
      | inr other ↦ rw other.0 refl
    ]

pub not_packet : (octets : List ℕ) → ((i : ℕ) → get_or octets i 0 < 256) → ((code : ℕ) (parameters : List ℕ) → IsPacket octets code parameters → ⊥) → event_of octets ≡ None
unfolding event_of
not_packet [] bytes others = refl
not_packet (indicator ∷ []) bytes others = refl
not_packet (indicator ∷ code ∷ []) bytes others = refl
not_packet (indicator ∷ code ∷ count ∷ parameters) bytes others = not_four indicator code count parameters bytes others

pub packet_is : (octets : List ℕ) (code : ℕ) (parameters : List ℕ) → IsPacket octets code parameters → event_of octets ≡ event_in code parameters
packet_is octets code parameters packet = ap event_of packet.whole ∙ packet_read code parameters

-- what is read is the event whose packet it is
pub read_is_event : (octets : List ℕ) (event : Event) (code : ℕ) (parameters : List ℕ) → ((i : ℕ) → get_or octets i 0 < 256) → IsPacket octets code parameters → Spells event code parameters → IsEvent event × (octets ≡ written event)
read_is_event octets event code parameters bytes packet spells =
    let code_octet : get_or octets 1 0 ≡ code = rw packet.whole refl in
    let code_fits : code_of event < 256 = rw spells.code_is (rw (← code_octet) (bytes 1)) in
    let len_fits : length (spelled (parameters_of event)) < 256 = rw spells.parameters_are (omega (arith, packet.short)) in
    let fits : AllFit (packet_of event) = (omega arith, (code_fits, (len_fits, spells.fits))) in
    ((fits, spells.room), packet.whole ∙ sym (header_is event (fits, spells.room) ∙ rw (spells.code_is, spells.parameters_are) refl))

pub some_is_event : (octets : List ℕ) (found : Option Event) (code : ℕ) (parameters : List ℕ) → ((i : ℕ) → get_or octets i 0 < 256) → IsPacket octets code parameters → IfSome found (λ event. Spells event code parameters) → IfSome found (λ event. IsEvent event × (octets ≡ written event))
some_is_event octets None code parameters bytes packet spells = tt
some_is_event octets (Some event) code parameters bytes packet spells = read_is_event octets event code parameters bytes packet spells

pub only_is : (octets : List ℕ) (event : Event) → IsEvent event → octets ≡ written event → event_of octets ≡ Some event
only_is octets event is whole = ap event_of whole ∙ written_read event is

pub none_is : (octets : List ℕ) (found : Option Event) → found ≡ event_of octets → IfNone found ((event : Event) → IsEvent event → octets ≡ written event → ⊥)
none_is octets None read = λ event is whole. let e : None ≡ Some event = read ∙ only_is octets event is whole in cc
none_is octets (Some event) read = tt

-- the first octet, and the slice after it
pub first_and_rest : (octets rest : List ℕ) → 1 ≤ length octets → rest ≡ take (length octets - 1) (drop 1 octets) → octets ≡ get_or octets 0 0 ∷ rest
first_and_rest [] rest some is = absurd (omega arith)
first_and_rest (x ∷ octets) rest some is =
    let count : length (x ∷ octets) - 1 ≡ length octets = omega arith in
    ap (λ (s : List ℕ). x ∷ s) (sym (is ∙ ap (λ (k : ℕ). take k octets) count ∙ take-length octets))

-- the parameters of an LE meta event begin with its subevent code
pub le_some : (found : Option Event) (code subevent : ℕ) (rest whole : List ℕ) → subevent < 256 → code ≡ 0x3E → whole ≡ subevent ∷ rest
    → IfSome found (λ event. Spells event 0x3E (little_endian 1 subevent ++ rest)) → IfSome found (λ event. Spells event code whole)
le_some None code subevent rest whole small is_le is spells = tt
le_some (Some event) code subevent rest whole small is_le is spells =
    record { code_is = spells.code_is ∙ sym is_le; parameters_are = spells.parameters_are ∙ octet_then subevent rest small ∙ sym is; fits = spells.fits; room = spells.room }
