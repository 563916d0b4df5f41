-- The row of a type in the table of PDUs: the shape of its payload, and the PDU that the
-- flags and the payload make. A PDU is that of its own row, so its header and its payload determine it.
use Rattle.std.proofs.Common.{◌≡◌, ℕ, ◌+◌, ◌-◌, ◌*◌, ◌/◌, ◌%◌, ◌<◌, Bool, false, cond, List, [], ◌∷◌, length, nat_eq, IsTrue, refl, sym, ap, subst, ◌∙◌, arith}
use Rattle.std.proofs.lemmas.Bool.Decides.{nat_tests}
use Rattle.std.proofs.lemmas.List.{length-append}
use Rattle.ble_base.specs.declared.addresses.Address.{Address}
use Rattle.wire_fields.specs.Field.{Field, number, octets, spelled}
use Rattle.wire_fields.proofs.Spelling as spelling
use Rattle.wire_fields.proofs.Spelling.{number_at, octets_at, total, length-spelled, fields_are}
use Rattle.adv_pdu.specs.declared.pdu.AdvPdu.{AdvPdu}
use Rattle.adv_pdu.specs.declared.pdu.AdvPdu.TheVariants.{Ind, Direct, Nonconn, ScanReq, ScanRsp, Connect, ScanInd}
use Rattle.adv_pdu.specs.Header.{header_octet, kept_bits}
use Rattle.adv_pdu.specs.Pdu.{type_of, ch_sel_of, tx_add_of, rx_add_of, payload_of, IsPdu}
use Rattle.adv_pdu.specs.Reading.{is_payload_length}
use Rattle.adv_pdu.proofs.Bits.{kept_is}

pub record Row : Type 0 where
  pub shape : List Field
  pub pdu : List Field → AdvPdu

abbrev address_at : ℕ → Bool → List Field → Address
address_at place random fields = record { random = random; octets = octets_at place fields }

abbrev no_row : Row
no_row = record { shape = []; pdu = λ fields. ScanReq (address_at 0 false fields) (address_at 1 false fields) }

abbrev row_in : List (ℕ × Row) → ℕ → Row
row_in [] kind = no_row
row_in (row ∷ rows) kind = cond (nat_eq kind row.0) row.1 (row_in rows kind)

abbrev one_address : List ℕ → List Field
one_address payload = octets 6 [] ∷ octets (length payload - 6) [] ∷ []

abbrev two_addresses : List Field
two_addresses = octets 6 [] ∷ octets 6 [] ∷ []

abbrev link_shape : List Field
link_shape = octets 6 [] ∷ octets 6 [] ∷ number 4 0 ∷ number 3 0 ∷ number 1 0 ∷ number 2 0 ∷ number 2 0 ∷ number 2 0 ∷ number 2 0 ∷ number 5 0 ∷ number 1 0 ∷ []

unfoldable pub row_of : ℕ → Bool → Bool → Bool → List ℕ → Row
row_of kind ch_sel tx_add rx_add payload =
    row_in (
    (0, record { shape = one_address payload; pdu = λ fields. Ind (address_at 0 tx_add fields) ch_sel (record { items = octets_at 1 fields }) }) ∷
    (1, record { shape = two_addresses; pdu = λ fields. Direct (address_at 0 tx_add fields) (address_at 1 rx_add fields) ch_sel }) ∷
    (2, record { shape = one_address payload; pdu = λ fields. Nonconn (address_at 0 tx_add fields) (record { items = octets_at 1 fields }) }) ∷
    (3, record { shape = two_addresses; pdu = λ fields. ScanReq (address_at 0 tx_add fields) (address_at 1 rx_add fields) }) ∷
    (4, record { shape = one_address payload; pdu = λ fields. ScanRsp (address_at 0 tx_add fields) (record { items = octets_at 1 fields }) }) ∷
    (5, record { shape = link_shape; pdu = λ fields. Connect (address_at 0 tx_add fields) (address_at 1 rx_add fields) ch_sel (record { access = number_at 2 fields; crc_init = number_at 3 fields; win_size = number_at 4 fields; win_offset = number_at 5 fields; interval = number_at 6 fields; latency = number_at 7 fields; timeout = number_at 8 fields; map = number_at 9 fields; hop = number_at 10 fields % 32; sca = number_at 10 fields / 32 }) }) ∷
    (6, record { shape = one_address payload; pdu = λ fields. ScanInd (address_at 0 tx_add fields) (record { items = octets_at 1 fields }) }) ∷ []) kind

abbrev own_row : AdvPdu → Row
own_row pdu = row_of (type_of pdu) (ch_sel_of pdu) (tx_add_of pdu) (rx_add_of pdu) (spelled (payload_of pdu))

abbrev HasRow : AdvPdu → Type 0
HasRow pdu = (spelling.shape (payload_of pdu) ≡ (own_row pdu).shape) × ((own_row pdu).pdu (payload_of pdu) ≡ pdu)

-- what is after one address
body_shape : (address body : List ℕ) → length address ≡ 6 → octets 6 [] ∷ octets (length body) [] ∷ [] ≡ one_address (spelled (octets 6 address ∷ octets (length body) body ∷ []))
body_shape address body six =
    let len : length body ≡ length (spelled (octets 6 address ∷ octets (length body) body ∷ [])) - 6 =
    length-after address body six in
    ap (λ (k : ℕ). octets 6 [] ∷ octets k [] ∷ []) len
  where
    length-after : (address body : List ℕ) → length address ≡ 6 → length body ≡ length (spelled (octets 6 address ∷ octets (length body) body ∷ [])) - 6
    length-after address body six = omega (arith, length-append address (spelled (octets (length body) body ∷ [])), length-append body [])

has_row : (pdu : AdvPdu) → IsPdu pdu → HasRow pdu
unfolding row_of
has_row (Ind from ch_sel body) good = (body_shape from.octets body.items good.fits.0, refl)
has_row (Direct from to ch_sel) good = (refl, refl)
has_row (Nonconn from body) good = (body_shape from.octets body.items good.fits.0, refl)
has_row (ScanReq from to) good = (refl, refl)
has_row (ScanRsp from body) good = (body_shape from.octets body.items good.fits.0, refl)
has_row (Connect from to ch_sel fields) good =
    let hop : (fields.hop + 32 * fields.sca) % 32 ≡ fields.hop = omega (arith, good.bits.hop) in
    let sca : (fields.hop + 32 * fields.sca) / 32 ≡ fields.sca = omega (arith, good.bits.hop) in
    (refl, rw (hop, sca) refl)
has_row (ScanInd from body) good = (body_shape from.octets body.items good.fits.0, refl)

-- the header and the payload determine the PDU
pub pdu_is : (pdu other : AdvPdu) → IsPdu pdu → IsPdu other → type_of pdu ≡ type_of other → ch_sel_of pdu ≡ ch_sel_of other → tx_add_of pdu ≡ tx_add_of other → rx_add_of pdu ≡ rx_add_of other → spelled (payload_of pdu) ≡ spelled (payload_of other) → pdu ≡ other
pdu_is pdu other good other_good same_type same_ch_sel same_tx_add same_rx_add same_payload =
    let mine = has_row pdu good in
    let its = has_row other other_good in
    let same_row : own_row pdu ≡ own_row other = cc in
    let same_shape : spelling.shape (payload_of pdu) ≡ spelling.shape (payload_of other) = mine.0 ∙ ap (λ (row : Row). row.shape) same_row ∙ sym its.0 in
    let same_fields = fields_are (payload_of pdu) (payload_of other) same_shape good.fits other_good.fits same_payload in
    let built : (own_row pdu).pdu (payload_of pdu) ≡ (own_row other).pdu (payload_of other) = cc in
    sym mine.1 ∙ built ∙ its.1

pub type_small : (pdu : AdvPdu) → type_of pdu < 16
type_small (Ind from ch_sel body) = omega arith
type_small (Direct from to ch_sel) = omega arith
type_small (Nonconn from body) = omega arith
type_small (ScanReq from to) = omega arith
type_small (ScanRsp from body) = omega arith
type_small (Connect from to ch_sel fields) = omega arith
type_small (ScanInd from body) = omega arith

-- no bit is ignored of what is written
pub kept_own : (pdu : AdvPdu) → kept_bits (header_octet (type_of pdu) (ch_sel_of pdu) (tx_add_of pdu) (rx_add_of pdu)) ≡ header_octet (type_of pdu) (ch_sel_of pdu) (tx_add_of pdu) (rx_add_of pdu)
kept_own (Ind from ch_sel body) = kept_is 0 ch_sel from.random false (omega arith)
kept_own (Direct from to ch_sel) = kept_is 1 ch_sel from.random to.random (omega arith)
kept_own (Nonconn from body) = kept_is 2 false from.random false (omega arith)
kept_own (ScanReq from to) = kept_is 3 false from.random to.random (omega arith)
kept_own (ScanRsp from body) = kept_is 4 false from.random false (omega arith)
kept_own (Connect from to ch_sel fields) = kept_is 5 ch_sel from.random to.random (omega arith)
kept_own (ScanInd from body) = kept_is 6 false from.random false (omega arith)

body_total : (count : ℕ) → count ≡ 6 + (count - 6) → count - 6 < 32 → IsTrue (is_payload_length 0 count)
body_total count low high = grind (arith, nat_tests)

has_total : (pdu : AdvPdu) → IsPdu pdu → IsTrue (is_payload_length (type_of pdu) (total (payload_of pdu)))
has_total (Ind from ch_sel body) good = body_total (total (payload_of (Ind from ch_sel body))) (omega arith) (omega (arith, good.room))
has_total (Direct from to ch_sel) good = refl
has_total (Nonconn from body) good = body_total (total (payload_of (Nonconn from body))) (omega arith) (omega (arith, good.room))
has_total (ScanReq from to) good = refl
has_total (ScanRsp from body) good = body_total (total (payload_of (ScanRsp from body))) (omega arith) (omega (arith, good.room))
has_total (Connect from to ch_sel fields) good = refl
has_total (ScanInd from body) good = body_total (total (payload_of (ScanInd from body))) (omega arith) (omega (arith, good.room))

-- the payload has a length that the type may have
pub has_length : (pdu : AdvPdu) → IsPdu pdu → IsTrue (is_payload_length (type_of pdu) (length (spelled (payload_of pdu))))
has_length pdu good =
    subst (λ (count : ℕ). IsTrue (is_payload_length (type_of pdu) count)) (sym (length-spelled (payload_of pdu) good.fits)) (has_total pdu good)
