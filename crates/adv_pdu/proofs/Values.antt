-- The PDU that octets are, by its definition.
use Rattle.std.proofs.Common.{◌≡◌, ℕ, suc, ◌+◌, ◌*◌, ◌/◌, ◌%◌, ◌<◌, ◌^◌, ◌==◌, ◌&&◌, Bool, true, false, IsTrue, Option, Some, None, List, [], ◌∷◌, ◌++◌, length, take, drop, slice_index, get_or, refl, ap, sym, subst, ◌∙◌, drop-drop, arith}
use Rattle.std.proofs.lemmas.Bool.{eqb-true}
use Rattle.std.proofs.lemmas.Bool.Decides.{nat_tests}
use Rattle.std.proofs.lemmas.List.{drop_at, get_or-drop, take_at}
use Rattle.wire_fields.specs.Field.{little_endian, spelled, AllFit, number_of}
use Rattle.wire_fields.proofs.LittleEndian.{length-little_endian, number_of-little_endian}
use Rattle.wire_fields.proofs.Spelling.{octet_then}
use Rattle.adv_pdu.specs.declared.pdu.ConnectFields.{ConnectFields}
use Rattle.adv_pdu.specs.declared.pdu.AdvPdu.{AdvPdu}
use Rattle.adv_pdu.specs.declared.pdu.AdvPdu.TheVariants.{Ind, Direct, Nonconn, ScanReq, ScanRsp, Connect, ScanInd}
use Rattle.adv_pdu.specs.Header.{header_octet}
use Rattle.ble_base.specs.Bits.{has_bit}
use Rattle.adv_pdu.specs.Pdu.{type_of, ch_sel_of, tx_add_of, rx_add_of, link_fields_of, payload_of, written, IsPdu, IsWithinBits}
use Rattle.adv_pdu.specs.Reading.{is_payload_length, is_adv_pdu, link_in, number_at, pdu_of_type, read_of, HasPacket, IsPacket, IsReading, Spells}
use Rattle.adv_pdu.proofs.Octets.{has_parts, packet_of_pdu, written_kept}
use Rattle.adv_pdu.proofs.Places.{reading_is}
use Rattle.adv_pdu.proofs.Rows.{kept_own}

-- ---- octets that are a PDU

all_hold : (long counted fits : Bool) → (long && counted && fits) ≡ true → (counted ≡ true) × (fits ≡ true)
all_hold true true fits holds = (refl, holds)
all_hold true false fits holds = absurd cc
all_hold false counted fits holds = absurd cc

packet_is_pdu : (octets : List ℕ) (first : ℕ) (payload : List ℕ) → IsPacket octets first payload → is_adv_pdu octets ≡ true
packet_is_pdu octets first payload packet =
    subst (λ (xs : List ℕ). is_adv_pdu xs ≡ true) (sym packet.whole)
    (let len : IsTrue (is_payload_length (first % 16) (length payload)) = packet.len in rw len (grind (arith, nat_tests)))

counted : (n count : ℕ) → suc (suc n) ≡ 2 + count → count ≡ n
counted n count same = omega arith

pdu_has_packet : (octets : List ℕ) → is_adv_pdu octets ≡ true → HasPacket octets
pdu_has_packet [] holds = absurd cc
pdu_has_packet (first ∷ []) holds = absurd cc
pdu_has_packet (first ∷ count ∷ payload) holds =
    let parts : ((length (first ∷ count ∷ payload) == 2 + count) ≡ true) × (is_payload_length (first % 16) count ≡ true) = all_hold _ _ _ holds in
    let len = counted (length payload) count (eqb-true _ _ parts.0) in (
      first,
      payload,
      record { whole = ap (λ (n : ℕ). first ∷ n ∷ payload) len; len = subst (λ (n : ℕ). IsTrue (is_payload_length (first % 16) n)) len parts.1 },
    )

not_true : (b : Bool) → (b ≡ true → ⊥) → b ≡ false
not_true true fails = absurd (fails refl)
not_true false fails = refl

pub none_is_read : (octets : List ℕ) → (HasPacket octets → ⊥) → ◌≡◌ {A = Option AdvPdu} None (read_of octets)
unfolding read_of
none_is_read octets none =
    rw (not_true (is_adv_pdu octets) (λ holds. none (pdu_has_packet octets holds))) refl

-- ---- numbers

-- a number at a place, and what is after it
first_number : (count x place : ℕ) (octets rest : List ℕ) → x < 256 ^ count → drop place octets ≡ little_endian count x ++ rest
    → (number_at place count octets ≡ x) × (drop (place + count) octets ≡ rest)
first_number count x place octets rest fits is = (
  ap (λ (xs : List ℕ). number_of (take count xs)) is ∙ ap number_of (take_at (little_endian count x) rest count (length-little_endian count x)) ∙ number_of-little_endian count x fits,
  sym (drop-drop count place octets) ∙ ap (drop count) is ∙ drop_at (little_endian count x) rest count (length-little_endian count x),
)

-- the octet at a place, by the octets from there on
octet_at : (x place : ℕ) (octets rest : List ℕ) → x < 256 → drop place octets ≡ little_endian 1 x ++ rest → slice_index octets place ≡ x
octet_at x place octets rest small is =
    let same : place ≡ place + 0 = omega arith in
    ap (λ (n : ℕ). get_or octets n 0) same ∙ sym (get_or-drop place octets 0 0) ∙ ap (λ (xs : List ℕ). get_or xs 0 0) (is ∙ octet_then x rest small)

-- ---- the LLData

hop_in : (octet hop sca : ℕ) → hop < 32 → octet ≡ hop + 32 * sca → octet % 32 ≡ hop
hop_in octet hop sca small is = omega (arith, is)

sca_in : (octet hop sca : ℕ) → hop < 32 → octet ≡ hop + 32 * sca → octet / 32 ≡ sca
sca_in octet hop sca small is = omega (arith, is)

link_is : (octets : List ℕ) (fields : ConnectFields) → IsWithinBits fields → AllFit (link_fields_of fields)
    → spelled (link_fields_of fields) ≡ drop 14 octets → fields ≡ link_in octets
link_is octets fields bits fits is =
    let access = first_number 4 fields.access 14 octets _ fits.0 (sym is) in
    let crc_init = first_number 3 fields.crc_init 18 octets _ fits.1.0 access.1 in
    let win_size = first_number 1 fields.win_size 21 octets _ fits.1.1.0 crc_init.1 in
    let win_offset = first_number 2 fields.win_offset 22 octets _ fits.1.1.1.0 win_size.1 in
    let interval = first_number 2 fields.interval 24 octets _ fits.1.1.1.1.0 win_offset.1 in
    let latency = first_number 2 fields.latency 26 octets _ fits.1.1.1.1.1.0 interval.1 in
    let timeout = first_number 2 fields.timeout 28 octets _ fits.1.1.1.1.1.1.0 latency.1 in
    let map = first_number 5 fields.map 30 octets _ fits.1.1.1.1.1.1.1.0 timeout.1 in
    let last : slice_index octets 35 ≡ fields.hop + 32 * fields.sca = octet_at (fields.hop + 32 * fields.sca) 35 octets [] fits.1.1.1.1.1.1.1.1.0 map.1 in
    let hop = hop_in _ fields.hop fields.sca bits.hop last in
    let sca = sca_in _ fields.hop fields.sca bits.hop last in
    let window = octet_at fields.win_size 21 octets _ fits.1.1.0 crc_init.1 in
    λ i. record {
      access = sym access.0 i;
      crc_init = sym crc_init.0 i;
      win_size = sym window i;
      win_offset = sym win_offset.0 i;
      interval = sym interval.0 i;
      latency = sym latency.0 i;
      timeout = sym timeout.0 i;
      map = sym map.0 i;
      hop = sym hop i;
      sca = sym sca i;
    }

-- ---- each type

of_type : (octets : List ℕ) (kind : ℕ) (found : Option AdvPdu) → is_adv_pdu octets ≡ true → kind ≡ slice_index octets 0 % 16
    → found ≡ pdu_of_type kind octets → found ≡ read_of octets
unfolding read_of
of_type octets kind found whole is same = rw (whole, ← is) same

reading_tells : (octets : List ℕ) (pdu : AdvPdu) → IsPdu pdu → is_adv_pdu octets ≡ true → IsReading octets pdu → Some pdu ≡ read_of octets
reading_tells octets (Ind from ch_sel body) good whole is =
    of_type octets 0 _ whole is.kind
    (λ i. Some (Ind (record { random = is.sender.is_random i; octets = is.sender.octets_are i }) (is.ch_sel i) (record { items = is.body i })))
reading_tells octets (Direct from to ch_sel) good whole is =
    of_type octets 1 _ whole is.kind
    (λ i. Some (Direct (record { random = is.sender.is_random i; octets = is.sender.octets_are i }) (record { random = is.target.is_random i; octets = is.target.octets_are i }) (is.ch_sel i)))
reading_tells octets (Nonconn from body) good whole is =
    of_type octets 2 _ whole is.kind
    (λ i. Some (Nonconn (record { random = is.sender.is_random i; octets = is.sender.octets_are i }) (record { items = is.body i })))
reading_tells octets (ScanReq from to) good whole is =
    of_type octets 3 _ whole is.kind
    (λ i. Some (ScanReq (record { random = is.sender.is_random i; octets = is.sender.octets_are i }) (record { random = is.target.is_random i; octets = is.target.octets_are i })))
reading_tells octets (ScanRsp from body) good whole is =
    of_type octets 4 _ whole is.kind
    (λ i. Some (ScanRsp (record { random = is.sender.is_random i; octets = is.sender.octets_are i }) (record { items = is.body i })))
reading_tells octets (Connect from to ch_sel fields) good whole is =
    let link = link_is octets fields good.bits good.fits.1.1 is.link in
    of_type octets 5 _ whole is.kind
    (λ i. Some (Connect (record { random = is.sender.is_random i; octets = is.sender.octets_are i }) (record { random = is.target.is_random i; octets = is.target.octets_are i }) (is.ch_sel i) (link i)))
reading_tells octets (ScanInd from body) good whole is =
    of_type octets 6 _ whole is.kind
    (λ i. Some (ScanInd (record { random = is.sender.is_random i; octets = is.sender.octets_are i }) (record { items = is.body i })))

-- what was read is what the octets say
pub value_is : (octets : List ℕ) (pdu : AdvPdu) → IsPdu pdu → HasPacket octets → IsReading octets pdu → Some pdu ≡ read_of octets
value_is octets pdu good packet is = reading_tells octets pdu good (packet_is_pdu octets packet.0 packet.1 packet.2) is

-- what is written says the PDU
pub written_is_read : (pdu : AdvPdu) → IsPdu pdu → read_of (written pdu) ≡ Some pdu
written_is_read pdu good =
    let first = header_octet (type_of pdu) (ch_sel_of pdu) (tx_add_of pdu) (rx_add_of pdu) in
    let parts = has_parts first pdu (kept_own pdu) in
    let spells : Spells pdu (first % 16) (has_bit first 5) (has_bit first 6) (has_bit first 7) (spelled (payload_of pdu)) = record {
      kind_is = sym parts.0;
      ch_sel_is = sym parts.1;
      tx_add_is = sym parts.2;
      rx_add_is = sym parts.3;
      payload_is = refl;
      is_pdu = good;
    } in
    sym (value_is (written pdu) pdu good (packet_of_pdu (written pdu) pdu good (written_kept pdu)) (reading_is pdu first (spelled (payload_of pdu)) spells))
