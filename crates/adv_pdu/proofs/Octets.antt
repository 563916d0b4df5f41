-- The octets of a PDU, the header and the payload apart.
use Rattle.std.proofs.Common.{◌≡◌, ℕ, ◌%◌, ◌<◌, ◌&&◌, List, [], ◌∷◌, ◌++◌, length, IsTrue, refl, sym, ap, subst, ◌∙◌, append_assoc, arith}
use Rattle.wire_fields.specs.Field.{little_endian, spelled}
use Rattle.wire_fields.proofs.Spelling.{octet_then}
use Rattle.adv_pdu.specs.declared.pdu.AdvPdu.{AdvPdu}
use Rattle.adv_pdu.specs.Header.{header_octet, has_ch_sel, has_rx_add, kept_bits, without_ignored_bits}
use Rattle.ble_base.specs.Bits.{has_bit}
use Rattle.adv_pdu.specs.Pdu.{type_of, ch_sel_of, tx_add_of, rx_add_of, payload_of, written, IsPdu}
use Rattle.adv_pdu.specs.Reading.{is_payload_length, IsPacket, HasPacket, Spells}
use Rattle.adv_pdu.proofs.Bits.{header_parts, kept_parts}
use Rattle.adv_pdu.proofs.Rows.{pdu_is, type_small, kept_own, has_length}

three_parts : (a b c n p q r : List ℕ) → n ≡ [] → p ≡ n ++ a → q ≡ p ++ b → r ≡ q ++ c → r ≡ a ++ (b ++ c)
three_parts a b c n p q r none first second third = third ∙ rw (second, first, none) (simp append_assoc)

-- two octets and others, one after another
pub two_and_others : (octet count : ℕ) (others n p q r : List ℕ) → octet < 256 → count < 256 → n ≡ [] → p ≡ n ++ little_endian 1 octet → q ≡ p ++ little_endian 1 count → r ≡ q ++ others → r ≡ octet ∷ count ∷ others
two_and_others octet count others n p q r small count_small none first second third =
    three_parts (little_endian 1 octet) (little_endian 1 count) others n p q r none first second third
    ∙ octet_then octet (little_endian 1 count ++ others) small
    ∙ ap (λ (rest : List ℕ). octet ∷ rest) (octet_then count others count_small)

-- what is left of an octet is the header of a PDU: the parts are the same
abbrev pub HasParts : ℕ → AdvPdu → Type 0
HasParts octet pdu =
    (octet % 16 ≡ type_of pdu) × ((has_ch_sel (octet % 16) && has_bit octet 5) ≡ ch_sel_of pdu) × (has_bit octet 6 ≡ tx_add_of pdu) × ((has_rx_add (octet % 16) && has_bit octet 7) ≡ rx_add_of pdu)

pub has_parts : (octet : ℕ) (pdu : AdvPdu) → kept_bits octet ≡ header_octet (type_of pdu) (ch_sel_of pdu) (tx_add_of pdu) (rx_add_of pdu) → HasParts octet pdu
has_parts octet pdu e =
    header_parts (octet % 16) (type_of pdu) _ _ _ _ _ _ (omega arith) (type_small pdu) (sym (kept_parts octet) ∙ e)

-- the octets of a PDU are a header and a payload
pub packet_of_pdu : (octets : List ℕ) (pdu : AdvPdu) → IsPdu pdu → without_ignored_bits octets ≡ written pdu → HasPacket octets
packet_of_pdu [] pdu good e = absurd cc
packet_of_pdu (first ∷ rest) pdu good e =
    let head : kept_bits first ≡ header_octet (type_of pdu) (ch_sel_of pdu) (tx_add_of pdu) (rx_add_of pdu) = cc in
    let tail : rest ≡ length (spelled (payload_of pdu)) ∷ spelled (payload_of pdu) = cc in (
      first,
      spelled (payload_of pdu),
      record {
        whole = ap (λ (octets : List ℕ). first ∷ octets) tail;
        len = subst (λ (kind : ℕ). IsTrue (is_payload_length kind (length (spelled (payload_of pdu))))) (sym (has_parts first pdu head).0) (has_length pdu good);
      },
    )

-- what is read is the PDU whose octets they are
pub read_is_pdu : (octets : List ℕ) (pdu : AdvPdu) (first : ℕ) (payload : List ℕ) → IsPacket octets first payload → Spells pdu (first % 16) (has_bit first 5) (has_bit first 6) (has_bit first 7) payload → IsPdu pdu × (without_ignored_bits octets ≡ written pdu)
read_is_pdu octets pdu first payload packet spells =
    let left : without_ignored_bits octets ≡ kept_bits first ∷ length payload ∷ payload = ap without_ignored_bits packet.whole in
    let right : kept_bits first ∷ length payload ∷ payload ≡ written pdu =
    rw (spells.kind_is, spells.ch_sel_is, spells.tx_add_is, spells.rx_add_is, spells.payload_is, kept_parts first) refl in
    (spells.is_pdu, left ∙ right)

-- and no other
pub read_is_only : (octets : List ℕ) (pdu other : AdvPdu) (first : ℕ) (payload : List ℕ) → IsPacket octets first payload → Spells pdu (first % 16) (has_bit first 5) (has_bit first 6) (has_bit first 7) payload → IsPdu other → without_ignored_bits octets ≡ written other → pdu ≡ other
read_is_only octets pdu other first payload packet spells good e =
    let whole : kept_bits first ∷ length payload ∷ payload ≡ written other = sym (ap without_ignored_bits packet.whole) ∙ e in
    let head : kept_bits first ≡ header_octet (type_of other) (ch_sel_of other) (tx_add_of other) (rx_add_of other) = cc in
    let same_payload : payload ≡ spelled (payload_of other) = cc in
    let parts = has_parts first other head in
    pdu_is pdu other spells.is_pdu good (spells.kind_is ∙ parts.0) (spells.ch_sel_is ∙ parts.1) (spells.tx_add_is ∙ parts.2) (spells.rx_add_is ∙ parts.3) (spells.payload_is ∙ same_payload)

-- what is written has no bit that is ignored
pub written_kept : (pdu : AdvPdu) → without_ignored_bits (written pdu) ≡ written pdu
written_kept pdu =
    ap (λ (octet : ℕ). octet ∷ length (spelled (payload_of pdu)) ∷ spelled (payload_of pdu)) (kept_own pdu)
