-- The parts of a PDU by their places in its octets.
use Prim.{tt}
use Rattle.std.proofs.Common.{◌≡◌, ℕ, ◌%◌, ◌&&◌, List, [], ◌∷◌, ◌++◌, length, take, drop, IfSome, sym, ap, subst, ◌∙◌, append-nil, drop-drop}
use Rattle.std.proofs.lemmas.List.{drop_at, take_at}
use Rattle.wire_fields.specs.Field.{spelled}
use Rattle.adv_pdu.specs.declared.pdu.AdvPdu.{AdvPdu}
use Rattle.adv_pdu.specs.declared.pdu.AdvPdu.TheVariants.{Ind, Direct, Nonconn, ScanReq, ScanRsp, Connect, ScanInd}
use Rattle.adv_pdu.specs.Header.{has_ch_sel, has_rx_add}
use Rattle.ble_base.specs.Bits.{has_bit}
use Rattle.adv_pdu.specs.Pdu.{type_of, ch_sel_of, sender_of, target_of, body_of, link_of, rx_add_of, payload_of, link_fields_of, IsPdu}
use Rattle.adv_pdu.specs.Reading.{IsAddressAt, IsPacket, IsReading, Spells}

one_address : (address body : List ℕ) → length address ≡ 6
    → (address ≡ take 6 (address ++ (body ++ []))) × (body ≡ drop 6 (address ++ (body ++ [])))
one_address address body six =
    (sym (take_at address (body ++ []) 6 six), sym (drop_at address (body ++ []) 6 six ∙ append-nil body))

two_addresses : (address other rest : List ℕ) → length address ≡ 6 → length other ≡ 6
    → (address ≡ take 6 (address ++ (other ++ rest))) × (other ≡ take 6 (drop 6 (address ++ (other ++ rest)))) × (rest ≡ drop 12 (address ++ (other ++ rest)))
two_addresses address other rest six other_six =
    let after : drop 6 (address ++ (other ++ rest)) ≡ other ++ rest = drop_at address (other ++ rest) 6 six in (
      sym (take_at address (other ++ rest) 6 six),
      sym (ap (take 6) after ∙ take_at other rest 6 other_six),
      sym (sym (drop-drop 6 6 (address ++ (other ++ rest))) ∙ ap (drop 6) after ∙ drop_at other rest 6 other_six),
    )

-- the addresses, the data and the LLData by their places in the octets
abbrev HasPlaces : List ℕ → AdvPdu → Type 0
HasPlaces octets pdu =
    ((sender_of pdu).octets ≡ take 6 (drop 2 octets)) × IfSome (target_of pdu) (IsAddressAt octets 8 7) × IfSome (body_of pdu) (λ items. items ≡ drop 8 octets) × IfSome (link_of pdu) (λ fields. spelled (link_fields_of fields) ≡ drop 14 octets)

has_places : (pdu : AdvPdu) (first count : ℕ) → IsPdu pdu → rx_add_of pdu ≡ (has_rx_add (type_of pdu) && has_bit first 7) → HasPlaces (first ∷ count ∷ spelled (payload_of pdu)) pdu
has_places (Ind from ch_sel body) first count good same =
    let at = one_address from.octets body.items good.fits.0 in (at.0, tt, at.1, tt)
has_places (Direct from to ch_sel) first count good same =
    let at = two_addresses from.octets to.octets [] good.fits.0 good.fits.1.0 in
    (at.0, record { octets_are = at.1; is_random = same }, tt, tt)
has_places (Nonconn from body) first count good same =
    let at = one_address from.octets body.items good.fits.0 in (at.0, tt, at.1, tt)
has_places (ScanReq from to) first count good same =
    let at = two_addresses from.octets to.octets [] good.fits.0 good.fits.1.0 in
    (at.0, record { octets_are = at.1; is_random = same }, tt, tt)
has_places (ScanRsp from body) first count good same =
    let at = one_address from.octets body.items good.fits.0 in (at.0, tt, at.1, tt)
has_places (Connect from to ch_sel fields) first count good same =
    let at = two_addresses from.octets to.octets (spelled (link_fields_of fields)) good.fits.0 good.fits.1.0 in
    (at.0, record { octets_are = at.1; is_random = same }, tt, at.2)
has_places (ScanInd from body) first count good same =
    let at = one_address from.octets body.items good.fits.0 in (at.0, tt, at.1, tt)

pub reading_is : (pdu : AdvPdu) (first : ℕ) (payload : List ℕ) → Spells pdu (first % 16) (has_bit first 5) (has_bit first 6) (has_bit first 7) payload → IsReading (first ∷ length payload ∷ payload) pdu
reading_is pdu first payload spells =
    let rx_add : rx_add_of pdu ≡ (has_rx_add (type_of pdu) && has_bit first 7) =
    subst (λ (kind : ℕ). rx_add_of pdu ≡ (has_rx_add kind && has_bit first 7)) (sym spells.kind_is) spells.rx_add_is in
    let at : HasPlaces (first ∷ length payload ∷ payload) pdu =
    subst (λ (octets : List ℕ). HasPlaces (first ∷ length payload ∷ octets) pdu) spells.payload_is (has_places pdu first (length payload) spells.is_pdu rx_add) in
    record {
      kind = spells.kind_is;
      ch_sel = subst (λ (kind : ℕ). ch_sel_of pdu ≡ (has_ch_sel kind && has_bit first 5)) (sym spells.kind_is) spells.ch_sel_is;
      sender = record { octets_are = at.0; is_random = spells.tx_add_is };
      target = at.1;
      body = at.2;
      link = at.3;
    }

-- what was read is made of the parts at these places
pub read_is_reading : (octets : List ℕ) (pdu : AdvPdu) (first : ℕ) (payload : List ℕ) → IsPacket octets first payload → Spells pdu (first % 16) (has_bit first 5) (has_bit first 6) (has_bit first 7) payload → IsReading octets pdu
read_is_reading octets pdu first payload packet spells =
    subst (λ (octets : List ℕ). IsReading octets pdu) (sym packet.whole) (reading_is pdu first payload spells)
