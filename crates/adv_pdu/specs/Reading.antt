-- Which octets are an advertising channel PDU (Core 5.2, volume 6 part B, section 2.3).
use Rattle.std.specs.Prelude.{◌≡◌, ℕ, ◌+◌, ◌/◌, ◌%◌, ◌==◌, ◌&&◌, ◌||◌, Bool, List, ◌∷◌, length, take, drop, slice_index, nat_le, Option, Some, None, IfSome, IsTrue, if◌then◌else◌}
use Rattle.ble_base.specs.declared.addresses.Address.{Address}
use Rattle.wire_fields.specs.Field.{number_of, spelled}
use Rattle.adv_pdu.specs.declared.pdu.ConnectFields.{ConnectFields}
use Rattle.adv_pdu.specs.declared.pdu.AdvPdu.{AdvPdu}
use Rattle.adv_pdu.specs.declared.pdu.AdvPdu.TheVariants.{Ind, Direct, Nonconn, ScanReq, ScanRsp, Connect, ScanInd}
use Rattle.adv_pdu.specs.Header.{has_ch_sel, has_rx_add}
use Rattle.ble_base.specs.Bits.{has_bit}
use Rattle.adv_pdu.specs.Pdu.{type_of, ch_sel_of, sender_of, target_of, body_of, link_of, tx_add_of, rx_add_of, payload_of, link_fields_of, IsPdu}

-- the number of octets of payload that each type may have: one address and up to 31 octets, two addresses, or these
-- and the 22 octets of the LLData; types from 7 up are not these PDUs
abbrev pub is_payload_length : ℕ → ℕ → Bool
is_payload_length kind count =
    if kind == 5 then count == 34
    else if (kind == 1) || (kind == 3) then count == 12
    else nat_le kind 6 && nat_le 6 count && nat_le count 37

-- the octets are the header and the payload of a PDU: the second octet is the number of octets after it
pub record IsPacket (octets : List ℕ) (first : ℕ) (payload : List ℕ) : Type 0 where
  pub whole : octets ≡ first ∷ length payload ∷ payload
  pub len : IsTrue (is_payload_length (first % 16) (length payload))

-- there are such a header and payload
abbrev pub HasPacket : List ℕ → Type 0
HasPacket octets = (first : ℕ) × (payload : List ℕ) × IsPacket octets first payload

-- the PDU has this type, these flags where the type has them, and this payload
pub record Spells (pdu : AdvPdu) (kind : ℕ) (ch_sel tx_add rx_add : Bool) (payload : List ℕ) : Type 0 where
  pub kind_is : type_of pdu ≡ kind
  pub ch_sel_is : ch_sel_of pdu ≡ (has_ch_sel kind && ch_sel)
  pub tx_add_is : tx_add_of pdu ≡ tx_add
  pub rx_add_is : rx_add_of pdu ≡ (has_rx_add kind && rx_add)
  pub payload_is : spelled (payload_of pdu) ≡ payload
  pub is_pdu : IsPdu pdu

-- the address is the six octets from this place on, and is random where this bit of the first octet is 1
pub record IsAddressAt (octets : List ℕ) (place bit : ℕ) (address : Address) : Type 0 where
  pub octets_are : address.octets ≡ take 6 (drop place octets)
  pub is_random : address.random ≡ has_bit (slice_index octets 0) bit

-- each part of the PDU is read from its place in the octets, the type and the flags from the first of them
pub record IsReading (octets : List ℕ) (pdu : AdvPdu) : Type 0 where
  pub kind : type_of pdu ≡ slice_index octets 0 % 16
  pub ch_sel : ch_sel_of pdu ≡ (has_ch_sel (type_of pdu) && has_bit (slice_index octets 0) 5)
  pub sender : IsAddressAt octets 2 6 (sender_of pdu)
  pub target : IfSome (target_of pdu) (IsAddressAt octets 8 7)
  pub body : IfSome (body_of pdu) (λ items. items ≡ drop 8 octets)
  pub link : IfSome (link_of pdu) (λ fields. spelled (link_fields_of fields) ≡ drop 14 octets)

-- ---- the PDU that octets are, part by part

-- the octets are a PDU: a header and the number of octets in its second octet, which a PDU of this type may have
abbrev pub is_adv_pdu : List ℕ → Bool
is_adv_pdu octets =
    nat_le 2 (length octets) && (length octets == 2 + slice_index octets 1)
    && is_payload_length (slice_index octets 0 % 16) (slice_index octets 1)

-- a flag of the header: this bit of the first octet
abbrev pub flag_at : ℕ → List ℕ → Bool
flag_at bit octets = has_bit (slice_index octets 0) bit

-- the address from this place on, random where this bit of the first octet is 1
abbrev pub address_at : ℕ → ℕ → List ℕ → Address
address_at place bit octets = record { random = flag_at bit octets; octets = take 6 (drop place octets) }

-- the address of the sender, with TxAdd, and the address after it, with RxAdd
abbrev pub sender_in : List ℕ → Address
sender_in octets = address_at 2 6 octets

abbrev pub target_in : List ℕ → Address
target_in octets = address_at 8 7 octets

-- the number of this many octets from this place on
abbrev pub number_at : ℕ → ℕ → List ℕ → ℕ
number_at place count octets = number_of (take count (drop place octets))

-- the LLData of a CONNECT_IND (section 2.3.3.1); Hop is in the 5 low bits of the last octet, and SCA in the 3 high bits
abbrev pub link_in : List ℕ → ConnectFields
link_in octets = record {
  access = number_at 14 4 octets;
  crc_init = number_at 18 3 octets;
  win_size = slice_index octets 21;
  win_offset = number_at 22 2 octets;
  interval = number_at 24 2 octets;
  latency = number_at 26 2 octets;
  timeout = number_at 28 2 octets;
  map = number_at 30 5 octets;
  hop = slice_index octets 35 % 32;
  sca = slice_index octets 35 / 32;
}

-- what the octets say as a PDU of this type (sections 2.3.1 to 2.3.3)
abbrev pub pdu_of_type : ℕ → List ℕ → Option AdvPdu
pdu_of_type kind octets =
    if kind == 0 then Some (Ind (sender_in octets) (flag_at 5 octets) (record { items = drop 8 octets }))
    else if kind == 1 then Some (Direct (sender_in octets) (target_in octets) (flag_at 5 octets))
    else if kind == 2 then Some (Nonconn (sender_in octets) (record { items = drop 8 octets }))
    else if kind == 3 then Some (ScanReq (sender_in octets) (target_in octets))
    else if kind == 4 then Some (ScanRsp (sender_in octets) (record { items = drop 8 octets }))
    else if kind == 5 then Some (Connect (sender_in octets) (target_in octets) (flag_at 5 octets) (link_in octets))
    else if kind == 6 then Some (ScanInd (sender_in octets) (record { items = drop 8 octets }))
    else None

-- the PDU that the octets are, the type in bits 0 to 3 of the first; none where they are no PDU of these types
unfoldable pub read_of : List ℕ → Option AdvPdu
read_of octets = if is_adv_pdu octets then pdu_of_type (slice_index octets 0 % 16) octets else None
