-- The PDUs of the advertising channels and their octets (Core 5.2, volume 6 part B, section 2.3).
use Rattle.std.specs.Prelude.{ℕ, ◌+◌, ◌*◌, ◌<◌, ◌≤◌, ◌^◌, Bool, false, List, [], ◌∷◌, length, Option, Some, None, ⊤}
use Rattle.ble_base.specs.declared.addresses.Address.{Address}
use Rattle.wire_fields.specs.Field.{Field, number, octets, spelled, AllFit}
use Rattle.adv_pdu.specs.declared.pdu.ConnectFields.{ConnectFields}
use Rattle.adv_pdu.specs.declared.pdu.AdvPdu.{AdvPdu}
use Rattle.adv_pdu.specs.declared.pdu.AdvPdu.TheVariants.{Ind, Direct, Nonconn, ScanReq, ScanRsp, Connect, ScanInd}
use Rattle.adv_pdu.specs.Header.{header_octet}

-- the PDU type
abbrev pub type_of : AdvPdu → ℕ
type_of (Ind from ch_sel body) = 0
type_of (Direct from to ch_sel) = 1
type_of (Nonconn from body) = 2
type_of (ScanReq from to) = 3
type_of (ScanRsp from body) = 4
type_of (Connect from to ch_sel fields) = 5
type_of (ScanInd from body) = 6

-- ChSel, 0 where the type has none
abbrev pub ch_sel_of : AdvPdu → Bool
ch_sel_of (Ind from ch_sel body) = ch_sel
ch_sel_of (Direct from to ch_sel) = ch_sel
ch_sel_of (Connect from to ch_sel fields) = ch_sel
ch_sel_of other = false

-- the address of the sender
abbrev pub sender_of : AdvPdu → Address
sender_of (Ind from ch_sel body) = from
sender_of (Direct from to ch_sel) = from
sender_of (Nonconn from body) = from
sender_of (ScanReq from to) = from
sender_of (ScanRsp from body) = from
sender_of (Connect from to ch_sel fields) = from
sender_of (ScanInd from body) = from

-- the address of the device that the PDU is for, where the type has one
abbrev pub target_of : AdvPdu → Option Address
target_of (Direct from to ch_sel) = Some to
target_of (ScanReq from to) = Some to
target_of (Connect from to ch_sel fields) = Some to
target_of other = None

-- the advertising or scan response data, where the type has some
abbrev pub body_of : AdvPdu → Option (List ℕ)
body_of (Ind from ch_sel body) = Some body.items
body_of (Nonconn from body) = Some body.items
body_of (ScanRsp from body) = Some body.items
body_of (ScanInd from body) = Some body.items
body_of other = None

-- the LLData of a CONNECT_IND
abbrev pub link_of : AdvPdu → Option ConnectFields
link_of (Connect from to ch_sel fields) = Some fields
link_of other = None

-- TxAdd: the address of the sender is random
abbrev pub tx_add_of : AdvPdu → Bool
tx_add_of pdu = (sender_of pdu).random

-- RxAdd: the address of the device that the PDU is for is random; 0 where the type has none
abbrev pub rx_add_of : AdvPdu → Bool
rx_add_of (Direct from to ch_sel) = to.random
rx_add_of (ScanReq from to) = to.random
rx_add_of (Connect from to ch_sel fields) = to.random
rx_add_of other = false

-- the fields of the LLData of a CONNECT_IND; Hop is in the 5 low bits of the last octet, and SCA in the
-- 3 high bits (Core 5.2, volume 6 part B, section 2.3.3.1)
abbrev pub link_fields_of : ConnectFields → List Field
link_fields_of fields =
    number 4 fields.access ∷ number 3 fields.crc_init ∷ number 1 fields.win_size ∷ number 2 fields.win_offset ∷
    number 2 fields.interval ∷ number 2 fields.latency ∷ number 2 fields.timeout ∷ number 5 fields.map ∷
    number 1 (fields.hop + 32 * fields.sca) ∷ []

-- the payload: the sender's address first (Core 5.2, volume 6 part B, sections 2.3.1 to 2.3.3)
abbrev pub payload_of : AdvPdu → List Field
payload_of (Ind from ch_sel body) = octets 6 from.octets ∷ octets (length body.items) body.items ∷ []
payload_of (Direct from to ch_sel) = octets 6 from.octets ∷ octets 6 to.octets ∷ []
payload_of (Nonconn from body) = octets 6 from.octets ∷ octets (length body.items) body.items ∷ []
payload_of (ScanReq from to) = octets 6 from.octets ∷ octets 6 to.octets ∷ []
payload_of (ScanRsp from body) = octets 6 from.octets ∷ octets (length body.items) body.items ∷ []
payload_of (Connect from to ch_sel fields) = octets 6 from.octets ∷ octets 6 to.octets ∷ link_fields_of fields
payload_of (ScanInd from body) = octets 6 from.octets ∷ octets (length body.items) body.items ∷ []

-- the whole PDU: the header, which has the number of octets of the payload in its second octet, and the payload
abbrev pub written : AdvPdu → List ℕ
written pdu =
    header_octet (type_of pdu) (ch_sel_of pdu) (tx_add_of pdu) (rx_add_of pdu) ∷
    length (spelled (payload_of pdu)) ∷ spelled (payload_of pdu)

-- the fields that have fewer bits than their types
pub record IsWithinBits (fields : ConnectFields) : Type 0 where
  pub crc_init : fields.crc_init < 2 ^ 24
  pub map : fields.map < 2 ^ 40
  pub hop : fields.hop < 32
  pub sca : fields.sca < 8

-- the fields of a CONNECT_IND fit their bits
abbrev pub FitsBits : AdvPdu → Type 0
FitsBits (Connect from to ch_sel fields) = IsWithinBits fields
FitsBits other = ⊤

-- there are at most 31 octets of advertising data
abbrev pub HasRoom : AdvPdu → Type 0
HasRoom (Ind from ch_sel body) = length body.items ≤ 31
HasRoom (Nonconn from body) = length body.items ≤ 31
HasRoom (ScanRsp from body) = length body.items ≤ 31
HasRoom (ScanInd from body) = length body.items ≤ 31
HasRoom other = ⊤

-- each field is one that its place in the PDU can hold
pub record IsPdu (pdu : AdvPdu) : Type 0 where
  pub fits : AllFit (payload_of pdu)
  pub room : HasRoom pdu
  pub bits : FitsBits pdu
