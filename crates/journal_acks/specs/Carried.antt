-- What a packet of a link carries (Core 5.2, volume 6 part B, sections 2.1, 2.4 and 4.5.9).
use Rattle.std.specs.Prelude.{◌≡◌, ℕ, ◌==◌, ◌&&◌, Bool, false, List, [], ◌∷◌, ◌++◌, fold, length, Option, Some, None, if◌then◌else◌}
use Rattle.ble_base.specs.declared.roles.Side.{Side}
use Rattle.ack_bit.specs.AckBits.{AckBits, header_of, is_odd}
use Rattle.air_frame.specs.Packet.{on_air}
use Rattle.data_pdu.specs.Header.{octets_of}
use Rattle.journal_packets.specs.link_model.Acknowledgement.{Pdu, empty_pdu}
use Rattle.journal_packets.specs.link_model.Data.{is_empty}
use Rattle.journal.specs.declared.entries.Entry.{Entry}
use Rattle.journal.specs.declared.entries.Entry.TheVariants.{Enter, Sent}
use Rattle.journal_packets.specs.run_laws.Ranges.{IsPayload}
use Rattle.journal_packets.specs.journal_links.Begun.{LinkBegun, link_numbered}
use Rattle.journal_packets.specs.Belonging.{is_side, link_of_packet}
use Rattle.journal_acks.specs.Exchange.{Exchanged, exchange_of}

-- the channel of the event that a side entered last on a link
abbrev pub channel_after : ℕ → Side → Option ℕ → Entry → Option ℕ
channel_after number side before (Enter other link event channel) =
    if is_side other side && link == number then Some channel else before
channel_after number side before _ = before

unfoldable pub channel_entered : ℕ → Side → List Entry → Option ℕ
channel_entered number side front = fold (channel_after number side) None front

-- ---- which PDU a packet carries

-- the line of a new PDU that is not empty, and how many PDUs of its side were acknowledged before it
pub record SentLine : Type 0 where
  pub pdu : Pdu
  pub acked : ℕ

-- the last such line of a side on a link, after an entry that comes after these
abbrev pub sent_line_after : ℕ → List Entry → Side → Option SentLine → Entry → Option SentLine
sent_line_after number front side before (Sent other link count llid body) =
    if is_side other side && link == number
    then Some (record {
      pdu = record { llid = llid; body = body };
      acked = (exchange_of number front side).acked;
    })
    else before
sent_line_after number front side before _ = before

abbrev pub sent_line_from : ℕ → List Entry → Side → Option SentLine → List Entry → Option SentLine
sent_line_from number front side before [] = before
sent_line_from number front side before (entry ∷ entries) =
    sent_line_from number (front ++ entry ∷ []) side (sent_line_after number front side before entry) entries

unfoldable pub sent_line_of : ℕ → List Entry → Side → Option SentLine
sent_line_of number journal side = sent_line_from number [] side None journal

-- the PDU of that line, until a PDU of its side is acknowledged; and an empty one where there is none
abbrev pub pdu_carried : Option SentLine → ℕ → Pdu
pdu_carried None acked = empty_pdu
pdu_carried (Some line) acked = if line.acked == acked then line.pdu else empty_pdu

-- the PDU in a packet of a link that a side sends after these entries
abbrev pub carried_of : ℕ → List Entry → Side → Pdu
carried_of number front side = pdu_carried (sent_line_of number front side) (exchange_of number front side).acked

-- ---- the packet

-- SN is the number of its acknowledged PDUs, and NESN that of the PDUs that it accepted, both modulo 2
abbrev pub bits_of : Exchanged → AckBits
bits_of end = record { sn = is_odd end.acked; nesn = is_odd end.accepted }

-- the octets of a PDU with these bits, this LLID, this MD and this payload on the air
abbrev pub air_pdu : AckBits → ℕ → Bool → List ℕ → List ℕ
air_pdu bits llid md payload = octets_of (header_of bits llid md (length payload)) ++ payload

-- and of one whose payload on the air is its body
abbrev pub pdu_octets : AckBits → Bool → Pdu → List ℕ
pdu_octets bits md pdu = air_pdu bits pdu.llid md pdu.body

-- a packet that a side sends after these entries is of this link, on the channel of the event that it is in. It has the
-- access address and CRCInit of the CONNECT_IND, and carries the PDU and the bits that the lines before it give, the PDU
-- in clear or sealed
pub record IsLinkPacket (front : List Entry) (side : Side) (channel : ℕ) (octets : List ℕ) : Type 0 where
  pub number : ℕ
  pub belongs : link_of_packet front side octets ≡ Some number
  pub link : LinkBegun
  pub is_link : link_numbered number front ≡ Some link
  pub in_event : channel_entered number side front ≡ Some channel
  pub md : Bool
  pub payload : List ℕ
  pub carries : octets
      ≡ on_air channel link.fields.access link.fields.crc_init
      (air_pdu (bits_of (exchange_of number front side)) (carried_of number front side).llid md payload)
  pub is_payload : IsPayload (carried_of number front side) payload

-- a PDU that a side sends as a new one after these entries is not empty, and all that it sent before are acknowledged
pub record IsNewPdu (number : ℕ) (front : List Entry) (side : Side) (pdu : Pdu) : Type 0 where
  pub all_acked : (exchange_of number front side).acked ≡ (exchange_of number front side).sent
  pub not_empty : is_empty pdu ≡ false
