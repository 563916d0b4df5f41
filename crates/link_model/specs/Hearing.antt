-- A packet of one end, as the other end of the link hears it (Core 5.2, volume 6 part B, sections 2.4 and 4.5).
use Rattle.std.specs.Prelude.{◌≡◌, ◌<◌, ◌≤◌, ℕ, Bool, true, false, List, ◌++◌, length, Some, if◌then◌else◌}
use Rattle.data_pdu.specs.Header.{octets_of}
use Rattle.link_model.specs.Setup.{Setup}
use Rattle.link_model.specs.Acknowledgement.{Pdu}
use Rattle.link_model.specs.Facts.{Facts}
use Rattle.link_model.specs.Step.{Step, PacketReceived, PacketSent}
use Rattle.link_model.specs.Packets.{FitsReceiver, has_new_pdu, header_sent, payload_sent, pdu_read, pdu_sent}

-- the octets of the PDU in the packet that an end sends, with its payload as it is on the air
abbrev pub air_octets : Facts → List ℕ
air_octets sender = octets_of (header_sent sender) ++ payload_sent sender

-- what the other end reads as the body of that PDU: it opens a new one, and one that it accepted before it leaves as it is
abbrev pub body_read : Facts → Facts → List ℕ
body_read sender listener =
    if has_new_pdu listener (header_sent sender) then (pdu_sent sender).body else payload_sent sender

-- the octets of that PDU as the other end reads them
abbrev pub pdu_octets : Facts → Facts → List ℕ
pdu_octets sender listener = octets_of (header_sent sender) ++ body_read sender listener

-- the other end opens what is sealed
abbrev pub IsOpened : Facts → Facts → Type 0
IsOpened sender listener = pdu_read listener (air_octets sender) ≡ Some (pdu_octets sender listener)

-- the packet that an end sends is understood by the other end: both have the fields of one CONNECT_IND and are on one
-- channel, the header has room for the LLID and for the length, the payload is not longer than what that receives, and
-- it opens what is sealed
pub record IsUnderstood (from : Setup) (sender : Facts) (to : Setup) (listener : Facts) : Type 0 where
  pub fields : from.link.fields ≡ to.link.fields
  pub channel : sender.event.channel ≡ listener.event.channel
  pub llid : (pdu_sent sender).llid < 4
  pub octets : length (payload_sent sender) ≤ 255
  pub fits : FitsReceiver sender to listener
  pub opens : IsOpened sender listener

-- the PDU that is read in these octets
abbrev pub pdu_heard : Facts → Facts → Pdu
pdu_heard sender listener = record { llid = (pdu_sent sender).llid; body = body_read sender listener }

-- a step in which the end sends or receives a packet
abbrev pub is_on_air : Step → Bool
is_on_air (PacketSent slot) = true
is_on_air (PacketReceived slot octets room) = true
is_on_air other = false
