-- The packets of one end of a link: what it sends, and its verdict on what reaches it (Core 5.2, volume 6 part B,
-- sections 2.1, 2.4 and 4.5).
use Rattle.std.specs.Prelude.{ℕ, ◌≤◌, ◌+◌, ◌&&◌, not, Bool, false, List, ◌++◌, length, Option, Some, None, is_none, if◌then◌else◌}
use Rattle.ble_base.specs.declared.verdicts.Verdict.{Verdict}
use Rattle.air_frame.specs.declared.Heard.{Heard}
use Rattle.air_frame.specs.Hearing.{heard_in}
use Rattle.air_frame.specs.Packet.{on_air}
use Rattle.data_pdu.specs.declared.header.DataHeader.{DataHeader}
use Rattle.data_pdu.specs.Header.{header_in, octets_of}
use Rattle.ack_bit.specs.AckBits.{header_of, is_new}
use Rattle.link_model.specs.Setup.{Setup}
use Rattle.link_model.specs.Acknowledgement.{Pdu, bits_of, is_acked}
use Rattle.link_model.specs.Data.{is_empty}
use Rattle.link_model.specs.Verdicts.{code_octets, pdu_of, verdict_by, whole_in}
use Rattle.link_model.specs.Payload.{opens_now, payload_made, read_pdu}
use Rattle.link_model.specs.Facts.{Facts}
use Rattle.link_model.specs.Controls.{pdu_fixed}

-- the PDU in the packet that it sends: the last one again until that is acknowledged, and then the fixed one (section
-- 4.5.9)
abbrev pub pdu_sent : Facts → Pdu
pdu_sent facts = if is_acked facts.acknowledgement then pdu_fixed facts else facts.acknowledgement.last

-- MD: a further PDU waited as the turn began, after the one that the packet carries. What the end takes in this turn
-- changes nothing of it (section 4.5.6; when it is looked at is our choice)
abbrev pub more_sent : Facts → Bool
more_sent facts =
    if is_acked facts.acknowledgement then facts.outgoing.more else facts.outgoing.more_again

-- the payload of that packet: it is made as the PDU is first sent, and the same octets are sent again (section 4.5.9)
abbrev pub payload_sent : Facts → List ℕ
payload_sent facts =
    if is_acked facts.acknowledgement then payload_made facts.encryption.end (pdu_fixed facts)
    else facts.outgoing.payload

-- the header of that packet (section 2.4)
abbrev pub header_sent : Facts → DataHeader
header_sent facts =
    header_of (bits_of facts.acknowledgement) (pdu_sent facts).llid (more_sent facts) (length (payload_sent facts))

-- the packet that it sends, on the channel of the event (section 2.1)
unfoldable pub packet_sent : Setup → Facts → List ℕ
packet_sent setup facts =
    on_air facts.event.channel setup.link.fields.access setup.link.fields.crc_init
    (octets_of (header_sent facts) ++ payload_sent facts)

-- what it hears on the channel of the event: its access address, and a CRC from its CRCInit (sections 2.1.2 and 3.1.1)
abbrev pub heard_of : Setup → Facts → List ℕ → Heard
heard_of setup facts octets =
    heard_in facts.event.channel setup.link.fields.access setup.link.fields.crc_init octets

-- the packet that an end sends fits the other end: its payload is not longer than what that receives (section 4.5.10)
abbrev pub FitsReceiver : Facts → Setup → Facts → Type 0
FitsReceiver sender to listener =
    length (payload_sent sender) ≤ to.link.max_rx + code_octets (opens_now listener.encryption.end) (pdu_sent sender)

-- ---- what it receives

abbrev pub has_new_pdu : Facts → DataHeader → Bool
has_new_pdu facts header = is_new (bits_of facts.acknowledgement) header

-- a new PDU that is not empty is opened as the phase says
abbrev pub counts_here : Facts → List ℕ → Bool
counts_here facts pdu = has_new_pdu facts (header_in pdu) && not (is_empty (pdu_of pdu))

-- the octets of the PDU of a whole packet, with its payload as it is on the air
unfoldable pub whole_pdu : Setup → Facts → List ℕ → Option (List ℕ)
whole_pdu setup facts octets =
    whole_in setup.link.max_rx (opens_now facts.encryption.end) (heard_of setup facts octets)

-- its payload is opened, if its integrity code is right
abbrev pub pdu_read : Facts → List ℕ → Option (List ℕ)
pdu_read facts pdu = read_pdu (counts_here facts pdu) facts.encryption.end pdu

abbrev pub pdu_read_in : Facts → Option (List ℕ) → Option (List ℕ)
pdu_read_in facts None = None
pdu_read_in facts (Some pdu) = pdu_read facts pdu

-- the octets of the PDU of a good packet, with its payload opened: a whole packet with a payload that is not too long, and
-- not forged
unfoldable pub good_pdu : Setup → Facts → List ℕ → Option (List ℕ)
good_pdu setup facts octets = pdu_read_in facts (whole_pdu setup facts octets)

-- the integrity code of a packet is wrong (section 5.1.3.1)
abbrev pub is_forged_pdu : Facts → List ℕ → Bool
is_forged_pdu facts pdu = is_none (pdu_read facts pdu)

abbrev pub is_forged_in : Facts → Option (List ℕ) → Bool
is_forged_in facts None = false
is_forged_in facts (Some pdu) = is_forged_pdu facts pdu

unfoldable pub is_forged : Setup → Facts → List ℕ → Bool
is_forged setup facts octets = is_forged_in facts (whole_pdu setup facts octets)

-- the verdict on octets (our choice): missed where they do not begin with the access address; broken where they are the
-- packet of no PDU, or where the payload is longer than what this end receives; forged where the integrity code is wrong;
-- else good
unfoldable pub verdict_of : Setup → Facts → List ℕ → Verdict
verdict_of setup facts octets =
    verdict_by setup.link.max_rx (opens_now facts.encryption.end) (is_forged_pdu facts) (heard_of setup facts octets)
