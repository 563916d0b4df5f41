-- What two ends hear of each other in a turn (Core 5.2, volume 6 part B, sections 4.5.1 and 4.5.9).
use Rattle.std.specs.Prelude.{◌≡◌, ◌&&◌, not, ℕ, Bool, true, false, List, drop, Option, Some, None, is_some}
use Rattle.std.specs.Str.{bytes_eq}
use Rattle.data_pdu.specs.Header.{header_in}
use Rattle.link_model.specs.enc_phase.Phases.{seals}
use Rattle.link_model.specs.enc_phase.Sealing.{EncEnd}
use Rattle.link_model.specs.Acknowledgement.{Pdu}
use Rattle.link_model.specs.Setup.{Setup}
use Rattle.link_model.specs.Facts.{Facts}
use Rattle.link_model.specs.End.{facts_after}
use Rattle.link_model.specs.Packets.{counts_here, good_pdu, has_new_pdu, packet_sent, whole_pdu}
use Rattle.link_model.specs.Payload.{opens_now}
use Rattle.link_model.specs.Receiving.{replies_of}
use Rattle.link_model.specs.Step.{PacketReceived, PacketSent}
use Rattle.link_pairs.specs.Turns.{sent_if}

-- the peripheral receives octets and answers them, if it does
abbrev pub received : Setup → ℕ → List ℕ → Bool → Facts → Facts
received setup slot octets room facts = facts_after setup facts (PacketReceived slot octets room)

abbrev pub answered : Setup → ℕ → List ℕ → Bool → Facts → Facts
answered setup slot octets room facts =
    sent_if (replies_of setup facts slot octets room) setup slot (received setup slot octets room facts)

-- the packet of an end that has sent it in this slot: that of these facts, on their channel
pub record IsPacketOf (setup : Setup) (slot : ℕ) (facts : Facts) (channel : ℕ) (octets : List ℕ) : Type 0 where
  pub before : Facts
  pub sent : facts ≡ facts_after setup before (PacketSent slot)
  pub packet : octets ≡ packet_sent setup before
  pub on_channel : channel ≡ before.event.channel

-- the session key with which a PDU was sealed is that of its listener (section 5.1.3.1)
abbrev pub HaveOneKey : EncEnd → EncEnd → Type 0
HaveOneKey made listener = seals made.role made.phase ≡ true → made.key ≡ listener.key

-- ---- an end reads a new PDU with another body than was sent: the keys of both ends differ, and the integrity code is right
-- by chance (part E, section 2). Two ends are not followed from there on (our choice)

abbrev pub reads_other : Facts → Pdu → Option (List ℕ) → Bool
reads_other facts sent None = false
reads_other facts sent (Some pdu) = has_new_pdu facts (header_in pdu) && not (bytes_eq (drop 2 pdu) sent.body)

-- the octets of a packet with this PDU
unfoldable pub is_mixed : Setup → Facts → List ℕ → Pdu → Bool
is_mixed setup facts octets sent = reads_other facts sent (good_pdu setup facts octets)

-- ---- the same by what both ends have, where the packet of an end reaches the other unchanged

-- their session keys differ
abbrev pub has_other_keys : Facts → Facts → Bool
has_other_keys one other = not (bytes_eq one.encryption.end.key other.encryption.end.key)

-- the octets of a PDU, as it is on the air, bring one that is new, not empty and sealed
abbrev pub brings_sealed : Facts → Option (List ℕ) → Bool
brings_sealed listener None = false
brings_sealed listener (Some pdu) = opens_now listener.encryption.end && counts_here listener pdu

-- a packet is mixed for the listener, with what its sender holds after it: it brings a new PDU that is not empty and
-- sealed, and is good, though the session keys of both ends differ (part E, section 2)
unfoldable pub is_mixed_packet : Setup → Facts → Facts → List ℕ → Bool
is_mixed_packet to listener sender octets =
    is_some (good_pdu to listener octets)
    && (brings_sealed listener (whole_pdu to listener octets) && has_other_keys sender listener)
