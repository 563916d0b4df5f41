-- How a host's octets divide into packets, in the words of the transport (Core 5.2, volume 4 part A, section 2).
-- Layouts of packets: volume 4 part E, sections 5.4.1 and 5.4.2. Recovery by an HCI_Reset: volume 4 part A, section 4;
-- that its octets may begin anywhere is our choice.
use Rattle.std.specs.Prelude.{◌≡◌, ℕ, ◌+◌, false, List, [], ◌∷◌, ◌++◌, length, take}
use Rattle.ble_base.specs.Limits.{payload_octets}
use Rattle.h4_frames.specs.declared.packet.HostPacket.{HostPacket}
use Rattle.h4_frames.specs.declared.packet.HostPacket.TheVariants.{Command, Acl}
use Rattle.h4_frames.specs.declared.packet.Fed.{Fed}
use Rattle.h4_frames.specs.declared.packet.Fed.TheVariants.{Packet, LostSync}
use Rattle.h4_frames.specs.Packets.{is_indicator, word_of, handle_of, is_start}
use Rattle.h4_frames.specs.Frames.{reset, reset_octets}

-- the packet is sent as these octets
pub data IsSentAs : HostPacket → List ℕ → Type 0 where
  -- indicator, opcode, the number of parameter octets, and these
  command : (low high count : ℕ) (parameters : List ℕ) → count ≡ length parameters
      → IsSentAs (Command (word_of low high) (record { items = parameters })) (0x01 ∷ low ∷ high ∷ count ∷ parameters)
  -- indicator, handle and flags, the number of data octets, and these; at most 251 of them are kept (our choice)
  acl : (low high count_low count_high : ℕ) (octets : List ℕ) → word_of count_low count_high ≡ length octets
      → IsSentAs (Acl (handle_of (word_of low high)) (is_start (word_of low high)) (word_of count_low count_high)
      (record { items = take payload_octets octets })) (0x02 ∷ low ∷ high ∷ count_low ∷ count_high ∷ octets)

-- 01 03 0C 00 is nowhere in these octets
abbrev pub HasNoReset : List ℕ → Type 0
HasNoReset octets = (front tail : List ℕ) → octets ≡ front ++ (reset_octets ++ tail) → ⊥

-- the octets after this place divide into these packets and losses, each with the place at which it ends
pub data IsFramed : ℕ → List ℕ → List (ℕ × Fed) → Type 0 where
  -- a packet, and the octets after it
  whole : (place : ℕ) (packet : HostPacket) (octets tail : List ℕ) (entries : List (ℕ × Fed)) → IsSentAs packet octets
      → IsFramed (place + length octets) tail entries
      → IsFramed place (octets ++ tail) ((place + length octets, Packet packet) ∷ entries)
  -- the front of a packet that lacks at least one octet
  begun : (place : ℕ) (packet : HostPacket) (octets : List ℕ) (octet : ℕ) (more : List ℕ)
      → IsSentAs packet (octets ++ octet ∷ more)
      → IsFramed place octets []
  -- an octet that is not an indicator, the first HCI_Reset after it, and the octets after that
  lost : (place octet : ℕ) (passed tail : List ℕ) (entries : List (ℕ × Fed)) → is_indicator octet ≡ false
      → HasNoReset (passed ++ 0x01 ∷ 0x03 ∷ 0x0C ∷ [])
      → IsFramed (place + 1 + (length passed + 4)) tail entries
      → IsFramed place (octet ∷ passed ++ (reset_octets ++ tail))
      ((place + 1, LostSync) ∷ (place + 1 + (length passed + 4), Packet reset) ∷ entries)
  -- an octet that is not an indicator, and no HCI_Reset after it
  searching : (place octet : ℕ) (passed : List ℕ) → is_indicator octet ≡ false → HasNoReset passed
      → IsFramed place (octet ∷ passed) ((place + 1, LostSync) ∷ [])
