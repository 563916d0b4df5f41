-- The packets of all octets that a host sent, and the loss of synchronisation. Packets: Core 5.2, volume 4 part A,
-- section 2. Recovery by an HCI_Reset: section 4; that its octets may begin anywhere is our choice.
use Rattle.std.specs.Prelude.{◌≡◌, ℕ, zero, suc, ◌+◌, nat_eq, if◌then◌else◌, List, [], ◌∷◌, ◌++◌, length, drop, Option, Some, None}
use Rattle.std.specs.List.{starts_with}
use Rattle.h4_frames.specs.declared.packet.HostPacket.{HostPacket}
use Rattle.h4_frames.specs.declared.packet.HostPacket.TheVariants.{Command}
use Rattle.h4_frames.specs.declared.packet.Fed.{Fed}
use Rattle.h4_frames.specs.declared.packet.Fed.TheVariants.{More, Packet, LostSync}
use Rattle.h4_frames.specs.Packets.{is_indicator, SizedPacket, first_packet}

-- HCI_Reset: opcode 0C03 and no parameters (volume 4 part E, section 7.3.2)
abbrev pub reset : HostPacket
reset = Command 0x0C03 (record { items = [] })

-- its octets, with the indicator
abbrev pub reset_octets : List ℕ
reset_octets = 0x01 ∷ 0x03 ∷ 0x0C ∷ 0x00 ∷ []

-- the same packet, found one octet later
abbrev pub one_later : Option SizedPacket → Option SizedPacket
one_later None = None
one_later (Some found) = Some (record { size = found.size + 1; packet = found.packet })

-- the first HCI_Reset anywhere in these octets, and the number of octets up to its end
abbrev pub first_reset : List ℕ → Option SizedPacket
first_reset [] = None
first_reset (octet ∷ octets) =
    if starts_with nat_eq (octet ∷ octets) reset_octets
    then Some (record { size = 4; packet = reset })
    else one_later (first_reset octets)

-- the entry of the packet that was found and the entries of the octets after it; no entry if none was found
abbrev pub packet_entries : (ℕ → List ℕ → List (ℕ × Fed)) → ℕ → List ℕ → Option SizedPacket → List (ℕ × Fed)
packet_entries tail place octets None = []
packet_entries tail place octets (Some found) =
    (place + found.size, Packet found.packet) ∷ tail (place + found.size) (drop found.size octets)

-- the packets and losses of the octets after this place: a packet and those after it; or no whole packet; or a loss at
-- an octet that is not an indicator, then an HCI_Reset and those after it; or a loss and no HCI_Reset
abbrev pub frames_from : ℕ → ℕ → List ℕ → List (ℕ × Fed)
frames_from zero place octets = []
frames_from (suc fuel) place [] = []
frames_from (suc fuel) place (octet ∷ octets) =
    if is_indicator octet
    then packet_entries (frames_from fuel) place (octet ∷ octets) (first_packet (octet ∷ octets))
    else (place + 1, LostSync) ∷ packet_entries (frames_from fuel) (place + 1) octets (first_reset octets)

-- the packets and losses of all octets, each with the number of octets up to its end;
-- a list has at most as many of them as octets
unfoldable pub frames : List ℕ → List (ℕ × Fed)
frames octets = frames_from (length octets) 0 octets

-- the octets that are not yet part of a packet
pub data Rest : Type 0 where
  -- the front of a packet; no octet between packets
  Begun : List ℕ → Rest
  -- the octets skipped since the octet that is not an indicator
  Passed : List ℕ → Rest

-- the rest after the packet that was found; this rest if none was found
abbrev pub rest_after : (List ℕ → Rest) → List ℕ → Option SizedPacket → Rest → Rest
rest_after tail octets None otherwise = otherwise
rest_after tail octets (Some found) otherwise = tail (drop found.size octets)

abbrev pub rest_from : ℕ → List ℕ → Rest
rest_from zero octets = Begun []
rest_from (suc fuel) [] = Begun []
rest_from (suc fuel) (octet ∷ octets) =
    if is_indicator octet
    then rest_after (rest_from fuel) (octet ∷ octets) (first_packet (octet ∷ octets)) (Begun (octet ∷ octets))
    else rest_after (rest_from fuel) octets (first_reset octets) (Passed octets)

-- the rest of all octets after the last packet or loss
unfoldable pub rest : List ℕ → Rest
rest octets = rest_from (length octets) octets

-- the octets end outside a packet and outside the search for an HCI_Reset
abbrev pub IsBetweenPackets : List ℕ → Type 0
IsBetweenPackets octets = rest octets ≡ Begun []

-- the result for the octet that ends at this place, as an entry of the frames
abbrev pub frame_entry : ℕ → Fed → List (ℕ × Fed)
frame_entry place More = []
frame_entry place (Packet packet) = (place, Packet packet) ∷ []
frame_entry place LostSync = (place, LostSync) ∷ []

-- the entries of the results for octets one after another; the first octet begins at this place
abbrev pub frame_entries : ℕ → List Fed → List (ℕ × Fed)
frame_entries place [] = []
frame_entries place (fed ∷ more) = frame_entry (place + 1) fed ++ frame_entries (place + 1) more

-- these are results, octet by octet, of a framer that was fed the past before these octets
abbrev pub AreResults : List ℕ → List ℕ → List Fed → Type 0
AreResults past [] [] = Unit {0}
AreResults past [] (fed ∷ more) = ⊥
AreResults past (octet ∷ octets) [] = ⊥
AreResults past (octet ∷ octets) (fed ∷ more) =
    (frames (past ++ octet ∷ []) ≡ frames past ++ frame_entry (length past + 1) fed)
    × AreResults (past ++ octet ∷ []) octets more
