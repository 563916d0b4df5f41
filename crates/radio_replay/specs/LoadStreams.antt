-- The streams of the two hosts of a load (our choice): a command, and then data of random octets (Core 5.2, volume 4
-- part A, section 2; volume 4 part E, sections 5.4.2, 7.8.9 and 7.8.12).
use Rattle.std.specs.Prelude.{ℕ, zero, suc, ◌+◌, ◌%◌, List, [], ◌∷◌, ◌++◌}
use Rattle.std.specs.Int.{w16, to_le_bytes}
use Rattle.radio_replay.specs.RandomOctets.{octets_from, state_after}

-- ---- the commands

-- A makes a connection with B, whose public address is C0:FF:EE:00:00:0B: it scans all the time, and the link has an
-- interval of 24, no latency and a supervision timeout of 72
abbrev pub connecting : List ℕ
connecting = 0x01 ∷ 0x0D ∷ 0x20 ∷ 0x19 ∷ 0x60 ∷ 0x00 ∷ 0x60 ∷ 0x00 ∷ 0x00 ∷ 0x00
    ∷ 0x0B ∷ 0x00 ∷ 0x00 ∷ 0xEE ∷ 0xFF ∷ 0xC0
    ∷ 0x00 ∷ 0x18 ∷ 0x00 ∷ 0x18 ∷ 0x00 ∷ 0x00 ∷ 0x00 ∷ 0x48 ∷ 0x00 ∷ 0x00 ∷ 0x00 ∷ 0x00 ∷ 0x00 ∷ []

-- B turns advertising on
abbrev pub advertising : List ℕ
advertising = 0x01 ∷ 0x0A ∷ 0x20 ∷ 0x01 ∷ 0x01 ∷ []

-- ---- data

-- how many packets of data each host has
abbrev pub load_packets : ℕ
load_packets = 200

-- how many octets a packet has, by its place, counted from 0
abbrev pub size_of : ℕ → ℕ
size_of place = 1 + place % 27

-- how many octets the packets before a place have
unfoldable pub sizes_before : ℕ → ℕ
sizes_before zero = 0
sizes_before (suc place) = sizes_before place + size_of place

-- a packet of data with these octets for the link under handle 0, as it stands in a stream
abbrev pub data_packet : ℕ → List ℕ → List ℕ
data_packet size octets = 0x02 ∷ 0x00 ∷ 0x00 ∷ to_le_bytes w16 size ++ octets

-- the packet at a place of a stream whose octets are drawn from this state on
abbrev pub packet_at : ℕ → ℕ → List ℕ
packet_at state place =
    data_packet (size_of place) (octets_from (state_after state (sizes_before place)) (size_of place))

-- the packets before a place
unfoldable pub packets_before : ℕ → ℕ → List ℕ
packets_before state zero = []
packets_before state (suc place) = packets_before state place ++ packet_at state place

-- ---- the streams

abbrev pub stream_a : ℕ → List ℕ
stream_a number = connecting ++ packets_before number load_packets

-- the octets of B are drawn after all those of A
abbrev pub stream_b : ℕ → List ℕ
stream_b number = advertising ++ packets_before (state_after number (sizes_before load_packets)) load_packets
