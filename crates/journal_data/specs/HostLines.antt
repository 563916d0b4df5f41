-- Which packets of data a host submits, from the octets that its side is fed (Core 5.2, volume 4 part E, sections 4.1,
-- 5.4.2 and 7.7.26).
use Rattle.std.specs.Prelude.{ℕ, ◌+◌, ◌==◌, ◌&&◌, ◌||◌, nat_lt, Bool, List, [], ◌∷◌, ◌++◌, drop, filter, length, not, Option, Some, None, if◌then◌else◌}
use Rattle.std.specs.List.{find, flat_map}
use Rattle.std.specs.Option.{option_map}
use Rattle.ble_base.specs.Limits.{payload_octets}
use Rattle.acl_banks.specs.History.{HostData}
use Rattle.h4_frames.specs.Frames.{frames}
use Rattle.h4_frames.specs.declared.packet.Fed.{Fed}
use Rattle.h4_frames.specs.declared.packet.Fed.TheVariants.{More, Packet, LostSync}
use Rattle.h4_frames.specs.declared.packet.HostPacket.{HostPacket}
use Rattle.h4_frames.specs.declared.packet.HostPacket.TheVariants.{Command, Acl}

-- a link that is open at a side, and its handle there
pub record OpenUnder : Type 0 where
  pub link : ℕ
  pub handle : ℕ

-- the link under a handle
abbrev pub link_under : ℕ → List OpenUnder → Option ℕ
link_under handle links = option_map (λ (one : OpenUnder). one.link) (find (λ (one : OpenUnder). one.handle == handle) links)

-- a packet of data that a host submits on a link
pub record Submitted : Type 0 where
  pub link : ℕ
  pub packet : HostData

-- ---- the packets in octets

abbrev pub packet_in : ℕ × Fed → List HostPacket
packet_in (place, Packet packet) = packet ∷ []
packet_in (place, LostSync) = []
packet_in (place, More) = []

-- the packets that end in these octets, which come after those before
abbrev pub packets_framed : List ℕ → List ℕ → List HostPacket
packets_framed before octets = flat_map packet_in (drop (length (frames before)) (frames (before ++ octets)))

-- ---- which of them are kept

-- a buffer has this number of octets (our choice)
abbrev pub buffer_octets : ℕ
buffer_octets = payload_octets

-- a packet with this number of octets is dropped where it is longer than a buffer, or has octets while all buffers are
-- taken (our choice)
abbrev pub is_dropped : ℕ → ℕ → ℕ → Bool
is_dropped buffers taken count =
    nat_lt buffer_octets count || (not (count == 0) && (taken == buffers))

abbrev pub is_reset : ℕ → List ℕ → Bool
is_reset opcode parameters = (opcode == 0x0C03) && (length parameters == 0)

-- a packet for the link that may be under its handle, if it is kept
abbrev pub kept_one : Option ℕ → Bool → Bool → List ℕ → List Submitted
kept_one None dropped start body = []
kept_one (Some link) dropped start body =
    if dropped then [] else record { link = link; packet = record { start = start; body = body } } ∷ []

abbrev pub has_octets : HostData → Bool
has_octets packet = not (length packet.body == 0)

-- each packet with octets takes a buffer
abbrev pub buffers_of : List Submitted → ℕ
buffers_of submitted = length (filter (λ (one : Submitted). has_octets one.packet) submitted)

-- the packets that are kept, each with its link: those for a handle without a link are dropped, and so are all after
-- an HCI_Reset. At first this number of buffers is taken
abbrev pub kept_of : ℕ → List OpenUnder → ℕ → List HostPacket → List Submitted
kept_of buffers links taken [] = []
kept_of buffers links taken (Command opcode parameters ∷ packets) =
    if is_reset opcode parameters.items then [] else kept_of buffers links taken packets
kept_of buffers links taken (Acl handle start count body ∷ packets) =
    kept_one (link_under handle links) (is_dropped buffers taken count) start body.items
    ++ kept_of buffers links
    (taken + buffers_of (kept_one (link_under handle links) (is_dropped buffers taken count) start body.items)) packets
