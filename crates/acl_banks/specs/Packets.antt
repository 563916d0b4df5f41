-- The data packets of the host, and the pieces that they are sent in (Core 5.2, volume 6 part B, section 2.4.1).
use Rattle.std.specs.Prelude.{◌≡◌, ℕ, ◌+◌, ◌-◌, ◌<◌, ◌≤◌, ◌==◌, min, nat_lt, Bool, false, ◌&&◌, if◌then◌else◌, List, [], ◌∷◌, map, length, take, drop}
use Rattle.std.specs.List.{filter}
use Rattle.acl_banks.specs.declared.pieces.Piece.{Piece}

-- a marked octet: whether it is the first octet of a start, and the octet
abbrev pub Marked : Type 0
Marked = Bool × ℕ

-- the octets of a packet or of a piece, marked: only the first octet of a start is marked so
abbrev pub marked_octets : Bool → List ℕ → List Marked
marked_octets start [] = []
marked_octets start (octet ∷ octets) = (start, octet) ∷ map (λ other. (false, other)) octets

-- a packet of a link that is not complete yet
pub record DataPacket : Type 0 where
  pub handle : ℕ
  -- whether it is the start of a message of the host, and not a continuation
  pub start : Bool
  pub body : List ℕ
  -- how many of its octets were acknowledged
  pub acknowledged : ℕ
  -- how many are in its piece that is out; 0 where none is
  pub out : ℕ

-- a packet as the host gives it
abbrev pub new_packet : ℕ → Bool → List ℕ → DataPacket
new_packet handle start body = record { handle = handle; start = start; body = body; acknowledged = 0; out = 0 }

abbrev pub is_of : ℕ → DataPacket → Bool
is_of handle packet = packet.handle == handle

-- how many octets of it were sent, acknowledged or not
abbrev pub sent_length : DataPacket → ℕ
sent_length packet = packet.acknowledged + packet.out

abbrev pub has_unsent : ℕ → DataPacket → Bool
has_unsent handle packet = is_of handle packet && nat_lt (sent_length packet) (length packet.body)

abbrev pub has_piece_out : ℕ → DataPacket → Bool
has_piece_out handle packet = is_of handle packet && nat_lt 0 packet.out

-- its next piece, of this number of octets at most: the first piece of a start is a start, all others continue
abbrev pub piece_of : ℕ → DataPacket → Piece
piece_of limit packet =
    record {
      start = packet.start && (sent_length packet == 0);
      body = record { items = take limit (drop (sent_length packet) packet.body) };
    }

-- the packet as a piece of this number of octets goes out, or of all that are left where these are fewer
abbrev pub packet_after_went : ℕ → DataPacket → DataPacket
packet_after_went count packet = record packet { out = min count (length packet.body - sent_length packet) }

-- the packet as the piece that is out is acknowledged
abbrev pub packet_after_acked : DataPacket → DataPacket
packet_after_acked packet = record packet { acknowledged = sent_length packet; out = 0 }

-- whether all its octets were sent, so that it is complete with the piece that is out
abbrev pub is_all_sent : DataPacket → Bool
is_all_sent packet = sent_length packet == length packet.body

-- its octets that were not sent
abbrev pub unsent_octets : DataPacket → List Marked
unsent_octets packet = drop (sent_length packet) (marked_octets packet.start packet.body)

-- its octets that are in the piece that is out
abbrev pub octets_out : DataPacket → List Marked
octets_out packet = take packet.out (drop packet.acknowledged (marked_octets packet.start packet.body))

-- a packet of which nothing was sent
pub record IsFresh (packet : DataPacket) : Type 0 where
  pub some : 0 < length packet.body
  pub none_acknowledged : packet.acknowledged ≡ 0
  pub none_out : packet.out ≡ 0

abbrev pub AreFresh : List DataPacket → Type 0
AreFresh [] = Unit {0}
AreFresh (packet ∷ packets) = IsFresh packet × AreFresh packets

-- a packet of which some was sent, but not all of it acknowledged
pub record IsInWork (packet : DataPacket) : Type 0 where
  pub unfinished : packet.acknowledged < length packet.body
  pub within : sent_length packet ≤ length packet.body

-- the packets of one link: only the first is in work
abbrev pub AreInOrder : List DataPacket → Type 0
AreInOrder [] = Unit {0}
AreInOrder (packet ∷ packets) = IsInWork packet × AreFresh packets

-- the packets of all links
pub record IsInOrder (packets : List DataPacket) : Type 0 where
  pub of : (handle : ℕ) → AreInOrder (filter (is_of handle) packets)

-- a list with its first element that passes the test changed, or without it
abbrev pub with_first : {A : Type 0} → (A → Bool) → (A → A) → List A → List A
with_first test change [] = []
with_first test change (x ∷ xs) = if test x then change x ∷ xs else x ∷ with_first test change xs

abbrev pub without_first : {A : Type 0} → (A → Bool) → List A → List A
without_first test [] = []
without_first test (x ∷ xs) = if test x then xs else x ∷ without_first test xs
