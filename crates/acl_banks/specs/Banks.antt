-- The data of all links that waits to be sent, and the counts of complete packets (Core 5.2, volume 4 part E,
-- section 4.1).
use Rattle.std.specs.Prelude.{ℕ, ◌+◌, Bool, false, not, if◌then◌else◌, List, [], ◌∷◌, ◌++◌, length, slice_index, slice_set, Option, Some, None}
use Rattle.std.specs.Option.{option_map}
use Rattle.std.specs.List.{filter, find, flat_map}
use Rattle.acl_banks.specs.declared.pieces.Piece.{Piece}
use Rattle.acl_banks.specs.Packets.{Marked, DataPacket, is_of, has_unsent, has_piece_out, piece_of, packet_after_went, packet_after_acked, is_all_sent, unsent_octets, octets_out, with_first, without_first}

pub record Bank : Type 0 where
  -- the packets that are not complete, in the order in which the host gave them
  pub packets : List DataPacket
  -- how many packets of each handle were completed and not reported, by handle
  pub counts : List ℕ

-- how many buffers are taken
abbrev pub taken_buffers : Bank → ℕ
taken_buffers bank = length bank.packets

abbrev pub credits_of : Bank → ℕ → ℕ
credits_of bank handle = slice_index bank.counts handle

-- the octets of a link that were not sent, in order
abbrev pub unsent_of : Bank → ℕ → List Marked
unsent_of bank handle = flat_map unsent_octets (filter (is_of handle) bank.packets)

-- the octets of a link in its piece that is out
abbrev pub piece_out : Bank → ℕ → List Marked
piece_out bank handle = flat_map octets_out (filter (is_of handle) bank.packets)

-- the next piece of a link, of this number of octets at most: from its first packet with octets that were not sent
abbrev pub next_piece : Bank → ℕ → ℕ → Option Piece
next_piece bank handle limit = option_map (piece_of limit) (find (has_unsent handle) bank.packets)

-- how many octets a piece has, if there is one
abbrev pub piece_length : Option Piece → ℕ
piece_length None = 0
piece_length (Some piece) = length piece.body.items

abbrev pub next_length : Bank → ℕ → ℕ → ℕ
next_length bank handle limit = piece_length (next_piece bank handle limit)

-- the packet of a link that has a piece out
abbrev pub packet_out : Bank → ℕ → Option DataPacket
packet_out bank handle = find (has_piece_out handle) bank.packets

-- whether that packet is complete with the piece
abbrev pub is_completed : Option DataPacket → Bool
is_completed None = false
is_completed (Some packet) = is_all_sent packet

-- the bank after the host gave a packet
abbrev pub bank_after_offer : Bank → DataPacket → Bank
bank_after_offer bank packet = record bank { packets = bank.packets ++ packet ∷ [] }

-- after the next piece of a link went out, of this number of octets
abbrev pub bank_after_went : Bank → ℕ → ℕ → Bank
bank_after_went bank handle count =
    record bank { packets = with_first (has_unsent handle) (packet_after_went count) bank.packets }

-- after the piece out was acknowledged: a packet that is complete frees its buffer and is counted
abbrev pub bank_after_acked : Bank → ℕ → Bank
bank_after_acked bank handle =
    if is_completed (packet_out bank handle)
    then record {
      packets = without_first (has_piece_out handle) bank.packets;
      counts = slice_set bank.counts handle (credits_of bank handle + 1);
    }
    else record bank { packets = with_first (has_piece_out handle) packet_after_acked bank.packets }

-- after the count of a link was reported
abbrev pub bank_after_credited : Bank → ℕ → Bank
bank_after_credited bank handle = record bank { counts = slice_set bank.counts handle 0 }

-- after a link ended (Core 5.2, volume 4 part E, section 4.3)
abbrev pub bank_after_drop : Bank → ℕ → Bank
bank_after_drop bank handle =
    record {
      packets = filter (λ packet. not (is_of handle packet)) bank.packets;
      counts = slice_set bank.counts handle 0;
    }
