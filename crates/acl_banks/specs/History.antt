-- What the host gave a link, and what of it was sent, acknowledged and reported (Core 5.2, volume 4 part E,
-- section 4.1).
use Rattle.std.specs.Prelude.{◌≡◌, ℕ, ◌+◌, ◌-◌, ◌≤◌, ◌==◌, nat_lt, Bool, not, ◌&&◌, ◌||◌, if◌then◌else◌, List, [], ◌∷◌, ◌++◌, length, Option, Some, None, IsSome}
use Rattle.std.specs.List.{flat_map}
use Rattle.acl_banks.specs.declared.pieces.Piece.{Piece}
use Rattle.acl_banks.specs.Packets.{Marked, marked_octets, new_packet}
use Rattle.acl_banks.specs.Banks.{Bank, taken_buffers, credits_of, unsent_of, piece_out, next_piece, packet_out, bank_after_offer, bank_after_went, bank_after_acked, bank_after_credited, bank_after_drop}

-- a call that changes a bank
pub data Call : Type 0 where
  offer : ℕ → Bool → List ℕ → Call
  went : ℕ → ℕ → Call
  acked : ℕ → Call
  credited : ℕ → Call
  drop_link : ℕ → Call

-- its conditions
abbrev pub IsAllowed : Bank → Call → Type 0
IsAllowed bank (offer handle start body) = 1 ≤ length body
IsAllowed bank (went handle count) =
    (1 ≤ count) × IsSome (next_piece bank handle count) × (packet_out bank handle ≡ None)
IsAllowed bank (acked handle) = IsSome (packet_out bank handle)
IsAllowed bank (credited handle) = Unit {0}
IsAllowed bank (drop_link handle) = Unit {0}

-- whether a bank of this many buffers refuses a packet
abbrev pub is_refused : ℕ → Bank → List ℕ → Bool
is_refused buffers bank body = nat_lt 251 (length body) || taken_buffers bank == buffers

abbrev pub bank_after : ℕ → Bank → Call → Bank
bank_after buffers bank (offer handle start body) =
    if is_refused buffers bank body then bank else bank_after_offer bank (new_packet handle start body)
bank_after buffers bank (went handle count) = bank_after_went bank handle count
bank_after buffers bank (acked handle) = bank_after_acked bank handle
bank_after buffers bank (credited handle) = bank_after_credited bank handle
bank_after buffers bank (drop_link handle) = bank_after_drop bank handle

-- a packet as the host gave it
pub record HostData : Type 0 where
  pub start : Bool
  pub body : List ℕ

-- what became of one link since it began
pub record Past : Type 0 where
  -- the packets that were taken, in order
  pub packets : List HostData
  -- the octets of the pieces that went out
  pub sent : List Marked
  -- the octets of the pieces that were acknowledged
  pub acknowledged : List Marked
  -- how many complete packets were reported
  pub reported : ℕ

abbrev pub no_past : Past
no_past = record { packets = []; sent = []; acknowledged = []; reported = 0 }

abbrev pub octets_of_piece : Option Piece → List Marked
octets_of_piece None = []
octets_of_piece (Some piece) = marked_octets piece.start piece.body.items

abbrev pub past_after : ℕ → ℕ → Bank → Past → Call → Past
past_after buffers link bank past (offer handle start body) =
    if handle == link && not (is_refused buffers bank body)
    then record past { packets = past.packets ++ record { start = start; body = body } ∷ [] }
    else past
past_after buffers link bank past (went handle count) =
    if handle == link then record past { sent = past.sent ++ octets_of_piece (next_piece bank handle count) } else past
past_after buffers link bank past (acked handle) =
    if handle == link then record past { acknowledged = past.acknowledged ++ piece_out bank handle } else past
past_after buffers link bank past (credited handle) =
    if handle == link then record past { reported = past.reported + credits_of bank handle } else past
past_after buffers link bank past (drop_link handle) = if handle == link then no_past else past

-- a bank, and the past of one link in it
pub record Run : Type 0 where
  pub bank : Bank
  pub past : Past

abbrev pub run_of : ℕ → ℕ → Run → List Call → Run
run_of buffers link run [] = run
run_of buffers link run (call ∷ calls) =
    run_of buffers link
    (record { bank = bank_after buffers run.bank call; past = past_after buffers link run.bank run.past call })
    calls

-- each call meets its conditions
abbrev pub AreAllowed : ℕ → Bank → List Call → Type 0
AreAllowed buffers bank [] = Unit {0}
AreAllowed buffers bank (call ∷ calls) = IsAllowed bank call × AreAllowed buffers (bank_after buffers bank call) calls

-- the octets of packets, in order
abbrev pub octets_of : List HostData → List Marked
octets_of packets = flat_map (λ packet. marked_octets packet.start packet.body) packets

-- how many of the packets have their last octet among this many first octets
abbrev pub whole_packets : List HostData → ℕ → ℕ
whole_packets [] count = 0
whole_packets (packet ∷ packets) count =
    if nat_lt count (length packet.body) then 0 else 1 + whole_packets packets (count - length packet.body)

-- a bank with no packet and no credit
pub record IsEmptyBank (bank : Bank) : Type 0 where
  pub packets : bank.packets ≡ []
  pub credits : (handle : ℕ) → credits_of bank handle ≡ 0
  pub handles : length bank.counts ≡ 65536

-- the octets sent are the first of those taken, those acknowledged are the first of those sent, and the packets
-- counted are those whose last octet was acknowledged
pub record IsFaithful (run : Run) (link : ℕ) : Type 0 where
  pub sent : run.past.sent ++ unsent_of run.bank link ≡ octets_of run.past.packets
  pub acknowledged : run.past.acknowledged ++ piece_out run.bank link ≡ run.past.sent
  pub counted : run.past.reported + credits_of run.bank link
      ≡ whole_packets run.past.packets (length run.past.acknowledged)
