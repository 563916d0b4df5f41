-- Two ends of a link that repeat each PDU until it is acknowledged (Core 5.2, volume 6 part B, section 4.5.9).
use Rattle.std.specs.Prelude.{◌≡◌, ℕ, ◌+◌, ◌≤◌, ◌==◌, Bool, ◌&&◌, List, [], ◌∷◌, ◌++◌, length, take, if◌then◌else◌}
use Rattle.data_pdu.specs.declared.header.DataHeader.{DataHeader}
use Rattle.ack_bit.specs.AckBits.{AckBits, first_bits, header_of, is_new, acknowledges, receive_of}

-- an end, and what it has done so far; C is the type of a PDU
pub record End (C : Type 0) : Type 0 where
  pub bits : AckBits
  -- the PDUs that it sent, each once; the first is the empty PDU that counts as sent when the link begins (our choice)
  pub sent : List C
  -- the last of them
  pub last : C
  -- the number of them that it knows to be acknowledged
  pub acked : ℕ
  -- the PDUs that it accepted
  pub accepted : List C

-- a packet on the air: the PDU that is sent next if the last one is acknowledged; the LLID, MD bit and length of its
-- header; whether it arrives; and whether the other end has room for its PDU
pub record Packet (C : Type 0) : Type 0 where
  pub next : C
  pub llid : ℕ
  pub md : Bool
  pub length : ℕ
  pub arrives : Bool
  pub room : Bool

pub data Step (C : Type 0) : Type 0 where
  a_sends : Packet C → Step C
  b_sends : Packet C → Step C

pub record Link (C : Type 0) : Type 0 where
  pub a : End C
  pub b : End C

module _ {C : Type 0} where
  -- an end when the link begins
  abbrev pub first_end : C → End C
  first_end empty = record { bits = first_bits; sent = empty ∷ []; last = empty; acked = 0; accepted = [] }

  -- whether the PDU that it sent last is acknowledged
  abbrev pub is_acked : End C → Bool
  is_acked s = s.acked == length s.sent

  -- an end after it sent a packet: the next PDU if the last one is acknowledged, else the last one again
  abbrev pub after_sending : End C → C → End C
  after_sending s next =
      record {
        bits = s.bits;
        sent = (if is_acked s then s.sent ++ next ∷ [] else s.sent);
        last = (if is_acked s then next else s.last);
        acked = s.acked;
        accepted = s.accepted;
      }

  -- an end after it received a packet with this header and this PDU
  abbrev pub after_receiving : End C → DataHeader → C → Bool → End C
  after_receiving r header pdu room =
      record {
        bits = receive_of r.bits header room;
        sent = r.sent;
        last = r.last;
        acked = (if acknowledges r.bits header then r.acked + 1 else r.acked);
        accepted = (if is_new r.bits header && room then r.accepted ++ pdu ∷ [] else r.accepted);
      }

  -- the header of a packet of s
  abbrev pub header_from : End C → Packet C → DataHeader
  header_from s p = header_of s.bits p.llid p.md p.length

  -- end r after a packet of s was on the air
  abbrev pub after_packet : End C → End C → Packet C → End C
  after_packet s r p = (if p.arrives then after_receiving r (header_from s p) s.last p.room else r)

  abbrev pub step_of : Link C → Step C → Link C
  step_of link (a_sends p) =
      record { a = after_sending link.a p.next; b = after_packet (after_sending link.a p.next) link.b p }
  step_of link (b_sends p) =
      record { a = after_packet (after_sending link.b p.next) link.a p; b = after_sending link.b p.next }

  abbrev pub run : Link C → List (Step C) → Link C
  run link [] = link
  run link (step ∷ steps) = run (step_of link step) steps

  -- the link after these steps; when it begins, each end has its empty PDU to send
  abbrev pub link_after : C → C → List (Step C) → Link C
  link_after empty_a empty_b steps = run (record { a = first_end empty_a; b = first_end empty_b }) steps

  -- what r accepts of s: each PDU at most once and in order, all but at most the last one; and s takes for acknowledged
  -- only what r accepted
  pub record IsReliable (s r : End C) : Type 0 where
    -- the PDUs that r accepted are the first of those that s sent
    pub in_order : r.accepted ≡ take (length r.accepted) s.sent
    pub sent_only : length r.accepted ≤ length s.sent
    -- at most the last one is missing
    pub at_most_one_ahead : length s.sent ≤ length r.accepted + 1
    -- an acknowledged PDU was accepted
    pub acked_is_accepted : s.acked ≤ length r.accepted
    -- the next PDU is sent only after the one before it is acknowledged
    pub one_at_a_time : length s.sent ≤ s.acked + 1

  -- what a packet of s says to r, without bits: its PDU is new exactly where r has not accepted it yet, and it
  -- acknowledges exactly where s has accepted the last PDU of r and r does not know it
  pub record SaysWhatIsAccepted (s r : End C) (p : Packet C) : Type 0 where
    pub fresh : is_new r.bits (header_from s p) ≡ (length (after_sending s p.next).sent == length r.accepted + 1)
    pub acked : acknowledges r.bits (header_from s p) ≡ (length s.accepted == r.acked + 1)
