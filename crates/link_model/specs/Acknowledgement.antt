-- The PDUs that an end has sent and accepted, and which of its own are acknowledged (Core 5.2, volume 6 part B, section
-- 4.5.9).
use Rattle.std.specs.Prelude.{ℕ, ◌+◌, ◌==◌, Bool, List, [], ◌∷◌, ◌++◌, length, if◌then◌else◌}
use Rattle.ack_bit.specs.AckBits.{AckBits, is_odd}
use Rattle.ack_bit.specs.AckLink.{End}

-- a data channel PDU: its LLID and its payload (section 2.4)
pub record Pdu : Type 0 where
  pub llid : ℕ
  pub body : List ℕ

-- the empty PDU (section 2.4.1)
abbrev pub empty_pdu : Pdu
empty_pdu = record { llid = 1; body = [] }

pub record Acknowledgement : Type 0 where
  -- the PDUs that it sent, each once; the first is the empty PDU that counts as sent when the link begins (our choice)
  pub sent : List Pdu
  -- the last of them
  pub last : Pdu
  -- how many of them are acknowledged
  pub acked : ℕ
  -- the PDUs of the other end that it accepted
  pub accepted : List Pdu

abbrev pub first_acknowledgement : Acknowledgement
first_acknowledgement = record { sent = empty_pdu ∷ []; last = empty_pdu; acked = 0; accepted = [] }

-- SN is the number of acknowledged PDUs, and NESN that of accepted PDUs, both modulo 2
abbrev pub bits_of : Acknowledgement → AckBits
bits_of ack = record { sn = is_odd ack.acked; nesn = is_odd (length ack.accepted) }

-- an end as the laws of acknowledgement have it
abbrev pub end_of : Acknowledgement → End Pdu
end_of ack =
    record { bits = bits_of ack; sent = ack.sent; last = ack.last; acked = ack.acked; accepted = ack.accepted }

-- the PDU that it sent last is acknowledged
abbrev pub is_acked : Acknowledgement → Bool
is_acked ack = ack.acked == length ack.sent

-- a packet carries the last PDU again until that is acknowledged, and then the next one
abbrev pub next_sent : Bool → Pdu → Acknowledgement → Acknowledgement
next_sent is_acked next ack =
    record {
      sent = (if is_acked then ack.sent ++ next ∷ [] else ack.sent);
      last = (if is_acked then next else ack.last);
      acked = ack.acked;
      accepted = ack.accepted;
    }

abbrev pub after_sending : Pdu → Acknowledgement → Acknowledgement
after_sending next ack = next_sent (is_acked ack) next ack

-- the PDU that was sent last is acknowledged, or is not
abbrev pub with_acked : Bool → Acknowledgement → Acknowledgement
with_acked acked ack = record ack { acked = (if acked then ack.acked + 1 else ack.acked) }

-- a PDU is accepted, or is not
abbrev pub with_accepted : Bool → Pdu → Acknowledgement → Acknowledgement
with_accepted accepted pdu ack =
    record ack { accepted = (if accepted then ack.accepted ++ pdu ∷ [] else ack.accepted) }

-- a packet that is received acknowledges the PDU that was sent last, or does not; its PDU is accepted, or is not
abbrev pub received_by : Bool → Bool → Pdu → Acknowledgement → Acknowledgement
received_by acked accepted pdu ack =
    record {
      sent = ack.sent;
      last = ack.last;
      acked = (if acked then ack.acked + 1 else ack.acked);
      accepted = (if accepted then ack.accepted ++ pdu ∷ [] else ack.accepted);
    }
