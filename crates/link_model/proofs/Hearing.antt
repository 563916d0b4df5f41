-- What an end makes of a packet that it hears: a packet of a PDU is heard whole, and the bits are counts.
use Rattle.std.proofs.Common.{◌≡◌, ℕ, ◌+◌, Bool, true, false, not, List, [], ◌∷◌, ◌++◌, length, refl, ap, ◌∙◌, length-append, if◌then◌else◌}
use Rattle.air_frame.specs.declared.Heard.TheVariants.{Whole}
use Rattle.air_frame.specs.Hearing.{heard_in}
use Rattle.air_frame.specs.Packet.{on_air, IsPdu}
use Rattle.ack_bit.specs.AckBits.{is_odd}
use Rattle.ack_bit.proofs.Directions.{odd-next}
use Rattle.link_model.specs.Acknowledgement.{Acknowledgement, Pdu, bits_of, end_of, received_by}

-- a packet of a PDU in form is heard whole
abbrev pub IsHeardWhole : Type 0
IsHeardWhole = (channel access init : ℕ) (pdu : List ℕ) → IsPdu pdu → heard_in channel access init (on_air channel access init pdu) ≡ Whole (record { items = pdu })

-- ---- the bits of an end that receives are its counts

length-push : {A : Type 0} (xs : List A) (x : A) → length (xs ++ x ∷ []) ≡ length xs + 1
length-push xs x = length-append xs (x ∷ [])

pub received_ends : (ack : Acknowledgement) (pdu : Pdu) (acked accepted : Bool)
    → end_of (received_by acked accepted pdu ack) ≡ record {
      bits = record {
        sn = (if acked then not (bits_of ack).sn else (bits_of ack).sn);
        nesn = (if accepted then not (bits_of ack).nesn else (bits_of ack).nesn);
      };
      sent = ack.sent;
      last = ack.last;
      acked = (if acked then ack.acked + 1 else ack.acked);
      accepted = (if accepted then ack.accepted ++ pdu ∷ [] else ack.accepted);
    }
received_ends ack pdu true true =
    let more = ap is_odd (length-push ack.accepted pdu) ∙ odd-next (length ack.accepted) in
    λ i. record {
      bits = record { sn = odd-next ack.acked i; nesn = more i };
      sent = ack.sent;
      last = ack.last;
      acked = ack.acked + 1;
      accepted = ack.accepted ++ pdu ∷ [];
    }
received_ends ack pdu true false =
    λ i. record {
      bits = record { sn = odd-next ack.acked i; nesn = (bits_of ack).nesn };
      sent = ack.sent;
      last = ack.last;
      acked = ack.acked + 1;
      accepted = ack.accepted;
    }
received_ends ack pdu false true =
    let more = ap is_odd (length-push ack.accepted pdu) ∙ odd-next (length ack.accepted) in
    λ i. record {
      bits = record { sn = (bits_of ack).sn; nesn = more i };
      sent = ack.sent;
      last = ack.last;
      acked = ack.acked;
      accepted = ack.accepted ++ pdu ∷ [];
    }
received_ends ack pdu false false = refl
