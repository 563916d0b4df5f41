-- The counts of PDUs that are not empty, and whether the last PDU is acknowledged, step by step.
use Rattle.std.proofs.Common.{◌≡◌, ◌+◌, ◌≤◌, ◌==◌, Bool, true, false, not, ◌&&◌, ◌||◌, List, [], ◌∷◌, ◌++◌, length, refl, ap, sym, ◌∙◌, arith, if◌then◌else◌}
use Rattle.std.specs.List.{filter}
use Rattle.std.proofs.lemmas.Bool.{eqb-true, eqb-false, eq-eqb, ne_eqb}
use Rattle.std.proofs.lemmas.List.{append-nil, length-append}
use Rattle.std.proofs.lemmas.List.Elements.{filter-append}
use Rattle.link_model.specs.Acknowledgement.{Acknowledgement, Pdu, is_acked, next_sent}
use Rattle.link_model.specs.Data.{is_empty, numbered}
use Rattle.link_end.specs.Held.{count_if}

-- one PDU more is counted where it is not empty
pub counted : (pdus : List Pdu) (pdu : Pdu) (is_new empty : Bool) → is_empty pdu ≡ empty
    → count_if (is_new && not empty) (numbered pdus) ≡ numbered (if is_new then pdus ++ pdu ∷ [] else pdus)
counted pdus pdu false empty is = refl
counted pdus pdu true empty is =
    sym (ap length (filter-append (λ p. not (is_empty p)) pdus (pdu ∷ [])) ∙ by_empty empty is)
  where
    by_empty : (empty : Bool) → is_empty pdu ≡ empty
        → length (filter (λ p. not (is_empty p)) pdus ++ (if not (is_empty pdu) then pdu ∷ [] else [])) ≡ count_if (not empty) (numbered pdus)
    by_empty true e = rw e (ap length (append-nil (filter (λ p. not (is_empty p)) pdus)))
    by_empty false e = rw e (length-append (filter (λ p. not (is_empty p)) pdus) (pdu ∷ []))

-- a PDU that is sent is not acknowledged
pub acked_sent : (is_new : Bool) (ack : Acknowledgement) (next : Pdu) → is_acked ack ≡ is_new → false ≡ is_acked (next_sent is_new next ack)
acked_sent true ack next is =
    sym (ne_eqb ack.acked (length (ack.sent ++ next ∷ []))
    (λ same. omega (arith, same, eqb-true ack.acked (length ack.sent) is, length-append ack.sent (next ∷ []))))
acked_sent false ack next is = sym is

-- an acknowledgement is of the PDU that is out
pub acked_heard : (says : Bool) (ack : Acknowledgement) (all : Bool) → is_acked ack ≡ all → ack.acked ≤ length ack.sent
    → length ack.sent ≤ ack.acked + 1
    → ((not all && says) || all) ≡ ((if not all && says then ack.acked + 1 else ack.acked) == length ack.sent)
acked_heard says ack true is low high = sym is
acked_heard false ack false is low high = sym is
acked_heard true ack false is low high =
    sym (eq-eqb (ack.acked + 1) (length ack.sent) (omega (arith, low, high, eqb-false ack.acked (length ack.sent) is)))
