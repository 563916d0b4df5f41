-- One PDU of an end is out at a time.
use Rattle.std.proofs.Common.{◌≡◌, ◌+◌, ◌-◌, ◌≤◌, Bool, true, false, List, [], ◌∷◌, length, Some, refl, ap, ◌∙◌, arith}
use Rattle.std.specs.List.{slice_get}
use Rattle.std.proofs.lemmas.Bool.{eqb-true, eqb-false}
use Rattle.std.proofs.lemmas.List.{length-append}
use Rattle.ack_bit.proofs.Directions.{last-push}
use Rattle.link_model.specs.Setup.{Setup}
use Rattle.link_model.specs.Acknowledgement.{Acknowledgement, Pdu, first_acknowledgement, is_acked, next_sent, with_accepted, with_acked}
use Rattle.link_model.specs.Step.{Step}
use Rattle.link_model.specs.End.{facts_of}
use Rattle.link_model.proofs.Outgoing.{EndsIn}
use Rattle.link_model.proofs.Moves.{EachMoveKeeps, past_keeps}

pub record AreCounted (ack : Acknowledgement) : Type 0 where
  pub last_sent : EndsIn ack.sent ack.last
  pub sent_only : ack.acked ≤ length ack.sent
  pub one_at_a_time : length ack.sent ≤ ack.acked + 1

pub sent_counted : (is_new : Bool) (pdu : Pdu) (ack : Acknowledgement) → is_acked ack ≡ is_new → AreCounted ack
    → AreCounted (next_sent is_new pdu ack)
sent_counted true pdu ack is are =
    let all : ack.acked ≡ length ack.sent = eqb-true ack.acked (length ack.sent) is in
    record {
      last_sent = record { front = ack.sent; sent_are = refl };
      sent_only = omega (arith, all, length-append ack.sent (pdu ∷ []));
      one_at_a_time = omega (arith, all, length-append ack.sent (pdu ∷ []));
    }
sent_counted false pdu ack is are =
    record { last_sent = are.last_sent; sent_only = are.sent_only; one_at_a_time = are.one_at_a_time }

pub acked_counted : (acked : Bool) (ack : Acknowledgement) → (acked ≡ true → is_acked ack ≡ false) → AreCounted ack
    → AreCounted (with_acked acked ack)
acked_counted true ack out are =
    let waits = eqb-false ack.acked (length ack.sent) (out refl) in
    record {
      last_sent = are.last_sent;
      sent_only = omega (arith, are.sent_only, waits);
      one_at_a_time = omega (arith, are.one_at_a_time);
    }
acked_counted false ack out are =
    record { last_sent = are.last_sent; sent_only = are.sent_only; one_at_a_time = are.one_at_a_time }

pub accepted_counted : (accepted : Bool) (pdu : Pdu) (ack : Acknowledgement) → AreCounted ack → AreCounted (with_accepted accepted pdu ack)
accepted_counted accepted pdu ack are =
    record { last_sent = are.last_sent; sent_only = are.sent_only; one_at_a_time = are.one_at_a_time }

pub first_counted : AreCounted first_acknowledgement
first_counted =
    record { last_sent = record { front = []; sent_are = refl }; sent_only = omega arith; one_at_a_time = omega arith }

counts_kept : EachMoveKeeps (λ ack outgoing. AreCounted ack)
counts_kept =
    record {
      first = first_counted;
      given = λ handle start body ack outgoing are. are;
      reported = λ ack outgoing are. are;
      fixed = λ control waiting limit quiet goes again ack outgoing are. are;
      gone = λ control ack outgoing all are. are;
      sent = λ payload ack outgoing are. sent_counted (is_acked ack) outgoing.fixed ack refl are;
      acked = λ acked ack outgoing out are. acked_counted acked ack out are;
      accepted = λ accepted pdu ack outgoing are. accepted_counted accepted pdu ack are;
    }

pub past_counts : (setup : Setup) (past : List Step) → AreCounted (facts_of setup past).acknowledgement
past_counts setup past = past_keeps (λ ack outgoing. AreCounted ack) counts_kept setup past

pub past_counted : (setup : Setup) (past : List Step) → let ack = (facts_of setup past).acknowledgement in
    (ack.acked ≤ length ack.sent) × (length ack.sent ≤ ack.acked + 1)
past_counted setup past = let are = past_counts setup past in (are.sent_only, are.one_at_a_time)

pub past_last : (setup : Setup) (past : List Step) → let ack = (facts_of setup past).acknowledgement in
    slice_get ack.sent (length ack.sent - 1) ≡ Some ack.last
past_last setup past =
    let ack = (facts_of setup past).acknowledgement in
    let is = (past_counts setup past).last_sent in
    ap (λ (pdus : List Pdu). slice_get pdus (length pdus - 1)) is.sent_are ∙ last-push is.front ack.last
