-- What an end holds after it sent its packet.
use Rattle.std.proofs.Common.{◌≡◌, ℕ, ◌&&◌, Bool, true, false, List, [], ◌∷◌, ◌++◌, length, length-append, refl, sym, subst, ◌∙◌, arith, if◌then◌else◌}
use Rattle.std.proofs.lemmas.Bool.{eqb-true, ne_eqb}
use Rattle.link_model.specs.Acknowledgement.{Acknowledgement, Pdu, is_acked, next_sent}
use Rattle.link_model.specs.Data.{Data}
use Rattle.link_model.specs.Payload.{payload_made}
use Rattle.link_model.specs.Controls.{next_control, pdu_fixed, pdu_of_control}
use Rattle.link_model.specs.Facts.{Facts}
use Rattle.link_model.specs.Packets.{payload_sent, pdu_sent}
use Rattle.link_model.specs.Setup.{Setup}
use Rattle.link_pairs.specs.Hearing.{IsPacketOf}
use Rattle.link_model.specs.Sending.{control_gone, control_gone_if, data_sent_as, facts_sent, fixed_sent, takes_leave}

-- the PDU in its packet and the payload of that, and its counts; that PDU is out
pub record HasSent (before now : Facts) : Type 0 where
  pub last : now.acknowledgement.last ≡ pdu_sent before
  pub payload : now.outgoing.payload ≡ payload_sent before
  pub acked : now.acknowledgement.acked ≡ before.acknowledgement.acked
  pub accepted : now.acknowledgement.accepted ≡ before.acknowledgement.accepted
  pub out : is_acked now.acknowledgement ≡ false

payload_if : (payload : List ℕ) (all : Bool) (outgoing : Data)
    → (data_sent_as payload all outgoing).payload ≡ (if all then payload else outgoing.payload)
payload_if payload true outgoing = refl
payload_if payload false outgoing = refl

out_by : (all : Bool) (next : Pdu) (ack : Acknowledgement) → is_acked ack ≡ all → is_acked (next_sent all next ack) ≡ false
out_by true next ack is =
    let count = eqb-true ack.acked (length ack.sent) is in
    let more = length-append ack.sent (next ∷ []) in
    ne_eqb ack.acked (length (ack.sent ++ next ∷ [])) (λ same. omega (arith, count, more, same))
out_by false next ack is = is

-- the fixed PDU is no control PDU where none leaves as it is sent
fixed_if : {A : Type 0} (f : Pdu → A) (all fixes : Bool) (control fixed : Pdu) (last : A) → (all && fixes) ≡ false
    → (if all then f fixed else last) ≡ (if all then f (if fixes then control else fixed) else last)
fixed_if f true false control fixed last none = refl
fixed_if f true true control fixed last none = absurd (cc)
fixed_if f false fixes control fixed last none = refl

module _ (slot : ℕ) (before : Facts) where
  sent_by : (gone : Bool) → takes_leave before ≡ gone → HasSent before (fixed_sent slot (control_gone_if gone slot before))
  sent_by true is =
      record {
        last = refl;
        payload = payload_if (payload_made before.encryption.end (pdu_fixed before)) (is_acked before.acknowledgement) (control_gone slot before).outgoing;
        acked = refl;
        accepted = refl;
        out = out_by (is_acked before.acknowledgement) (pdu_fixed before) before.acknowledgement refl;
      }
  sent_by false is =
      record {
        last =
            fixed_if (λ (pdu : Pdu). pdu) (is_acked before.acknowledgement) before.fixes_control (pdu_of_control (next_control before)) before.outgoing.fixed
            before.acknowledgement.last is;
        payload = payload_if (payload_made before.encryption.end before.outgoing.fixed) (is_acked before.acknowledgement) before.outgoing
            ∙ fixed_if (payload_made before.encryption.end) (is_acked before.acknowledgement) before.fixes_control (pdu_of_control (next_control before)) before.outgoing.fixed
            before.outgoing.payload is;
        acked = refl;
        accepted = refl;
        out = out_by (is_acked before.acknowledgement) before.outgoing.fixed before.acknowledgement refl;
      }

  pub has_sent : HasSent before (facts_sent slot before)
  has_sent = sent_by (takes_leave before) refl

-- an end whose packet this is has sent it
pub sent_packet : (setup : Setup) (slot : ℕ) (facts : Facts) (channel : ℕ) (octets : List ℕ) (is : IsPacketOf setup slot facts channel octets)
    → HasSent is.before facts
sent_packet setup slot facts channel octets is = subst (HasSent is.before) (sym is.sent) (has_sent slot is.before)
