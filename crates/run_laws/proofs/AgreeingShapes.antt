-- The numbers and the shapes of the PDUs of both ends of a link agree in all phases of encryption.
use Rattle.std.proofs.Common.{◌≡◌, ℕ, ◌+◌, ◌≤◌, ◌==◌, ◌&&◌, ◌||◌, ◌⊎◌, inl, inr, not, Bool, true, false, None, List, [], ◌∷◌, ◌++◌, length, refl, sym, ap, subst, ◌∙◌, arith, if◌then◌else◌}
use Rattle.std.specs.Prelude.{map}
use Rattle.std.proofs.lemmas.Bool.{eqb-true, eqb-false, ne_eqb}
use Rattle.std.proofs.lemmas.List.{length-map, length_push, map_push}
use Rattle.ack_bit.specs.AckBits.{acknowledges, is_new}
use Rattle.ack_bit.specs.AckLink.{End, Packet, after_receiving, after_sending as end_sending, is_acked as is_end_acked}
use Rattle.ack_bit.specs.InStep.{AreInStep, IsOut}
use Rattle.ack_bit.proofs.Links.{acked_count, received, says, sent as sends}
use Rattle.run_model.specs.link_model.Acknowledgement.{Acknowledgement, Pdu, after_sending, bits_of, empty_pdu, is_acked, next_sent, received_by}
use Rattle.run_model.specs.link_model.Controls.{pdu_fixed}
use Rattle.run_model.specs.link_model.Data.{is_accepted, is_data, is_empty}
use Rattle.run_model.specs.link_model.End.{facts_after}
use Rattle.run_model.specs.link_model.Facts.{Facts}
use Rattle.run_model.specs.link_model.Packets.{good_pdu, header_sent, more_sent, packet_sent, payload_sent, pdu_sent}
use Rattle.run_model.specs.link_model.Receiving.{accepts, facts_before_taking}
use Rattle.run_model.specs.link_model.Setup.{Setup}
use Rattle.run_model.specs.link_model.Step.{PacketReceived}
use Rattle.run_model.proofs.link_model.Acknowledging.{ack_before_taking}
use Rattle.run_model.proofs.link_model.Agreeing.{ack_ahead, unless_acked}
use Rattle.run_model.proofs.link_model.Hearing.{IsHeardWhole, received_ends}
use Rattle.run_laws.specs.Ranges.{IsReadable}
use Rattle.run_laws.specs.Shapes.{AgreeInShape, Shape, shape_of, shapes_of}
use Rattle.run_laws.proofs.ReadPackets.{IsGood, IsGoodWith, good_counts, good_or_not, unread_leaves}

-- ---- an end that sends

shapes_next : (acked : Bool) (next : Pdu) (ack : Acknowledgement)
    → shapes_of (next_sent acked next ack)
    ≡ record {
      bits = bits_of ack;
      sent = (if acked then map shape_of ack.sent ++ shape_of next ∷ [] else map shape_of ack.sent);
      last = (if acked then shape_of next else shape_of ack.last);
      acked = ack.acked;
      accepted = map shape_of ack.accepted;
    }
shapes_next true next ack =
    λ i. record {
      bits = bits_of ack;
      sent = map_push shape_of ack.sent next i;
      last = shape_of next;
      acked = ack.acked;
      accepted = map shape_of ack.accepted;
    }
shapes_next false next ack = refl

acked_alike : (ack : Acknowledgement) → is_end_acked (shapes_of ack) ≡ is_acked ack
acked_alike ack = ap (λ n. ack.acked == n) (length-map ack.sent shape_of)

shapes_sent : (next : Pdu) (ack : Acknowledgement) → shapes_of (after_sending next ack) ≡ end_sending (shapes_of ack) (shape_of next)
shapes_sent next ack =
    shapes_next (is_acked ack) next ack
    ∙ (λ i. record {
      bits = bits_of ack;
      sent = (if sym (acked_alike ack) i then map shape_of ack.sent ++ shape_of next ∷ [] else map shape_of ack.sent);
      last = (if sym (acked_alike ack) i then shape_of next else shape_of ack.last);
      acked = ack.acked;
      accepted = map shape_of ack.accepted;
    })

pub sent_shapes : (next : Pdu) (one other : Acknowledgement) → AgreeInShape one other → AgreeInShape (after_sending next one) other
sent_shapes next one other agreed =
    subst (λ e. AreInStep e (shapes_of other)) (sym (shapes_sent next one)) (sends (shapes_of one) (shapes_of other) (shape_of next) agreed)

-- ---- an end that receives

-- an end, with the shapes of what it sent and accepted
abbrev shaped : End Pdu → End Shape
shaped end = record {
  bits = end.bits;
  sent = map shape_of end.sent;
  last = shape_of end.last;
  acked = end.acked;
  accepted = map shape_of end.accepted;
}

map_if : (accepted : Bool) (pdus : List Pdu) (pdu : Pdu) → map shape_of (if accepted then pdus ++ pdu ∷ [] else pdus)
    ≡ (if accepted then map shape_of pdus ++ shape_of pdu ∷ [] else map shape_of pdus)
map_if true pdus pdu = map_push shape_of pdus pdu
map_if false pdus pdu = refl

shapes_received : (ack : Acknowledgement) (pdu : Pdu) (acked accepted : Bool)
    → shapes_of (received_by acked accepted pdu ack) ≡ record {
      bits = record {
        sn = (if acked then not (bits_of ack).sn else (bits_of ack).sn);
        nesn = (if accepted then not (bits_of ack).nesn else (bits_of ack).nesn);
      };
      sent = map shape_of ack.sent;
      last = shape_of ack.last;
      acked = (if acked then ack.acked + 1 else ack.acked);
      accepted = (if accepted then map shape_of ack.accepted ++ shape_of pdu ∷ [] else map shape_of ack.accepted);
    }
shapes_received ack pdu acked accepted =
    ap shaped (received_ends ack pdu acked accepted)
    ∙ (λ i. record {
      bits = record {
        sn = (if acked then not (bits_of ack).sn else (bits_of ack).sn);
        nesn = (if accepted then not (bits_of ack).nesn else (bits_of ack).nesn);
      };
      sent = map shape_of ack.sent;
      last = shape_of ack.last;
      acked = (if acked then ack.acked + 1 else ack.acked);
      accepted = map_if accepted ack.accepted pdu i;
    })

-- ---- an end that sent has a PDU out

out_by : (acked : Bool) (next : Pdu) (ack other : Acknowledgement) → is_acked ack ≡ acked → AgreeInShape (next_sent acked next ack) other
    → IsOut (shapes_of (next_sent acked next ack))
out_by true next ack other is agreed =
    let all = eqb-true ack.acked (length ack.sent) is in
    omega (arith, all, length-map (ack.sent ++ next ∷ []) shape_of, length_push ack.sent next)
out_by false next ack other is agreed =
    let some = eqb-false ack.acked (length ack.sent) is in
    let low = agreed.from_a.reliable.acked_is_accepted in
    let high = agreed.from_a.reliable.sent_only in
    omega (arith, some, low, high, length-map ack.sent shape_of)

-- ---- what the other end makes of its packet

-- with room for its PDU or with none
abbrev packet_of : Facts → Bool → Packet Shape
packet_of sender room =
    record {
      next = shape_of (pdu_fixed sender);
      llid = (pdu_sent sender).llid;
      md = more_sent sender;
      length = length (payload_sent sender);
      arrives = true;
      room = room;
    }

grouped : (first second third : Bool) → ((first && second) && third) ≡ (first && (second && third))
grouped true second third = refl
grouped false second third = refl

module _ (sender : Facts) (other : Acknowledgement) (agreed : AgreeInShape (ack_ahead sender) other) where
  abbrev header_bits : Bool
  header_bits = acknowledges (bits_of other) (header_sent sender)

  acknowledges_out : (not (is_acked other) && header_bits) ≡ header_bits
  acknowledges_out =
      unless_acked (is_acked other) header_bits
      (λ all. (says (shapes_of (ack_ahead sender)) (shapes_of other) (packet_of sender true) agreed).acked
      ∙ ne_eqb (length (map shape_of sender.acknowledgement.accepted)) (other.acked + 1)
      (λ more. let only = agreed.from_b.reliable.sent_only in
      omega (arith, more, eqb-true other.acked (length other.sent) all, only, length-map other.sent shape_of)))

  hearing : (room : Bool) (shape : Shape) → shape ≡ shape_of (pdu_sent sender)
      → AreInStep (shapes_of (ack_ahead sender)) (after_receiving (shapes_of other) (header_sent sender) shape room)
  hearing room shape is =
      subst (λ s. AreInStep (shapes_of (ack_ahead sender)) (after_receiving (shapes_of other) (header_sent sender) s room)) (sym is)
      (received (shapes_of (ack_ahead sender)) (shapes_of other) (packet_of sender room) agreed
      (out_by (is_acked sender.acknowledgement) (pdu_fixed sender) sender.acknowledgement other refl agreed))

-- the counts of both ends
module _ (sender : Facts) (other : Acknowledgement) (agreed : AgreeInShape (ack_ahead sender) other) where
  pub shapes_low : length other.accepted ≤ length (ack_ahead sender).sent
  shapes_low =
      let only = agreed.from_a.reliable.sent_only in
      omega (arith, only, length-map other.accepted shape_of, length-map (ack_ahead sender).sent shape_of)

  pub shapes_high : length (ack_ahead sender).sent ≤ length other.accepted + 1
  shapes_high =
      let ahead = agreed.from_a.reliable.at_most_one_ahead in
      omega (arith, ahead, length-map other.accepted shape_of, length-map (ack_ahead sender).sent shape_of)

  -- a packet brings a new PDU just where that is not accepted yet
  pub shapes_fresh : is_new (bits_of other) (header_sent sender) ≡ (length (ack_ahead sender).sent == length other.accepted + 1)
  shapes_fresh =
      let ahead = shapes_of (ack_ahead sender) in
      let next = shape_of (pdu_fixed sender) in
      let out = out_by (is_acked sender.acknowledgement) (pdu_fixed sender) sender.acknowledgement other refl agreed in
      (says ahead (shapes_of other) (packet_of sender true) agreed).fresh
      ∙ ap (λ b. length (if b then ahead.sent ++ next ∷ [] else ahead.sent) == length (map shape_of other.accepted) + 1)
      (ne_eqb ahead.acked (length ahead.sent) (λ same. absurd (omega (arith, same, out))))
      ∙ (λ i. length-map (ack_ahead sender).sent shape_of i == length-map other.accepted shape_of i + 1)

module _ (whole : IsHeardWhole) (from to : Setup) (sender listener : Facts) (slot : ℕ) (room : Bool) (readable : IsReadable sender)
    (fields : from.link.fields ≡ to.link.fields) (channel : sender.event.channel ≡ listener.event.channel)
    (agreed : AgreeInShape (ack_ahead sender) listener.acknowledgement) where
  abbrev after : Acknowledgement
  after = (facts_after to listener (PacketReceived slot (packet_sent from sender) room)).acknowledgement

  abbrev ended : Bool
  ended = (facts_before_taking to.link.role slot (header_sent sender) listener).leaving.acknowledged

  good_agrees : (body : List ℕ) → IsGoodWith whole from to sender listener readable fields channel body → AgreeInShape (ack_ahead sender) after
  good_agrees body is =
      let other = listener.acknowledgement in
      let header = header_sent sender in
      let pdu : Pdu = record { llid = (pdu_sent sender).llid; body = body } in
      let takes : Bool = (room || not (is_data pdu)) && (is_empty pdu || not ended) in
      let accepted : accepts room header pdu (facts_before_taking to.link.role slot header listener) ≡ (is_new (bits_of other) header && takes) =
      ap (λ (a : Acknowledgement). is_accepted room (is_new (bits_of a) header) pdu && (is_empty pdu || not ended))
      (ack_before_taking to.link.role slot header listener)
      ∙ grouped (is_new (bits_of other) header) (room || not (is_data pdu)) (is_empty pdu || not ended) in
      let shape : shape_of pdu ≡ shape_of (pdu_sent sender) = λ i. record { llid = (pdu_sent sender).llid; empty = is.is_body.empty i } in
      subst (AgreeInShape (ack_ahead sender))
      (sym (good_counts whole from to sender listener readable fields channel slot room body is
      ∙ (λ i. received_by (acknowledges_out sender other agreed i) (accepted i) pdu other)))
      (subst (AreInStep (shapes_of (ack_ahead sender)))
      (sym (shapes_received other pdu (acknowledges (bits_of other) header) (is_new (bits_of other) header && takes)))
      (hearing sender other agreed takes (shape_of pdu) shape))

  -- it says how many the sender accepted
  pub shapes_acked : (body : List ℕ) → IsGoodWith whole from to sender listener readable fields channel body
      → after.acked ≡ length sender.acknowledgement.accepted
  shapes_acked body is =
      let other = listener.acknowledgement in
      ap (λ (a : Acknowledgement). a.acked) (good_counts whole from to sender listener readable fields channel slot room body is)
      ∙ ap (λ b. if b then other.acked + 1 else other.acked) (acknowledges_out sender other agreed)
      ∙ acked_count (shapes_of (ack_ahead sender)) (shapes_of other) (packet_of sender true) (shape_of empty_pdu) agreed.from_b
      ∙ length-map sender.acknowledgement.accepted shape_of

  pub heard_shapes : AgreeInShape (ack_ahead sender) after
  heard_shapes = by (good_or_not whole from to sender listener readable fields channel)
    where
      by : (good_pdu to listener (packet_sent from sender) ≡ None) ⊎ IsGood whole from to sender listener readable fields channel
          → AgreeInShape (ack_ahead sender) after
      by (inl none) =
          subst (AgreeInShape (ack_ahead sender)) (sym (unread_leaves whole from to sender listener readable fields channel slot room none)) agreed
      by (inr good) = good_agrees good.body good.is
