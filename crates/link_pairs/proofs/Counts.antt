-- Where the last PDU of an end is, by the counts of both ends, and what the two bits of a packet say of that.
use Rattle.std.proofs.Common.{◌≡◌, ◌+◌, ◌==◌, ◌&&◌, not, Bool, true, false, [], ◌∷◌, ◌++◌, length, refl, ap, sym, ◌∙◌, subst, arith, if◌then◌else◌}
use Rattle.std.specs.Bool.{beq}
use Rattle.std.proofs.lemmas.Bool.{and_parts, and_from, eqb-true, eqb-false, ne_eqb, eq-eqb}
use Rattle.data_pdu.specs.declared.header.DataHeader.{DataHeader}
use Rattle.ack_bit.specs.AckBits.{acknowledges, is_new, is_odd}
use Rattle.ack_bit.specs.AckLink.{Packet, SaysWhatIsAccepted, header_from}
use Rattle.ack_bit.specs.InStep.{AreInStep, IsOut}
use Rattle.ack_bit.proofs.Links.{exchanged, received, says, sent}
use Rattle.link_model.specs.Acknowledgement.{Acknowledgement, Pdu, after_sending, bits_of, end_of, is_acked, received_by}
use Rattle.link_model.specs.OneLink.{AreInAgreement}
use Rattle.link_model.proofs.Hearing.{received_ends}
use Rattle.link_pairs.specs.Ways.{IsUnseen, IsUntaken}

-- ---- the last PDU of an end is acknowledged, is taken and not seen to be, or is not taken

pub data Place (from to : Acknowledgement) : Type 0 where
  Seen : is_acked from ≡ true → Place from to
  Unseen : is_acked from ≡ false → IsUnseen from to → Place from to
  Untaken : is_acked from ≡ false → IsUntaken from to → Place from to

pub unseen_is_out : (from to : Acknowledgement) → IsUnseen from to → is_acked from ≡ false
unseen_is_out from to is =
    ne_eqb from.acked (length from.sent) (λ all. omega (arith, all, is.unseen))

pub unseen_is_taken : (from to : Acknowledgement) → IsUnseen from to → IsUntaken from to → ⊥
unseen_is_taken from to is other = omega (arith, is.taken, other)

module _ (from to : Acknowledgement) (agreed : AreInAgreement from to) where
  pub untaken_is_out : IsUntaken from to → is_acked from ≡ false
  untaken_is_out is =
      let accepted = agreed.from_a.reliable.acked_is_accepted in
      ne_eqb from.acked (length from.sent) (λ all. omega (arith, all, is, accepted))

  out_place : is_acked from ≡ false → (taken : Bool) → (length to.accepted == length from.sent) ≡ taken → Place from to
  out_place out true is =
      let other = eqb-false from.acked (length from.sent) out in
      let taken = eqb-true (length to.accepted) (length from.sent) is in
      let r = agreed.from_a.reliable in
      let accepted = r.acked_is_accepted in
      let one = r.one_at_a_time in
      Unseen out (record { taken = taken; unseen = omega (arith, taken, other, accepted, one) })
  out_place out false is =
      let other = eqb-false (length to.accepted) (length from.sent) is in
      let r = agreed.from_a.reliable in
      let only = r.sent_only in
      let ahead = r.at_most_one_ahead in
      Untaken out (omega (arith, other, only, ahead))

  place_by : (acked : Bool) → is_acked from ≡ acked → Place from to
  place_by true is = Seen is
  place_by false is = out_place is (length to.accepted == length from.sent) refl

  pub place_of : Place from to
  place_of = place_by (is_acked from) refl

-- ---- what a packet says: its header has the bits of its sender, which has its last PDU out

abbrev pub HasBitsOf : Acknowledgement → DataHeader → Type 0
HasBitsOf ack header = (header.sn ≡ is_odd ack.acked) × (header.nesn ≡ is_odd (length ack.accepted))

-- whether it acknowledges the last PDU of an end, and whether its own PDU is new there
abbrev pub acknowledged_by : Acknowledgement → DataHeader → Bool
acknowledged_by ack header = not (is_acked ack) && acknowledges (bits_of ack) header

abbrev pub is_fresh : Acknowledgement → DataHeader → Bool
is_fresh ack header = is_new (bits_of ack) header

-- what the packet of the end `from` says to the end `to`
pub record Says (to from : Acknowledgement) (acks fresh : Bool) : Type 0 where
  -- it acknowledges the last PDU of its receiver exactly where that was taken and is not seen to be
  pub unseen : acks ≡ true → IsUnseen to from
  pub acknowledged : IsUnseen to from → acks ≡ true
  -- its own is new exactly where that is not taken
  pub untaken : fresh ≡ true → IsUntaken from to
  pub new : IsUntaken from to → fresh ≡ true

module _ (to from : Acknowledgement) (agreed : AreInAgreement to from) (header : DataHeader) (bits : HasBitsOf from header) where
  abbrev packet : Bool → Packet Pdu
  packet room = record { next = from.last; llid = 1; md = false; length = 0; arrives = true; room = room }

  abbrev bits_sent : DataHeader
  bits_sent = header_from (end_of from) (packet true)

  bits_say : SaysWhatIsAccepted (end_of from) (end_of to) (packet true)
  bits_say = says (end_of from) (end_of to) (packet true) (exchanged (end_of to) (end_of from) agreed)

  acks_same : acknowledges (bits_of to) header ≡ acknowledges (bits_of to) bits_sent
  acks_same = ap (λ (b : Bool). not (beq b (is_odd to.acked))) bits.1

  new_same : is_fresh to header ≡ is_new (bits_of to) bits_sent
  new_same = ap (λ (b : Bool). beq b (is_odd (length to.accepted))) bits.0

  acks_as : acknowledges (bits_of to) header ≡ (length from.accepted == to.acked + 1)
  acks_as = acks_same ∙ bits_say.acked

  new_as : is_acked from ≡ false → is_fresh to header ≡ (length from.sent == length to.accepted + 1)
  new_as out =
      new_same ∙ bits_say.fresh
      ∙ ap (λ (b : Bool). length (if b then from.sent ++ from.last ∷ [] else from.sent) == length to.accepted + 1) out

  unseen_by : acknowledged_by to header ≡ true → IsUnseen to from
  unseen_by is =
      let acks = (and_parts (not (is_acked to)) (acknowledges (bits_of to) header) is).1 in
      let count = eqb-true (length from.accepted) (to.acked + 1) (sym acks_as ∙ acks) in
      let r = agreed.from_a.reliable in
      let only = r.sent_only in
      let one = r.one_at_a_time in
      record { taken = omega (arith, count, only, one); unseen = omega (arith, count, only, one) }

  acknowledged_where : IsUnseen to from → acknowledged_by to header ≡ true
  acknowledged_where is =
      let count : length from.accepted ≡ to.acked + 1 = omega (arith, is.taken, is.unseen) in
      and_from (not (is_acked to)) (acknowledges (bits_of to) header) (ap not (unseen_is_out to from is))
      (acks_as ∙ eq-eqb (length from.accepted) (to.acked + 1) count)

  pub says_right : is_acked from ≡ false → Says to from (acknowledged_by to header) (is_fresh to header)
  says_right out =
      record {
        unseen = unseen_by;
        acknowledged = acknowledged_where;
        untaken = λ is. sym (eqb-true (length from.sent) (length to.accepted + 1) (sym (new_as out) ∙ is));
        new = λ is. new_as out ∙ eq-eqb (length from.sent) (length to.accepted + 1) (sym is);
      }

  -- ---- the counts still agree after it is heard, and taken or not

  unless_acked : (all acks : Bool) → (all ≡ true → acks ≡ false) → (not all && acks) ≡ acks
  unless_acked true acks none = sym (none refl)
  unless_acked false acks none = refl

  acks_out : acknowledged_by to header ≡ acknowledges (bits_of to) header
  acks_out =
      unless_acked (is_acked to) (acknowledges (bits_of to) header)
      (λ all. acks_as ∙ ne_eqb (length from.accepted) (to.acked + 1)
      (λ more. omega (arith, more, eqb-true to.acked (length to.sent) all, agreed.from_a.reliable.sent_only)))

  is_sent : is_acked from ≡ false → IsOut (end_of from)
  is_sent out =
      let other = eqb-false from.acked (length from.sent) out in
      let r = agreed.from_b.reliable in
      let accepted = r.acked_is_accepted in
      let only = r.sent_only in
      omega (arith, other, accepted, only)

  heard_bits : (takes : Bool) → is_acked from ≡ false
      → AreInStep (end_of from) (end_of (received_by (acknowledges (bits_of to) bits_sent) (is_new (bits_of to) bits_sent && takes) from.last to))
  heard_bits takes out =
      subst (AreInStep (end_of from))
      (sym (received_ends to from.last (acknowledges (bits_of to) bits_sent) (is_new (bits_of to) bits_sent && takes)))
      (received (end_of from) (end_of to) (packet takes) (exchanged (end_of to) (end_of from) agreed) (is_sent out))

  pub heard_agreed : (takes : Bool) → is_acked from ≡ false
      → AreInAgreement (received_by (acknowledged_by to header) (is_fresh to header && takes) from.last to) from
  heard_agreed takes out =
      exchanged (end_of from) (end_of (received_by (acknowledged_by to header) (is_fresh to header && takes) from.last to))
      (subst (λ (acks : Bool). AreInStep (end_of from) (end_of (received_by acks (is_fresh to header && takes) from.last to))) (sym (acks_out ∙ acks_same))
      (subst (λ (fresh : Bool). AreInStep (end_of from) (end_of (received_by (acknowledges (bits_of to) bits_sent) (fresh && takes) from.last to))) (sym new_same)
      (heard_bits takes out)))

-- ---- the counts after an end sent

pub sent_agreed : (next : Pdu) (from to : Acknowledgement) → AreInAgreement from to → AreInAgreement (after_sending next from) to
sent_agreed next from to agreed = sent (end_of from) (end_of to) next agreed

pub turned : (one other : Acknowledgement) → AreInAgreement one other → AreInAgreement other one
turned one other agreed = exchanged (end_of one) (end_of other) agreed
