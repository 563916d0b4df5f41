-- The counts of an end as it begins, sends and receives are those that a journal has for it.
use Rattle.std.proofs.Common.{◌≡◌, ℕ, ◌+◌, ◌≤◌, ◌==◌, ◌&&◌, ◌||◌, not, Bool, true, false, Some, List, [], ◌∷◌, ◌++◌, length, refl, sym, ap, subst, ◌∙◌, arith}
use Rattle.std.specs.Prelude.{if◌then◌else◌}
use Rattle.std.proofs.lemmas.Bool.{eqb-true, eqb-false, and_left}
use Rattle.std.proofs.lemmas.List.{length_push}
use Rattle.ble_base.specs.declared.verdicts.Verdict.TheVariants.{Good}
use Rattle.ack_bit.specs.AckBits.{is_new}
use Rattle.journal_packets.specs.link_model.Acknowledgement.{Acknowledgement, Pdu, after_sending, bits_of, first_acknowledgement, is_acked, received_by}
use Rattle.journal_packets.specs.link_model.Data.{is_accepted, is_data, is_empty}
use Rattle.journal_packets.specs.link_model.Controls.{pdu_fixed}
use Rattle.journal_packets.specs.link_model.Facts.{Facts}
use Rattle.journal_packets.specs.link_model.Packets.{good_pdu, header_sent, packet_sent, pdu_sent, verdict_of}
use Rattle.journal_packets.specs.link_model.End.{facts_after}
use Rattle.journal_packets.specs.link_model.Receiving.{accepts, facts_before_taking, has_acknowledged}
use Rattle.journal_packets.specs.link_model.Setup.{Setup as EndSetup}
use Rattle.journal_packets.specs.link_model.Step.{PacketSent, PacketReceived}
use Rattle.journal_packets.proofs.link_model.Acknowledging.{ack_before_taking}
use Rattle.journal_packets.proofs.link_model.Agreeing.{ack_ahead as sent_ack}
use Rattle.journal_packets.proofs.link_model.Hearing.{IsHeardWhole}
use Rattle.journal_packets.specs.open_links.OpenLinks.{OpenLink, facts_in, link_after}
use Rattle.journal_packets.proofs.run_laws.Agreed.{ack_of, ack_sent, step_facts}
use Rattle.journal_packets.specs.run_laws.Ranges.{IsReadable}
use Rattle.journal_packets.specs.run_laws.Shapes.{AgreeInShape}
use Rattle.journal_packets.proofs.run_laws.AgreeingShapes.{heard_shapes, shapes_acked, shapes_fresh, shapes_high, shapes_low}
use Rattle.journal_packets.proofs.run_laws.ReadPackets.{IsGood, good_counts, pdu_with_header, read_good}
use Rattle.journal_acks.specs.Counted.{IsCounted}
use Rattle.journal_acks.specs.Exchange.{Exchanged, first_exchanged, with_heard, with_sent}
use Rattle.journal_acks.proofs.Counting.{accepted_before, ack_taking, has_own_line}

-- ---- an end that begins, and that sends

pub first_counted : IsCounted first_exchanged first_acknowledgement
first_counted = record { sent = refl; accepted = refl; acked = refl }

sent_by : (all : Bool) (pdus : List Pdu) (next : Pdu) (count : ℕ) → count ≡ length pdus
    → (if all then count + 1 else count) ≡ length (if all then pdus ++ next ∷ [] else pdus)
sent_by true pdus next count is = ap (λ n. n + 1) is ∙ sym (length_push pdus next)
sent_by false pdus next count is = is

pub sends_counted : (end : Exchanged) (ack : Acknowledgement) (next : Pdu) → IsCounted end ack → IsCounted (with_sent end) (after_sending next ack)
sends_counted end ack next is = record {
  sent = (λ i. if is.acked i == is.sent i then end.sent + 1 else end.sent) ∙ sent_by (is_acked ack) ack.sent next end.sent is.sent;
  accepted = is.accepted;
  acked = is.acked;
}

pub link_sends : (slot : ℕ) (link : OpenLink) (end : Exchanged) → IsCounted end (ack_of link) → IsCounted (with_sent end) (ack_of (link_after (PacketSent slot) link))
link_sends slot link end is =
    subst (IsCounted (with_sent end)) (sym (ack_sent slot link)) (sends_counted end (ack_of link) (pdu_fixed (facts_in link)) is)

-- ---- an end that receives what the other one sent

-- an empty PDU is no data, and what an end sends is one or the other
is_none : (zero none one two : Bool) → (zero ≡ true → (one || two) ≡ false) → (zero || none) ≡ true → ((one || two) && not none) ≡ false
is_none true none one two differs is = and_left (one || two) (not none) (differs refl)
is_none false true true two differs is = refl
is_none false true false true differs is = refl
is_none false true false false differs is = refl
is_none false false one two differs is = absurd cc

pub empty_is_no_data : (pdu : Pdu) → is_empty pdu ≡ true → is_data pdu ≡ false
empty_is_no_data pdu is =
    is_none (pdu.llid == 0) (length pdu.body == 0) (pdu.llid == 1) (pdu.llid == 2)
    (λ zero. ap (λ n. n == 1 || n == 2) (eqb-true pdu.llid 0 zero)) is

counted : (fresh : Bool) (accepted : List Pdu) (pdu : Pdu) (count : ℕ) → fresh ≡ (count == length accepted + 1)
    → length accepted ≤ count → count ≤ length accepted + 1
    → length (if fresh then accepted ++ pdu ∷ [] else accepted) ≡ count
counted true accepted pdu count is low high = length_push accepted pdu ∙ sym (eqb-true count (length accepted + 1) (sym is))
counted false accepted pdu count is low high = let other = eqb-false count (length accepted + 1) (sym is) in omega (arith, other, low, high)

-- what an end holds that received the packet of the other one, while a PDU with a line of its own does not count
pub record IsTold (from one : Acknowledgement) (pdu : Pdu) (waiting : Acknowledgement) : Type 0 where
  pub empty : is_empty pdu ≡ true → length waiting.accepted ≡ length from.sent
  pub full : is_empty pdu ≡ false → length waiting.accepted ≡ length one.accepted
  pub acked : waiting.acked ≡ length from.accepted
  pub sent : waiting.sent ≡ one.sent

-- all that was sent is accepted where a PDU with no data may be
module _ (sender : Facts) (one : Acknowledgement) (agreed : AgreeInShape (sent_ack sender) one) (pdu : Pdu) where
  all_sent : (accepted : Bool) → accepted ≡ is_new (bits_of one) (header_sent sender)
      → length (if accepted then one.accepted ++ pdu ∷ [] else one.accepted) ≡ length (sent_ack sender).sent
  all_sent accepted is =
      counted accepted one.accepted pdu (length (sent_ack sender).sent) (is ∙ shapes_fresh sender one agreed)
      (shapes_low sender one agreed) (shapes_high sender one agreed)

-- an end that receives a good packet of the other one
module _ (whole : IsHeardWhole) (slot now : ℕ) (one from : OpenLink) (octets : List ℕ) (readable : IsReadable (facts_in from))
    (fields : from.setup.link.fields ≡ one.setup.link.fields) (packet : octets ≡ packet_sent from.setup (facts_in from))
    (channel : (facts_in from).event.channel ≡ (facts_in one).event.channel) (good : verdict_of one.setup (facts_in one) octets ≡ Good)
    (agreed : AgreeInShape (ack_of (link_after (PacketSent now) from)) (ack_of one)) where
  abbrev far : Facts
  far = facts_in from

  abbrev listener : Facts
  listener = facts_in one

  abbrev own : EndSetup
  own = one.setup

  read : IsGood whole from.setup own far listener readable fields channel
  read = read_good whole from.setup own far listener readable fields channel (ap (verdict_of own listener) (sym packet) ∙ good)

  -- the PDU that it reads
  abbrev pdu : Pdu
  pdu = record { llid = (pdu_sent far).llid; body = read.body }

  own_line : has_own_line (good_pdu own listener octets) ≡ not (is_empty (pdu_sent far))
  own_line =
      ap (λ xs. has_own_line (good_pdu own listener xs)) packet ∙ ap has_own_line read.is.good
      ∙ ap (λ p. not (is_empty p)) (pdu_with_header far listener readable read.body) ∙ ap not read.is.is_body.empty

  once : AgreeInShape (sent_ack far) (ack_of one)
  once = subst (λ a. AgreeInShape a (ack_of one)) (ack_sent now from) agreed

  received_is : (room : Bool) → ack_of (link_after (PacketReceived slot octets room) one) ≡ (facts_after own listener (PacketReceived slot (packet_sent from.setup far) room)).acknowledgement
  received_is room =
      ap (λ (f : Facts). f.acknowledgement) (step_facts one (PacketReceived slot octets room))
      ∙ ap (λ xs. (facts_after own listener (PacketReceived slot xs room)).acknowledgement) packet

  abbrev accepts_it : Bool
  accepts_it = accepts false (header_sent far) pdu (facts_before_taking own.link.role slot (header_sent far) listener)

  form : ack_of (link_after (PacketReceived slot octets false) one)
      ≡ received_by (has_acknowledged listener (header_sent far)) accepts_it pdu (ack_of one)
  form = received_is false ∙ good_counts whole from.setup own far listener readable fields channel slot false read.body read.is

  accepts_empty : is_empty (pdu_sent far) ≡ true → accepts_it ≡ is_new (bits_of (ack_of one)) (header_sent far)
  accepts_empty none =
      let empty = read.is.is_body.empty ∙ none in
      let header = header_sent far in
      let before = facts_before_taking own.link.role slot header listener in
      ap (λ (a : Acknowledgement). is_accepted false (is_new (bits_of a) header) pdu && (is_empty pdu || not before.leaving.acknowledged))
      (ack_before_taking own.link.role slot header listener)
      ∙ all_of (is_new (bits_of (ack_of one)) header) (is_data pdu) (is_empty pdu) before.leaving.acknowledged (empty_is_no_data pdu empty) empty
    where
      all_of : (fresh full empty ended : Bool) → full ≡ false → empty ≡ true → ((fresh && (false || not full)) && (empty || not ended)) ≡ fresh
      all_of true false true ended none is = refl
      all_of false false true ended none is = refl
      all_of fresh true empty ended none is = absurd cc
      all_of fresh false false ended none is = absurd cc

  abbrev waiting : Acknowledgement
  waiting = ack_taking true (Some octets) slot one

  accepted_by : (empty : Bool) → is_empty (pdu_sent far) ≡ empty → waiting.accepted ≡ accepted_before (not empty) slot octets one
  accepted_by empty is = ap (λ b. accepted_before b slot octets one) (own_line ∙ ap not is)

  pub told : IsTold (ack_of (link_after (PacketSent now) from)) (ack_of one) (pdu_sent far) waiting
  told = record {
    empty = λ empty. ap length (accepted_by true empty) ∙ ap (λ (a : Acknowledgement). length a.accepted) form
        ∙ all_sent far (ack_of one) once pdu accepts_it (accepts_empty empty) ∙ ap (λ (a : Acknowledgement). length a.sent) (sym (ack_sent now from));
    full = λ full. ap length (accepted_by false full);
    acked = ap (λ (a : Acknowledgement). a.acked) (received_is false)
        ∙ shapes_acked whole from.setup own far listener slot false readable fields channel once read.body read.is
        ∙ ap (λ (a : Acknowledgement). length a.accepted) (sym (ack_sent now from));
    sent = ap (λ (a : Acknowledgement). a.sent) form;
  }

  -- one more that it accepts is all that was sent
  pub takes_all : (room : Bool) → length (ack_of (link_after (PacketReceived slot octets room) one)).accepted ≡ length (ack_of one).accepted + 1
      → length (ack_of (link_after (PacketSent now) from)).sent ≡ length (ack_of one).accepted + 1
  takes_all room more =
      let after = heard_shapes whole from.setup own far listener slot room readable fields channel once in
      let low = shapes_low far _ after in
      let high = shapes_high far (ack_of one) once in
      let same = ap (λ (a : Acknowledgement). length a.accepted) (received_is room) in
      let sent = ap (λ (a : Acknowledgement). length a.sent) (ack_sent now from) in
      omega (arith, low, high, same, more, sent)

-- what the line of its packet says, before it is noted that the PDU is taken
heard_accepted : (empty : Bool) (from one : Exchanged) (sender ack next : ℕ) → (empty ≡ true → next ≡ sender) → (empty ≡ false → next ≡ ack)
    → from.sent ≡ sender → one.accepted ≡ ack → (with_heard empty from one).accepted ≡ next
heard_accepted true from one sender ack next full none is is_too = is ∙ sym (full refl)
heard_accepted false from one sender ack next full none is is_too = is_too ∙ sym (none refl)

pub hears_counted : (end from : Exchanged) (ack sender waiting : Acknowledgement) (pdu : Pdu) → IsCounted end ack → IsCounted from sender
    → IsTold sender ack pdu waiting → IsCounted (with_heard (is_empty pdu) from end) waiting
hears_counted end from ack sender waiting pdu is from_is tells = record {
  sent = is.sent ∙ ap length (sym tells.sent);
  accepted = heard_accepted (is_empty pdu) from end (length sender.sent) (length ack.accepted) (length waiting.accepted) tells.empty tells.full from_is.sent is.accepted;
  acked = from_is.accepted ∙ sym tells.acked;
}
