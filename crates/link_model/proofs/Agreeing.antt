-- The two ends of a link stay in agreement.
use Rattle.std.proofs.Common.{◌≡◌, ◌≤◌, ℕ, ◌+◌, ◌==◌, ◌&&◌, ◌||◌, not, Bool, true, false, List, [], ◌∷◌, ◌++◌, length, None, refl, ap, sym, ◌∙◌, subst, arith, if◌then◌else◌}
use Rattle.std.proofs.lemmas.Bool.{eqb-true, eqb-false, ne_eqb}
use Rattle.std.proofs.lemmas.List.{length-append}
use Rattle.ble_base.specs.declared.roles.Role.{Role}
use Rattle.ack_bit.specs.AckBits.{acknowledges, is_new}
use Rattle.ack_bit.specs.AckLink.{Packet}
use Rattle.ack_bit.specs.InStep.{AreInStep, IsOut}
use Rattle.ack_bit.proofs.Links.{acked_count, begins, received, says, sent as sends}
use Rattle.data_pdu.specs.declared.header.DataHeader.{DataHeader}
use Rattle.link_model.specs.Setup.{Setup}
use Rattle.link_model.specs.Acknowledgement.{Acknowledgement, Pdu, after_sending, bits_of, empty_pdu, end_of, is_acked, next_sent, received_by}
use Rattle.link_model.specs.Data.{is_accepted, is_control, is_data, is_empty}
use Rattle.link_model.specs.OneLink.{AreInAgreement}
use Rattle.link_model.proofs.Hearing.{IsHeardWhole, received_ends}
use Rattle.link_model.specs.Facts.{Facts}
use Rattle.link_model.specs.Step.{Step, DataGiven, DataReported, Disconnected, EventEntered, PacketReceived, PacketSent, PduFixed, ProcedureAsked, RequestAnswered, KeyAnswered, WordsGiven}
use Rattle.link_model.specs.Controls.{goes_on, pdu_fixed}
use Rattle.link_model.specs.Hosts.{is_to_come}
use Rattle.link_model.specs.Packets.{good_pdu, header_sent, more_sent, packet_sent, payload_sent, pdu_sent, is_forged}
use Rattle.link_model.specs.Hearing.{IsUnderstood, is_on_air}
use Rattle.link_model.specs.Receiving.{accepts, facts_before_taking, facts_received, facts_forged_if}
use Rattle.link_model.specs.End.{facts_after, facts_of}
use Rattle.link_model.proofs.Acknowledging.{ack_before_taking, ack_heard, ack_sent, asked_leaves, entered_leaves, fixed_leaves}
use Rattle.link_model.proofs.Ending.{heard_as_now}
use Rattle.link_model.proofs.Received.{facts_heard}

-- what an end has sent and accepted once it sent its packet
abbrev pub ack_ahead : Facts → Acknowledgement
ack_ahead sender = after_sending (pdu_fixed sender) sender.acknowledgement

pub sent_agreed : (from : Setup) (slot : ℕ) (sender : Facts) (other : Acknowledgement) → AreInAgreement sender.acknowledgement other
    → AreInAgreement (facts_after from sender (PacketSent slot)).acknowledgement other
sent_agreed from slot sender other agreed =
    subst (λ (a : Acknowledgement). AreInAgreement a other) (sym (ack_sent slot sender))
    (sends (end_of sender.acknowledgement) (end_of other) (pdu_fixed sender) agreed)

-- ---- an end that sent has a PDU out

out_by : (acked : Bool) (next : Pdu) (ack other : Acknowledgement) → is_acked ack ≡ acked → AreInAgreement (next_sent acked next ack) other
    → IsOut (end_of (next_sent acked next ack))
out_by true next ack other is agreed =
    omega (arith, eqb-true ack.acked (length ack.sent) is, length-append ack.sent (next ∷ []))
out_by false next ack other is agreed =
    let reliable = agreed.from_a.reliable in
    omega (arith, eqb-false ack.acked (length ack.sent) is, reliable.acked_is_accepted, reliable.sent_only)

-- ---- what the other end makes of its packet

-- the packet, where there is room for its PDU or not
abbrev packet_of : Facts → Bool → Packet Pdu
packet_of sender room =
    record {
      next = pdu_fixed sender;
      llid = (pdu_sent sender).llid;
      md = more_sent sender;
      length = length (payload_sent sender);
      arrives = true;
      room = room;
    }

-- there is room for it: for its data, and an end whose LL_TERMINATE_IND is acknowledged has room for no PDU but an empty
-- one
abbrev takes_room : Bool → Pdu → Bool → Bool
takes_room room pdu ended = (room || not (is_data pdu)) && (is_empty pdu || not ended)

grouped : (first second third : Bool) → (first && second && third) ≡ (first && (second && third))
grouped true second third = refl
grouped false second third = refl

module _ (role : Role) (slot : ℕ) (room : Bool) (header : DataHeader) (pdu : Pdu) (facts : Facts) where
  abbrev now : Facts
  now = facts_before_taking role slot header facts

  accepts_by : accepts room header pdu now ≡ (is_new (bits_of facts.acknowledgement) header && takes_room room pdu now.leaving.acknowledged)
  accepts_by =
      ap (λ (a : Acknowledgement). is_accepted room (is_new (bits_of a) header) pdu && (is_empty pdu || not now.leaving.acknowledged))
      (ack_before_taking role slot header facts)
      ∙ grouped (is_new (bits_of facts.acknowledgement) header) (room || not (is_data pdu)) (is_empty pdu || not now.leaving.acknowledged)

-- what a packet acknowledges is out
pub unless_acked : (all says : Bool) → (all ≡ true → says ≡ false) → (not all && says) ≡ says
unless_acked true says none = sym (none refl)
unless_acked false says none = refl

-- what the other end holds after it heard the packet, with room for a PDU or with none
abbrev ack_hearing : Facts → Acknowledgement → (Pdu → Bool) → Pdu → Acknowledgement
ack_hearing sender other room pdu =
    received_by (acknowledges (bits_of other) (header_sent sender)) (is_new (bits_of other) (header_sent sender) && room pdu) pdu other

module _ (sender : Facts) (other : Acknowledgement) (agreed : AreInAgreement (ack_ahead sender) other) where
  acknowledges_out : (not (is_acked other) && acknowledges (bits_of other) (header_sent sender)) ≡ acknowledges (bits_of other) (header_sent sender)
  acknowledges_out =
      unless_acked (is_acked other) (acknowledges (bits_of other) (header_sent sender))
      (λ all. (says (end_of (ack_ahead sender)) (end_of other) (packet_of sender true) agreed).acked
      ∙ ne_eqb (length sender.acknowledgement.accepted) (other.acked + 1)
      (λ more. omega (arith, more, eqb-true other.acked (length other.sent) all, agreed.from_b.reliable.sent_only)))

  hearing_agreed : (room : Bool) → AreInAgreement (ack_ahead sender) (ack_hearing sender other (λ pdu. room) (pdu_sent sender))
  hearing_agreed room =
      subst (λ e. AreInStep (end_of (ack_ahead sender)) e)
      (sym (received_ends other (pdu_sent sender) (acknowledges (bits_of other) (header_sent sender)) (is_new (bits_of other) (header_sent sender) && room)))
      (received (end_of (ack_ahead sender)) (end_of other) (packet_of sender room) agreed
      (out_by (is_acked sender.acknowledgement) (pdu_fixed sender) sender.acknowledgement other refl agreed))

counted : (fresh room : Bool) (accepted : List Pdu) (pdu : Pdu) (count : ℕ) → room ≡ true → fresh ≡ (count == length accepted + 1)
    → length accepted ≤ count → count ≤ length accepted + 1
    → length (if fresh && room then accepted ++ pdu ∷ [] else accepted) ≡ count
counted true true accepted pdu count there is low high =
    length-append accepted (pdu ∷ []) ∙ sym (eqb-true count (length accepted + 1) (sym is))
counted false true accepted pdu count there is low high =
    let other = eqb-false count (length accepted + 1) (sym is) in omega (arith, other)
counted fresh false accepted pdu count there is low high = absurd cc

room_where : (empty ended : Bool) → ended ≡ false → (empty || not ended) ≡ true
room_where true ended is = refl
room_where false false is = refl
room_where false true is = absurd cc

module _ (whole : IsHeardWhole) (from to : Setup) (sender listener : Facts) (slot : ℕ) (room : Bool)
    (is : IsUnderstood from sender to listener) (agreed : AreInAgreement (ack_ahead sender) listener.acknowledgement)
  where
    abbrev after : Facts
    after = facts_after to listener (PacketReceived slot (packet_sent from sender) room)

    abbrev ended : Bool
    ended = (facts_before_taking to.link.role slot (header_sent sender) listener).leaving.acknowledged

    ack_after : after.acknowledgement ≡ ack_hearing sender listener.acknowledgement (λ pdu. takes_room room pdu ended) (pdu_sent sender)
    ack_after =
        ap (λ (f : Facts). f.acknowledgement) (facts_heard whole from to sender listener is slot room)
        ∙ ack_heard to.link.role slot room (header_sent sender) (pdu_sent sender) listener
        ∙ (λ i. received_by (acknowledges_out sender listener.acknowledgement agreed i)
        (accepts_by to.link.role slot room (header_sent sender) (pdu_sent sender) listener i)
        (pdu_sent sender) listener.acknowledgement)

    heard_agreed : AreInAgreement (ack_ahead sender) after.acknowledgement
    heard_agreed =
        subst (AreInAgreement (ack_ahead sender)) (sym ack_after)
        (hearing_agreed sender listener.acknowledgement agreed (takes_room room (pdu_sent sender) ended))

    says_acked : after.acknowledgement.acked ≡ length sender.acknowledgement.accepted
    says_acked =
        ap (λ (a : Acknowledgement). a.acked) ack_after
        ∙ acked_count (end_of (ack_ahead sender)) (end_of listener.acknowledgement) (packet_of sender true) empty_pdu agreed.from_b

-- where it has room and goes on, it has accepted all that was sent
module _ (sender : Facts) (other : Acknowledgement) (agreed : AreInAgreement (ack_ahead sender) other) where
  fresh_is : is_new (bits_of other) (header_sent sender) ≡ (length (ack_ahead sender).sent == length other.accepted + 1)
  fresh_is =
      let ahead = ack_ahead sender in
      let next = pdu_fixed sender in
      let out = out_by (is_acked sender.acknowledgement) next sender.acknowledgement other refl agreed in
      (says (end_of ahead) (end_of other) (packet_of sender true) agreed).fresh
      ∙ ap (λ b. length (if b then ahead.sent ++ next ∷ [] else ahead.sent) == length other.accepted + 1)
      (ne_eqb ahead.acked (length ahead.sent) (λ same. absurd (omega (arith, same, out))))

module _ (whole : IsHeardWhole) (from to : Setup) (sender listener : Facts) (slot : ℕ) (is : IsUnderstood from sender to listener)
    (agreed : AreInAgreement (ack_ahead sender) listener.acknowledgement)
  where
    abbrev after_with_room : Facts
    after_with_room = facts_after to listener (PacketReceived slot (packet_sent from sender) true)

    goes_on_now : after_with_room.leaving.acknowledged ≡ false
        → (facts_before_taking to.link.role slot (header_sent sender) listener).leaving.acknowledged ≡ false
    goes_on_now lasts =
        sym (heard_as_now to.link.role slot true (header_sent sender) (pdu_sent sender) listener)
        ∙ sym (ap (λ (f : Facts). f.leaving.acknowledged) (facts_heard whole from to sender listener is slot true)) ∙ lasts

    says_accepted : after_with_room.leaving.acknowledged ≡ false
        → length after_with_room.acknowledgement.accepted ≡ length (ack_ahead sender).sent
    says_accepted lasts =
        let other = listener.acknowledgement in
        let reliable = agreed.from_a.reliable in
        let ended = (facts_before_taking to.link.role slot (header_sent sender) listener).leaving.acknowledged in
        ap (λ (a : Acknowledgement). length a.accepted) (ack_after whole from to sender listener slot true is agreed)
        ∙ counted (is_new (bits_of other) (header_sent sender)) (takes_room true (pdu_sent sender) ended) other.accepted (pdu_sent sender)
        (length (ack_ahead sender).sent) (room_where (is_empty (pdu_sent sender)) ended (goes_on_now lasts))
        (fresh_is sender other agreed) reliable.sent_only reliable.at_most_one_ahead

-- ---- as the laws have it

pub heard_agrees : (whole : IsHeardWhole) (from to : Setup) (sender listener : Facts) (slot : ℕ) (room : Bool)
    → IsUnderstood from sender to listener
    → AreInAgreement (facts_after from sender (PacketSent slot)).acknowledgement listener.acknowledgement
    → AreInAgreement (facts_after from sender (PacketSent slot)).acknowledgement
    (facts_after to listener (PacketReceived slot (packet_sent from sender) room)).acknowledgement
heard_agrees whole from to sender listener slot room is agreed =
    let ahead = ack_sent slot sender in
    subst (λ (a : Acknowledgement). AreInAgreement a (facts_after to listener (PacketReceived slot (packet_sent from sender) room)).acknowledgement)
    (sym ahead)
    (heard_agreed whole from to sender listener slot room is
    (subst (λ (a : Acknowledgement). AreInAgreement a listener.acknowledgement) ahead agreed))

pub heard_acks : (whole : IsHeardWhole) (from to : Setup) (sender listener : Facts) (slot : ℕ) (room : Bool)
    → IsUnderstood from sender to listener
    → AreInAgreement (facts_after from sender (PacketSent slot)).acknowledgement listener.acknowledgement
    → (facts_after to listener (PacketReceived slot (packet_sent from sender) room)).acknowledgement.acked
    ≡ length sender.acknowledgement.accepted
heard_acks whole from to sender listener slot room is agreed =
    says_acked whole from to sender listener slot room is
    (subst (λ (a : Acknowledgement). AreInAgreement a listener.acknowledgement) (ack_sent slot sender) agreed)

pub heard_accepts : (whole : IsHeardWhole) (from to : Setup) (sender listener : Facts) (slot : ℕ)
    → IsUnderstood from sender to listener
    → AreInAgreement (facts_after from sender (PacketSent slot)).acknowledgement listener.acknowledgement
    → (facts_after to listener (PacketReceived slot (packet_sent from sender) true)).leaving.acknowledged ≡ false
    → length (facts_after to listener (PacketReceived slot (packet_sent from sender) true)).acknowledgement.accepted
    ≡ length (facts_after from sender (PacketSent slot)).acknowledgement.sent
heard_accepts whole from to sender listener slot is agreed lasts =
    let ahead = ack_sent slot sender in
    says_accepted whole from to sender listener slot is
    (subst (λ (a : Acknowledgement). AreInAgreement a listener.acknowledgement) ahead agreed) lasts
    ∙ sym (ap (λ (a : Acknowledgement). length a.sent) ahead)

pub first_agreed : (one other : Setup) → AreInAgreement (facts_of one []).acknowledgement (facts_of other []).acknowledgement
unfolding facts_of
first_agreed one other = begins empty_pdu empty_pdu

-- ---- what leaves it

pub others_leave : (setup : Setup) (facts : Facts) (step : Step) → is_on_air step ≡ false
    → (facts_after setup facts step).acknowledgement ≡ facts.acknowledgement
others_leave setup facts (DataGiven start body) is = refl
others_leave setup facts (ProcedureAsked ask) is = asked_leaves (is_to_come ask facts) ask facts
others_leave setup facts (RequestAnswered answer) is = refl
others_leave setup facts (KeyAnswered key slot) is = refl
others_leave setup facts (Disconnected reason slot) is = refl
others_leave setup facts (EventEntered slot) is = entered_leaves (goes_on facts) setup slot facts
others_leave setup facts PduFixed is = fixed_leaves (is_control facts.outgoing.fixed) facts
others_leave setup facts (PacketSent slot) is = absurd cc
others_leave setup facts (WordsGiven skd_s iv_s) is = refl
others_leave setup facts (PacketReceived slot octets room) is = absurd cc
others_leave setup facts DataReported is = refl

pub unheard_leaves : (setup : Setup) (facts : Facts) (slot : ℕ) (octets : List ℕ) (room : Bool) → good_pdu setup facts octets ≡ None
    → is_forged setup facts octets ≡ false → facts_after setup facts (PacketReceived slot octets room) ≡ facts
unheard_leaves setup facts slot octets room none not_forged =
    λ i. facts_forged_if (not_forged i) (facts_received setup.link.role slot room (none i) facts)
