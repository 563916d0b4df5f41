-- An end that hears a PDU that it accepted before, and no acknowledgement, and that sends its last PDU again: it has
-- nothing new, and notes nothing.
use Rattle.std.proofs.Common.{◌≡◌, ◌&&◌, ◌||◌, not, ℕ, Bool, true, false, [], ◌++◌, refl, sym, ap, ◌∙◌, subst}
use Rattle.std.proofs.lemmas.Bool.{or_left}
use Rattle.ble_base.specs.declared.roles.Role.{Role}
use Rattle.ble_base.specs.declared.roles.Role.TheVariants.{Central, Peripheral}
use Rattle.data_pdu.specs.declared.header.DataHeader.{DataHeader}
use Rattle.ack_bit.specs.AckBits.{is_new}
use Rattle.link_model.specs.Acknowledgement.{Acknowledgement, Pdu, bits_of, is_acked, with_acked}
use Rattle.link_model.specs.Data.{is_control, is_data, is_empty}
use Rattle.link_model.specs.Setup.{Setup}
use Rattle.link_model.specs.Entering.{done_notes}
use Rattle.link_model.specs.Facts.{Facts}
use Rattle.link_model.specs.Payload.{end_sending, payload_made}
use Rattle.link_model.specs.Receiving.{accepts, acked_kind, acknowledged_if, acks_control, answers_with_control, facts_before_taking, facts_hearing, has_acknowledged, heard_in_slot, notes_hearing, taken_if, taken_notes}
use Rattle.link_model.specs.Sending.{control_gone_if, data_sent_as, facts_sent, fixed_sent, seals_new}
use Rattle.link_pairs.specs.Turns.{central_begun, prepared, sent_if}
use Rattle.link_pairs.proofs.Answering.{gone_same}
use Rattle.link_pairs.proofs.Counts.{acknowledged_by, is_fresh}
use Rattle.link_pairs.proofs.NothingNew.{HasNothingNew, nothing_then, prepared_still, same_still}
use Rattle.link_pairs.proofs.TakingNothing.{takes_none}
use Rattle.link_pairs.proofs.Ways.{sent_again}

-- ---- it sends its last PDU again

again_still : (setup : Setup) (slot : ℕ) (facts : Facts) → is_acked facts.acknowledgement ≡ false → HasNothingNew setup facts (fixed_sent slot facts)
again_still setup slot facts out =
    let e = facts.encryption in
    let payload = payload_made e.end facts.outgoing.fixed in
    record {
      control = takes_none facts.control;
      lacks = λ is. record { role = is.role; asked = is.asked; none = is.none };
      end = λ shut. ap (λ (all : Bool). end_sending (seals_new all facts.outgoing.fixed) e.end) out;
      phase = λ shut. refl;
      acknowledgement = sent_again facts.outgoing.fixed facts.acknowledgement out;
      payload = ap (λ (all : Bool). (data_sent_as payload all facts.outgoing).payload) out;
      none_gone = λ none. ap (λ (all : Bool). is_control (data_sent_as payload all facts.outgoing).fixed) out ∙ none;
      by_peer = refl;
      stays = refl;
      answered = λ is. or_left facts.leaving.answered _ is;
    }

pub sent_still : (setup : Setup) (slot : ℕ) (facts : Facts) → is_acked facts.acknowledgement ≡ false → HasNothingNew setup facts (facts_sent slot facts)
sent_still setup slot facts out =
    subst (HasNothingNew setup facts) (λ i. fixed_sent slot (control_gone_if (sym out i && facts.fixes_control) slot facts))
    (again_still setup slot facts out)

pub sent_if_still : (sends : Bool) (setup : Setup) (slot : ℕ) (facts : Facts) → is_acked facts.acknowledgement ≡ false
    → HasNothingNew setup facts (sent_if sends setup slot facts)
sent_if_still true setup slot facts out = sent_still setup slot facts out
sent_if_still false setup slot facts out = same_still setup facts

-- as a turn begins at a central
pub begun_still : (setup : Setup) (slot : ℕ) (transmits : Bool) (facts : Facts) → is_acked facts.acknowledgement ≡ false
    → HasNothingNew setup facts (central_begun setup slot transmits facts)
begun_still setup slot transmits facts out =
    let now = prepared setup slot transmits facts in
    let nothing = prepared_still setup slot transmits facts in
    nothing_then setup facts now (central_begun setup slot transmits facts) nothing
    (sent_if_still transmits setup slot now (ap is_acked nothing.acknowledgement ∙ out))

-- ---- it hears a packet

or_none : (b : Bool) → (b || false) ≡ b
or_none true = refl
or_none false = refl

module _ (role : Role) (slot : ℕ) (room : Bool) (header : DataHeader) (pdu : Pdu) (facts : Facts) where
  -- by whether its last PDU is acknowledged, the fixed one leaves its queue, and the PDU is accepted
  abbrev pub hearing_by : Bool → Bool → Bool → Facts
  hearing_by acks goes accepted = taken_if accepted pdu slot (control_gone_if goes slot (acknowledged_if acks (heard_in_slot slot header.md facts)))

  module _ (acks : acknowledged_by facts.acknowledgement header ≡ false) (fresh : is_fresh facts.acknowledgement header ≡ false)
      (answers : role ≡ Peripheral → is_acked facts.acknowledgement ≡ false) where
    goes_by : (r : Role) (acked : Bool) → acked ≡ false → (r ≡ Peripheral → is_acked facts.acknowledgement ≡ false)
        → answers_with_control r (acknowledged_if acked (heard_in_slot slot header.md facts)) ≡ false
    goes_by Central acked none out = refl
    goes_by Peripheral acked none out =
        (λ i. is_acked (with_acked (none i) facts.acknowledgement) && facts.fixes_control) ∙ ap (λ (all : Bool). all && facts.fixes_control) (out refl)

    goes : answers_with_control role (acknowledged_if (has_acknowledged facts header) (heard_in_slot slot header.md facts)) ≡ false
    goes = goes_by role (has_acknowledged facts header) acks answers

    abbrev now : Facts
    now = facts_before_taking role slot header facts

    -- whether the PDU is new does not depend on what is acknowledged
    fresh_then : is_new (bits_of now.acknowledgement) header ≡ is_fresh facts.acknowledgement header
    fresh_then =
        let seen = acknowledged_if (has_acknowledged facts header) (heard_in_slot slot header.md facts) in
        ap (λ (a : Acknowledgement). is_new (bits_of a) header) (gone_same (answers_with_control role seen) slot seen).acknowledgement

    accepts_none : accepts room header pdu now ≡ false
    accepts_none = ap (λ (b : Bool). (b && (room || not (is_data pdu))) && (is_empty pdu || not now.leaving.acknowledged)) (fresh_then ∙ fresh)

    pub heard_as_nothing : facts_hearing role slot room header pdu facts ≡ hearing_by false false false
    heard_as_nothing = λ i. hearing_by (acks i) (goes i) (accepts_none i)

    nothing_still : (setup : Setup) → HasNothingNew setup facts (hearing_by false false false)
    nothing_still setup =
        record {
          control = takes_none facts.control;
          lacks = λ is. record { role = is.role; asked = is.asked; none = is.none };
          end = λ shut. refl;
          phase = λ shut. refl;
          acknowledgement = refl;
          payload = refl;
          none_gone = λ none. none;
          by_peer = refl;
          stays = or_none facts.leaving.acknowledged;
          answered = λ is. is;
        }

    pub heard_still : (setup : Setup) → HasNothingNew setup facts (facts_hearing role slot room header pdu facts)
    heard_still setup = subst (HasNothingNew setup facts) (sym heard_as_nothing) (nothing_still setup)

    pub heard_control : (facts_hearing role slot room header pdu facts).control ≡ facts.control
    heard_control = ap (λ (f : Facts). f.control) heard_as_nothing

    -- it notes nothing
    pub none_noted : (setup : Setup) → setup.link.role ≡ role → notes_hearing setup slot room header pdu facts ≡ []
    none_noted setup is =
        (λ i. done_notes setup.link.handle (acked_kind (acks_control (acks i) facts) facts)
        ++ taken_notes setup.link.handle (accepts room header pdu (facts_before_taking (is i) slot header facts)) pdu slot (facts_before_taking (is i) slot header facts))
        ∙ ap (λ (accepted : Bool). taken_notes setup.link.handle accepted pdu slot now) accepts_none
