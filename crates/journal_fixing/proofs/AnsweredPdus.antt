-- What a peripheral sends that hears a packet after it fixed its PDU.
use Rattle.std.proofs.Common.{◌≡◌, ℕ, ◌&&◌, not, Bool, true, false, Some, List, refl, ap, sym, subst, ◌∙◌, if◌then◌else◌}
use Rattle.ble_base.specs.declared.roles.Role.{Role}
use Rattle.ble_base.specs.declared.roles.Role.TheVariants.{Peripheral}
use Rattle.ack_bit.specs.AckBits.{acknowledges}
use Rattle.data_pdu.specs.Header.{header_in}
use Rattle.data_pdu.specs.declared.header.DataHeader.{DataHeader}
use Rattle.journal_controls.specs.LineSteps.{is_more_acked}
use Rattle.journal_controls.specs.OneEnd.{IsToldOf}
use Rattle.journal_controls.specs.journal_acks.Exchange.{Exchanged}
use Rattle.journal_controls.specs.link_model.Acknowledgement.{Acknowledgement, Pdu, bits_of, is_acked}
use Rattle.journal_controls.specs.link_model.Controls.{is_procedure_pdu, next_control, pdu_fixed, pdu_of_control}
use Rattle.journal_controls.specs.link_model.Data.{Data, data_acked_if, is_control, is_data, next_piece}
use Rattle.journal_controls.specs.link_model.End.{facts_after}
use Rattle.journal_controls.specs.link_model.Facts.{Facts, keyed_of}
use Rattle.journal_controls.specs.link_model.Packets.{good_pdu, more_sent, pdu_sent}
use Rattle.journal_controls.specs.link_model.Receiving.{accepted_if, accepts, acknowledged_if, acks_control, data_taken_if, facts_before_taking, facts_hearing, has_acknowledged, heard_in_slot, keyed_acked_if, procedures_take_if}
use Rattle.journal_controls.specs.link_model.Sending.{control_gone_if, takes_leave}
use Rattle.journal_controls.specs.link_model.Setup.{Setup}
use Rattle.journal_controls.specs.link_model.Step.{PacketReceived}
use Rattle.journal_controls.specs.link_model.Verdicts.{pdu_of}
use Rattle.journal_controls.specs.link_model.keyed_control.Keyed.{Keyed}
use Rattle.journal_controls.proofs.CentralFixed.{data_free, gone_acked, taking_free}
use Rattle.journal_controls.proofs.EndSteps.{acks_by, good_leave, left_of, not_true, received_is}
use Rattle.journal_controls.proofs.PeripheralFixed.{taken_acked, taken_data}
use Rattle.journal_controls.proofs.SendsAlike.{SendsAlike, alike_fixed}
use Rattle.journal_controls.proofs.link_model.Fixing.{acked_control as acked_free}
use Rattle.journal_fixing.specs.NextPdu.{IsFixedBy, data_waits, data_waits_after, more_with_new, more_with_old, pdu_next}
use Rattle.journal_fixing.proofs.FixedPdus.{fixed_next, more_fixed, more_old}

-- ---- what stays as a PDU is acknowledged, as a control PDU leaves the queue, and as a PDU is taken

acked_more : (acked : Bool) (outgoing : Data) → (data_acked_if acked outgoing).more ≡ outgoing.more
acked_more true outgoing = refl
acked_more false outgoing = refl

acked_again : (acked : Bool) (outgoing : Data) → (data_acked_if acked outgoing).more_again ≡ outgoing.more_again
acked_again true outgoing = refl
acked_again false outgoing = refl

gone_more : (goes : Bool) (slot : ℕ) (facts : Facts) → (control_gone_if goes slot facts).outgoing.more ≡ facts.outgoing.more
gone_more true slot facts = refl
gone_more false slot facts = refl

taken_fixes : (takes : Bool) (pdu : Pdu) (slot : ℕ) (facts : Facts) → (procedures_take_if takes pdu slot facts).fixes_control ≡ facts.fixes_control
taken_fixes true pdu slot facts = refl
taken_fixes false pdu slot facts = refl

data_fixes : (takes : Bool) (facts : Facts) → (data_taken_if takes facts).fixes_control ≡ facts.fixes_control
data_fixes true facts = refl
data_fixes false facts = refl

gone_last : (goes : Bool) (slot : ℕ) (facts : Facts) → (control_gone_if goes slot facts).acknowledgement.last ≡ facts.acknowledgement.last
gone_last true slot facts = refl
gone_last false slot facts = refl

taken_last : (takes : Bool) (pdu : Pdu) (slot : ℕ) (facts : Facts) → (procedures_take_if takes pdu slot facts).acknowledgement.last ≡ facts.acknowledgement.last
taken_last true pdu slot facts = refl
taken_last false pdu slot facts = refl

data_last : (takes : Bool) (facts : Facts) → (data_taken_if takes facts).acknowledgement.last ≡ facts.acknowledgement.last
data_last true facts = refl
data_last false facts = refl

-- where the last PDU is acknowledged, the fixed one is a PDU from then on
gone_fixes : (fixes : Bool) (slot : ℕ) (facts : Facts) → facts.fixes_control ≡ fixes → (control_gone_if fixes slot facts).fixes_control ≡ false
gone_fixes true slot facts is = refl
gone_fixes false slot facts is = is

gone_fixed : (fixes : Bool) (slot : ℕ) (facts : Facts) → facts.fixes_control ≡ fixes → (control_gone_if fixes slot facts).outgoing.fixed ≡ pdu_fixed facts
gone_fixed true slot facts is = refl
gone_fixed false slot facts is = sym (ap (λ b. if b then pdu_of_control (next_control facts) else facts.outgoing.fixed) is)

module _ (fixing : Keyed) (outgoing : Data) (facts : Facts) (is : IsFixedBy fixing outgoing facts)
    (slot : ℕ) (room : Bool) (header : DataHeader) (pdu : Pdu) where
  abbrev acks : Bool
  acks = has_acknowledged facts header

  abbrev own : Facts
  own = acknowledged_if acks (heard_in_slot slot header.md facts)

  abbrev untaken : Facts
  untaken = facts_before_taking Peripheral slot header facts

  abbrev accepted : Bool
  accepted = accepts room header pdu untaken

  abbrev takes : Bool
  takes = accepted && is_procedure_pdu pdu

  abbrev carries : Bool
  carries = accepted && is_data pdu

  abbrev seen : Facts
  seen = procedures_take_if takes pdu slot (accepted_if accepted pdu untaken)

  abbrev heard : Facts
  heard = facts_hearing Peripheral slot room header pdu facts

  own_fixed : IsFixedBy fixing outgoing own
  own_fixed =
      let stays = acked_free (acks && is_data facts.acknowledgement.last) facts.outgoing in
      let more = acked_more (acks && is_data facts.acknowledgement.last) facts.outgoing in
      let again = acked_again (acks && is_data facts.acknowledgement.last) facts.outgoing in record {
        control = is.control;
        pdu = λ none. stays ∙ is.pdu none;
        more = more ∙ is.more;
        again = again ∙ is.again;
      }

  heard_acked : is_acked heard.acknowledgement ≡ is_acked own.acknowledgement
  heard_acked = taken_data carries seen ∙ taken_acked takes pdu slot (accepted_if accepted pdu untaken) ∙ gone_acked (takes_leave own) slot own

  heard_outgoing : heard.outgoing ≡ untaken.outgoing
  heard_outgoing = data_free carries seen ∙ taking_free takes pdu slot (accepted_if accepted pdu untaken)

  heard_fixes : heard.fixes_control ≡ untaken.fixes_control
  heard_fixes = data_fixes carries seen ∙ taken_fixes takes pdu slot (accepted_if accepted pdu untaken)

  heard_last : heard.acknowledgement.last ≡ own.acknowledgement.last
  heard_last = data_last carries seen ∙ taken_last takes pdu slot (accepted_if accepted pdu untaken) ∙ gone_last (takes_leave own) slot own

  -- the last PDU is acknowledged
  leaves : is_acked heard.acknowledgement ≡ true → takes_leave own ≡ own.fixes_control
  leaves acked = ap (λ b. b && own.fixes_control) (sym heard_acked ∙ acked)

  heard_pdu : is_acked heard.acknowledgement ≡ true → pdu_fixed heard ≡ pdu_fixed own
  heard_pdu acked =
      let gone = leaves acked in
      let none : heard.fixes_control ≡ false = heard_fixes ∙ ap (λ b. (control_gone_if b slot own).fixes_control) gone ∙ gone_fixes own.fixes_control slot own refl in
      ap (λ b. if b then pdu_of_control (next_control heard) else heard.outgoing.fixed) none
      ∙ ap (λ (o : Data). o.fixed) heard_outgoing
      ∙ ap (λ b. (control_gone_if b slot own).outgoing.fixed) gone
      ∙ gone_fixed own.fixes_control slot own refl

  new_heard : is_acked heard.acknowledgement ≡ true → pdu_sent heard ≡ pdu_next fixing (keyed_of own) (next_piece outgoing)
  new_heard acked =
      ap (λ b. if b then pdu_fixed heard else heard.acknowledgement.last) acked ∙ heard_pdu acked ∙ fixed_next fixing outgoing own own_fixed

  more_heard : is_acked heard.acknowledgement ≡ true → more_sent heard ≡ more_with_new fixing (data_waits_after (pdu_sent heard) outgoing)
  more_heard acked =
      ap (λ b. if b then heard.outgoing.more else heard.outgoing.more_again) acked
      ∙ ap (λ (o : Data). o.more) heard_outgoing ∙ gone_more (takes_leave own) slot own
      ∙ more_fixed fixing outgoing own own_fixed (keyed_of own)
      ∙ ap (λ one. more_with_new fixing (data_waits_after one outgoing)) (sym (new_heard acked))

  -- it is not
  heard_fixed : is_acked heard.acknowledgement ≡ false → IsFixedBy fixing outgoing heard
  heard_fixed unacked =
      let stays : takes_leave own ≡ false = ap (λ b. b && own.fixes_control) (sym heard_acked ∙ unacked) in
      let same : untaken ≡ own = ap (λ b. control_gone_if b slot own) stays in
      let outgoing_is : heard.outgoing ≡ own.outgoing = heard_outgoing ∙ ap (λ (f : Facts). f.outgoing) same in record {
        control = heard_fixes ∙ ap (λ (f : Facts). f.fixes_control) same ∙ own_fixed.control;
        pdu = λ none. ap (λ (o : Data). o.fixed) outgoing_is ∙ own_fixed.pdu none;
        more = ap (λ (o : Data). o.more) outgoing_is ∙ own_fixed.more;
        again =
            ap (λ (o : Data). o.more_again) outgoing_is ∙ own_fixed.again
            ∙ sym (ap (λ pdu. more_with_old fixing pdu (data_waits outgoing)) heard_last);
      }

-- ---- a good packet

module _ (setup : Setup) (facts : Facts) (slot : ℕ) (octets pdu : List ℕ) (room : Bool) (fixing : Keyed) (outgoing : Data)
    (role : setup.link.role ≡ Peripheral) (is : IsFixedBy fixing outgoing facts) (good : good_pdu setup facts octets ≡ Some pdu) where
  abbrev answering : Facts
  answering = facts_after setup facts (PacketReceived slot octets room)

  answering_is : answering ≡ facts_hearing Peripheral slot room (header_in pdu) (pdu_of pdu) facts
  answering_is =
      received_is setup facts slot octets pdu room good
      ∙ ap (λ one. facts_hearing one slot room (header_in pdu) (pdu_of pdu) facts) role

  abbrev going : Keyed
  going = keyed_acked_if (acks_control (has_acknowledged facts (header_in pdu)) facts) (keyed_of facts)

  acked_heard : (value : Bool) → is_acked answering.acknowledgement ≡ value
      → is_acked (facts_hearing Peripheral slot room (header_in pdu) (pdu_of pdu) facts).acknowledgement ≡ value
  acked_heard value acked = sym (ap (λ (f : Facts). is_acked f.acknowledgement) answering_is) ∙ acked

  pub answer_new : is_acked answering.acknowledgement ≡ true → pdu_sent answering ≡ pdu_next fixing going (next_piece outgoing)
  answer_new acked = ap pdu_sent answering_is ∙ new_heard fixing outgoing facts is slot room (header_in pdu) (pdu_of pdu) (acked_heard true acked)

  pub answer_more : is_acked answering.acknowledgement ≡ true → more_sent answering ≡ more_with_new fixing (data_waits_after (pdu_sent answering) outgoing)
  answer_more acked =
      ap more_sent answering_is
      ∙ more_heard fixing outgoing facts is slot room (header_in pdu) (pdu_of pdu) (acked_heard true acked)
      ∙ ap (λ f. more_with_new fixing (data_waits_after (pdu_sent f) outgoing)) (sym answering_is)

  pub answer_old : is_acked answering.acknowledgement ≡ false → more_sent answering ≡ more_with_old fixing answering.acknowledgement.last (data_waits outgoing)
  answer_old unacked =
      let heard = facts_hearing Peripheral slot room (header_in pdu) (pdu_of pdu) facts in
      let kept = heard_fixed fixing outgoing facts is slot room (header_in pdu) (pdu_of pdu) (acked_heard false unacked) in
      ap more_sent answering_is
      ∙ more_old fixing outgoing heard kept (acked_heard false unacked)
      ∙ ap (λ (f : Facts). more_with_old fixing f.acknowledgement.last (data_waits outgoing)) (sym answering_is)

  -- also with other words, and after its answer to a request that is withheld
  module _ (now : Facts) (alike : SendsAlike now answering) where
    was_acked : (value : Bool) → is_acked now.acknowledgement ≡ value → is_acked answering.acknowledgement ≡ value
    was_acked value acked = ap is_acked (sym alike.acknowledgement) ∙ acked

    pub now_sent : is_acked now.acknowledgement ≡ true → pdu_sent now ≡ pdu_sent answering
    now_sent acked =
        let was = was_acked true acked in
        ap (λ b. if b then pdu_fixed now else now.acknowledgement.last) acked
        ∙ alike_fixed now answering alike (good_leave slot octets pdu room setup facts role good) was
        ∙ sym (ap (λ b. if b then pdu_fixed answering else answering.acknowledgement.last) was)

    pub now_more : is_acked now.acknowledgement ≡ true → more_sent now ≡ more_with_new fixing (data_waits_after (pdu_sent now) outgoing)
    now_more acked =
        let was = was_acked true acked in
        ap (λ b. if b then now.outgoing.more else now.outgoing.more_again) acked
        ∙ ap (λ (o : Data). o.more) alike.outgoing
        ∙ sym (ap (λ b. if b then answering.outgoing.more else answering.outgoing.more_again) was)
        ∙ answer_more was
        ∙ ap (λ one. more_with_new fixing (data_waits_after one outgoing)) (sym (now_sent acked))

    now_fixed : is_acked now.acknowledgement ≡ false → IsFixedBy fixing outgoing now
    now_fixed unacked =
        let was = subst (IsFixedBy fixing outgoing) (sym answering_is)
        (heard_fixed fixing outgoing facts is slot room (header_in pdu) (pdu_of pdu) (acked_heard false (was_acked false unacked))) in record {
          control = alike.fixes ∙ was.control;
          pdu = λ none. ap (λ (o : Data). o.fixed) alike.outgoing ∙ was.pdu none;
          more = ap (λ (o : Data). o.more) alike.outgoing ∙ was.more;
          again =
              ap (λ (o : Data). o.more_again) alike.outgoing ∙ was.again
              ∙ sym (ap (λ (a : Acknowledgement). more_with_old fixing a.last (data_waits outgoing)) alike.acknowledgement);
        }

    pub now_old : is_acked now.acknowledgement ≡ false → more_sent now ≡ more_with_old fixing now.acknowledgement.last (data_waits outgoing)
    now_old unacked = more_old fixing outgoing now (now_fixed unacked) unacked

-- ---- what the lines tell of it

pub acks_told : (role : Role) (facts : Facts) (header : DataHeader) (before after : Exchanged) (last : Pdu) → IsToldOf role facts header before after last
    → (is_more_acked before after && is_control last) ≡ acks_control (has_acknowledged facts header) facts
acks_told role facts header before after last told =
    let acked = is_acked facts.acknowledgement in
    acks_by (has_acknowledged facts header) before.acked after.acked facts.acknowledgement.acked last facts.acknowledgement.last told.acked_before told.acked_after
    (λ is. told.last_is (not_true acked (left_of (not acked) (acknowledges (bits_of facts.acknowledgement) header) is)))
