-- What a peripheral has fixed as it hears: a control PDU where one waits, and none that has left the queue.
use Rattle.std.proofs.Common.{◌≡◌, ℕ, ◌&&◌, not, Bool, true, false, Option, Some, None, is_none, List, refl, ap, sym, ◌∙◌, if◌then◌else◌}
use Rattle.std.specs.Prelude.{◌||◌}
use Rattle.ble_base.specs.ErrorCodes.{mic_failure}
use Rattle.ble_base.specs.declared.roles.Role.TheVariants.{Peripheral}
use Rattle.data_pdu.specs.Header.{header_in}
use Rattle.data_pdu.specs.declared.header.DataHeader.{DataHeader}
use Rattle.journal_ends.specs.link_model.Acknowledgement.{Pdu, is_acked}
use Rattle.journal_ends.specs.link_model.Controls.{is_procedure_pdu}
use Rattle.journal_ends.specs.link_model.Data.{Data, is_control, is_data}
use Rattle.journal_ends.specs.link_model.End.{facts_after}
use Rattle.journal_ends.specs.link_model.Facts.{Facts, keyed_of}
use Rattle.journal_ends.specs.link_model.Fixing.{fixed_anew}
use Rattle.journal_ends.specs.link_model.Packets.{good_pdu, is_forged}
use Rattle.journal_ends.specs.link_model.Payload.{payload_made}
use Rattle.journal_ends.specs.link_model.Receiving.{accepted_if, accepts, acknowledged_if, data_taken_if, facts_before_taking, facts_forged_if, facts_hearing, facts_received, has_acknowledged, has_ended, heard_in_slot, procedures_take_if, replies_by, replies_of}
use Rattle.journal_ends.specs.link_model.Sending.{control_gone_if, data_sent_as, facts_sent, takes_leave}
use Rattle.journal_ends.specs.link_model.Setup.{Setup}
use Rattle.journal_ends.specs.link_model.Step.{PacketReceived, PacketSent, PduFixed}
use Rattle.journal_ends.specs.link_model.Verdicts.{pdu_of}
use Rattle.journal_ends.specs.link_model.control_model.Control.{Control, ended}
use Rattle.journal_ends.proofs.link_model.Fixing.{acked_control as acked_free}
use Rattle.journal_controls.specs.KeyedLines.{has_next}
use Rattle.journal_controls.proofs.CentralFixed.{IsFree, data_free, facts_sent_free, forged_free, gone_acked, sent_free, taking_free}
use Rattle.journal_controls.proofs.EndSteps.{heard_leave}

-- ---- as it fixes its PDU

pub fixes_next : (setup : Setup) (facts : Facts) → IsFree facts → let now = facts_after setup facts PduFixed in now.fixes_control ≡ has_next (keyed_of now)
fixes_next setup facts free =
    let anew : facts_after setup facts PduFixed ≡ fixed_anew facts = ap (λ b. if b then facts else fixed_anew facts) free in
    ap (λ (f : Facts). f.fixes_control) anew ∙ sym (ap (λ (f : Facts). has_next (keyed_of f)) anew)

-- ---- as it hears and answers

pub taken_acked : (takes : Bool) (pdu : Pdu) (slot : ℕ) (facts : Facts) → is_acked (procedures_take_if takes pdu slot facts).acknowledgement ≡ is_acked facts.acknowledgement
taken_acked true pdu slot facts = refl
taken_acked false pdu slot facts = refl

-- its packet, where no control PDU is to leave the queue
pub sent_outgoing : (slot : ℕ) (facts : Facts) (leaves : Bool) → takes_leave facts ≡ leaves → leaves ≡ false
    → (facts_sent slot facts).outgoing ≡ data_sent_as (payload_made facts.encryption.end facts.outgoing.fixed) (is_acked facts.acknowledgement) facts.outgoing
sent_outgoing slot facts leaves is none =
    ap (λ b. let gone = control_gone_if b slot facts in
    data_sent_as (payload_made gone.encryption.end gone.outgoing.fixed) (is_acked gone.acknowledgement) gone.outgoing) (is ∙ none)

pub taken_data : (takes : Bool) (facts : Facts) → is_acked (data_taken_if takes facts).acknowledgement ≡ is_acked facts.acknowledgement
taken_data true facts = refl
taken_data false facts = refl

heard_answers : (slot later : ℕ) (room : Bool) (header : DataHeader) (pdu : Pdu) (facts : Facts) → IsFree facts
    → is_control (facts_sent later (facts_hearing Peripheral slot room header pdu facts)).outgoing.fixed ≡ false
heard_answers slot later room header pdu facts free =
    let acks = has_acknowledged facts header in
    let own = acknowledged_if acks (heard_in_slot slot header.md facts) in
    let now = facts_before_taking Peripheral slot header facts in
    let accepted = accepts room header pdu now in
    let takes = accepted && is_procedure_pdu pdu in
    let before = accepted_if accepted pdu now in
    let seen = procedures_take_if takes pdu slot before in
    let heard = facts_hearing Peripheral slot room header pdu facts in
    let payload = payload_made heard.encryption.end heard.outgoing.fixed in
    let acked : is_acked heard.acknowledgement ≡ is_acked own.acknowledgement =
    taken_data (accepted && is_data pdu) seen ∙ taken_acked takes pdu slot before ∙ gone_acked (takes_leave own) slot own in
    let outgoing : heard.outgoing ≡ now.outgoing = data_free (accepted && is_data pdu) seen ∙ taking_free takes pdu slot before in
    ap (λ (o : Data). is_control o.fixed) (sent_outgoing later heard (takes_leave heard) refl (heard_leave slot room header pdu facts))
    ∙ (λ i. is_control (data_sent_as payload (acked i) (outgoing i)).fixed)
    ∙ sent_free payload (is_acked own.acknowledgement) own.fixes_control slot own (ap is_control (acked_free (acks && is_data facts.acknowledgement.last) facts.outgoing) ∙ free)

received_answers : (forged : Bool) (slot later : ℕ) (room : Bool) (pdu : Option (List ℕ)) (facts : Facts) → IsFree facts
    → IsFree (facts_sent later (facts_forged_if forged (facts_received Peripheral slot room pdu facts)))
received_answers true slot later room None facts free = facts_sent_free later (facts_forged_if true facts) free
received_answers false slot later room None facts free = facts_sent_free later facts free
received_answers true slot later room (Some octets) facts free =
    let header = header_in octets in
    let pdu = pdu_of octets in
    let heard = facts_hearing Peripheral slot room header pdu facts in
    let leaves = heard_leave slot room header pdu facts in
    ap (λ (o : Data). is_control o.fixed)
    (sent_outgoing later (facts_forged_if true heard) (takes_leave heard) refl leaves ∙ sym (sent_outgoing later heard (takes_leave heard) refl leaves))
    ∙ heard_answers slot later room header pdu facts free
received_answers false slot later room (Some octets) facts free = heard_answers slot later room (header_in octets) (pdu_of octets) facts free

pub answer_leaves_none : (setup : Setup) (facts : Facts) (slot later : ℕ) (octets : List ℕ) (room : Bool) → setup.link.role ≡ Peripheral → IsFree facts
    → is_control (facts_after setup (facts_after setup facts (PacketReceived slot octets room)) (PacketSent later)).outgoing.fixed ≡ false
answer_leaves_none setup facts slot later octets room role free =
    let forged = is_forged setup facts octets in
    ap (λ r. is_control (facts_sent later (facts_forged_if forged (facts_received r slot room (good_pdu setup facts octets) facts))).outgoing.fixed) role
    ∙ received_answers forged slot later room (good_pdu setup facts octets) facts free

-- ---- as it hears and does not answer

not_false : (b : Bool) → not b ≡ false → b ≡ true
not_false true is = refl
not_false false is = absurd cc

-- a forged packet ends it, and leaves what is fixed
ends_then : (goes : Bool) (c : Control) (acked : Bool) → is_none c.ends ≡ goes
    → (not (is_none (if goes then ended (record { 0 = mic_failure }) c else c).ends) || acked) ≡ true
ends_then true c acked is = refl
ends_then false c acked is = ap (λ b. not b || acked) is

forged_ends : (forged : Bool) (facts : Facts) → has_ended facts ≡ true → has_ended (facts_forged_if forged facts) ≡ true
forged_ends true facts is = ends_then (is_none facts.control.ends) facts.control facts.leaving.acknowledged refl
forged_ends false facts is = is

silent_by : (forged : Bool) (slot : ℕ) (room : Bool) (pdu : Option (List ℕ)) (facts : Facts) → IsFree facts → let heard = facts_received Peripheral slot room pdu facts in
    let now = facts_forged_if forged heard in
    replies_by Peripheral (has_ended heard) pdu ≡ false → is_control now.outgoing.fixed ≡ true → has_ended now ≡ true
silent_by forged slot room None facts free none holds =
    absurd (let h : false ≡ true = sym (ap (λ (o : Data). is_control o.fixed) (forged_free forged facts) ∙ free) ∙ holds in absurd cc)
silent_by forged slot room (Some octets) facts free none holds =
    let heard = facts_received Peripheral slot room (Some octets) facts in
    forged_ends forged heard (not_false (has_ended heard) none)

-- it ended the link, where a control PDU has left the queue then
pub silence_ends : (setup : Setup) (facts : Facts) (slot : ℕ) (octets : List ℕ) (room : Bool) → setup.link.role ≡ Peripheral → IsFree facts
    → replies_of setup facts slot octets room ≡ false → let now = facts_after setup facts (PacketReceived slot octets room) in
    is_control now.outgoing.fixed ≡ true → has_ended now ≡ true
unfolding replies_of
silence_ends setup facts slot octets room role free none holds =
    let pdu = good_pdu setup facts octets in
    let forged = is_forged setup facts octets in
    ap (λ r. has_ended (facts_forged_if forged (facts_received r slot room pdu facts))) role
    ∙ silent_by forged slot room pdu facts free
    (sym (ap (λ r. replies_by r (has_ended (facts_received r slot room pdu facts)) pdu) role) ∙ none)
    (sym (ap (λ r. is_control (facts_forged_if forged (facts_received r slot room pdu facts)).outgoing.fixed) role) ∙ holds)
