-- The payload of the PDU that was sent last is kept until that is acknowledged.
use Rattle.std.proofs.Common.{◌≡◌, ℕ, ◌&&◌, Bool, true, false, is_some, refl, ap, sym, ◌∙◌, if◌then◌else◌}
use Rattle.phased_end.specs.control_end.procedure_stages.Queue.{waiting_in}
use Rattle.link_model.specs.Setup.{Setup}
use Rattle.link_model.specs.Acknowledgement.{is_acked}
use Rattle.link_model.specs.Data.{is_control}
use Rattle.link_model.specs.Payload.{payload_made}
use Rattle.link_model.specs.Facts.{Facts}
use Rattle.link_model.specs.Step.{Step}
use Rattle.link_model.specs.Controls.{next_control, pdu_fixed, pdu_of_control, is_quiet_now}
use Rattle.link_model.specs.Fixing.{data_cut, data_goes, fixed_anew}
use Rattle.link_model.specs.Packets.{payload_sent}
use Rattle.link_model.specs.Sending.{control_gone_if, facts_sent, fixed_sent, data_sent_as}
use Rattle.link_model.specs.End.{facts_after}
use Rattle.link_model.proofs.BodyPayloads.{acked_same, anew_same, given_same}
use Rattle.link_model.proofs.TurnParts.{IsOfTurn, step_leaves}

pub sent_again : (facts : Facts) → is_acked facts.acknowledgement ≡ false → payload_sent facts ≡ facts.outgoing.payload
sent_again facts out =
    ap (λ b. if b then payload_made facts.encryption.end (pdu_fixed facts) else facts.outgoing.payload) out

-- ---- a packet is sent

sent_by : (acked fixes : Bool) (slot : ℕ) (facts : Facts) → is_acked facts.acknowledgement ≡ acked → facts.fixes_control ≡ fixes
    → (fixed_sent slot (control_gone_if (acked && fixes) slot facts)).outgoing.payload
    ≡ (if acked then payload_made facts.encryption.end (pdu_fixed facts) else facts.outgoing.payload)
sent_by true true slot facts all fixes =
    let made = payload_made facts.encryption.end (pdu_fixed facts) in
    ap (λ b. (data_sent_as made b (record facts.outgoing { fixed = pdu_fixed facts })).payload) all
sent_by true false slot facts all fixes =
    let made = payload_made facts.encryption.end facts.outgoing.fixed in
    ap (λ b. (data_sent_as made b facts.outgoing).payload) all
    ∙ (λ i. payload_made facts.encryption.end
    (if sym fixes i then pdu_of_control (next_control facts) else facts.outgoing.fixed))
sent_by false fixed slot facts all fixes =
    let made = payload_made facts.encryption.end facts.outgoing.fixed in
    ap (λ b. (data_sent_as made b facts.outgoing).payload) all

payload_after : (slot : ℕ) (facts : Facts)
    → (facts_sent slot facts).outgoing.payload
    ≡ (if is_acked facts.acknowledgement then payload_made facts.encryption.end
    (pdu_fixed facts) else facts.outgoing.payload)
payload_after slot facts = sent_by (is_acked facts.acknowledgement) facts.fixes_control slot facts refl refl

pub first_payload : (facts : Facts) (slot : ℕ) → is_acked facts.acknowledgement ≡ true
    → (facts_sent slot facts).outgoing.payload ≡ payload_made facts.encryption.end (pdu_fixed facts)
first_payload facts slot all =
    payload_after slot facts
    ∙ ap (λ b. if b then payload_made facts.encryption.end (pdu_fixed facts) else facts.outgoing.payload) all

-- ---- whatever else happens

fixed_kept : (stays : Bool) (facts : Facts) → (if stays then facts else fixed_anew facts).outgoing.payload ≡ facts.outgoing.payload
fixed_kept true facts = refl
fixed_kept false facts =
    anew_same (is_some (next_control facts)) (waiting_in facts.control.table.queue) (is_quiet_now facts)
    (data_goes facts) (data_cut facts)

payload_of_turn : IsOfTurn (λ outgoing. outgoing.payload)
payload_of_turn =
    record { given = given_same; gone = λ pdu outgoing. refl; acked = acked_same; reported = λ outgoing. refl }

pub payload_kept : (setup : Setup) (facts : Facts) (step : Step) → is_acked facts.acknowledgement ≡ false
    → (facts_after setup facts step).outgoing.payload ≡ facts.outgoing.payload
payload_kept setup facts step out =
    step_leaves (λ outgoing. outgoing.payload) payload_of_turn setup facts step
    (λ begins. fixed_kept (is_control facts.outgoing.fixed) facts)
    (λ slot. payload_after slot facts
    ∙ ap (λ b. if b then payload_made facts.encryption.end (pdu_fixed facts) else facts.outgoing.payload) out)
