-- What an end has sent and accepted, as each step leaves it.
use Rattle.std.proofs.Common.{◌≡◌, ℕ, ◌&&◌, Bool, true, false, refl, ap, sym, ◌∙◌, if◌then◌else◌}
use Rattle.ble_base.specs.declared.roles.Role.{Role}
use Rattle.data_pdu.specs.declared.header.DataHeader.{DataHeader}
use Rattle.phased_end.specs.control_end.procedure_values.declared.asks.Ask.{Ask}
use Rattle.link_model.specs.Setup.{Setup}
use Rattle.link_model.specs.Acknowledgement.{Pdu, after_sending, is_acked, next_sent, received_by, with_accepted}
use Rattle.link_model.specs.Facts.{Facts}
use Rattle.link_model.specs.Controls.{is_procedure_pdu, next_control, pdu_fixed, pdu_of_control}
use Rattle.link_model.specs.Entering.{facts_entered_if}
use Rattle.link_model.specs.Fixing.{fixed_anew}
use Rattle.link_model.specs.Hosts.{asked_unless}
use Rattle.link_model.specs.Sending.{control_gone_if, facts_sent, fixed_sent}
use Rattle.link_model.specs.Receiving.{accepted_if, accepts, acknowledged_if, answers_with_control, facts_before_taking, facts_hearing, has_acknowledged, heard_in_slot, procedures_take_if, facts_forged_if}
use Rattle.link_model.proofs.Choices.{either_data, either_forged}
use Rattle.link_model.specs.Data.{is_data}

-- ---- parts of a step that leave it

pub asked_leaves : (comes : Bool) (ask : Ask) (facts : Facts) → (asked_unless comes ask facts).acknowledgement ≡ facts.acknowledgement
asked_leaves true ask facts = refl
asked_leaves false ask facts = refl

pub entered_leaves : (goes : Bool) (setup : Setup) (slot : ℕ) (facts : Facts)
    → (facts_entered_if goes setup slot facts).acknowledgement ≡ facts.acknowledgement
entered_leaves true setup slot facts = refl
entered_leaves false setup slot facts = refl

pub fixed_leaves : (stays : Bool) (facts : Facts) → (if stays then facts else fixed_anew facts).acknowledgement ≡ facts.acknowledgement
fixed_leaves true facts = refl
fixed_leaves false facts = refl

pub gone_leaves : (goes : Bool) (slot : ℕ) (facts : Facts) → (control_gone_if goes slot facts).acknowledgement ≡ facts.acknowledgement
gone_leaves true slot facts = refl
gone_leaves false slot facts = refl

pub taken_leaves : (takes : Bool) (pdu : Pdu) (slot : ℕ) (facts : Facts)
    → (procedures_take_if takes pdu slot facts).acknowledgement ≡ facts.acknowledgement
taken_leaves true pdu slot facts = refl
taken_leaves false pdu slot facts = refl

pub forged_leaves : (forged : Bool) (facts : Facts)
    → (facts_forged_if forged facts).acknowledgement ≡ facts.acknowledgement
forged_leaves forged facts =
    either_forged (λ (f : Facts). f.acknowledgement ≡ facts.acknowledgement) forged facts refl refl

-- ---- a packet is sent: with the last PDU again, or with the fixed one

sent_by : (acked fixes : Bool) (slot : ℕ) (facts : Facts) → is_acked facts.acknowledgement ≡ acked → facts.fixes_control ≡ fixes
    → (fixed_sent slot (control_gone_if (acked && fixes) slot facts)).acknowledgement ≡ next_sent acked (pdu_fixed facts) facts.acknowledgement
sent_by true true slot facts all fixes = ap (λ b. next_sent b (pdu_fixed facts) facts.acknowledgement) all
sent_by true false slot facts all fixes =
    λ i. next_sent (all i) (if sym fixes i then pdu_of_control (next_control facts) else facts.outgoing.fixed) facts.acknowledgement
sent_by false fixed slot facts all fixes = ap (λ b. next_sent b facts.outgoing.fixed facts.acknowledgement) all

pub ack_sent : (slot : ℕ) (facts : Facts) → (facts_sent slot facts).acknowledgement ≡ after_sending (pdu_fixed facts) facts.acknowledgement
ack_sent slot facts = sent_by (is_acked facts.acknowledgement) facts.fixes_control slot facts refl refl

-- ---- a packet is received

pub ack_before_taking : (role : Role) (slot : ℕ) (header : DataHeader) (facts : Facts)
    → (facts_before_taking role slot header facts).acknowledgement
    ≡ (acknowledged_if (has_acknowledged facts header) (heard_in_slot slot header.md facts)).acknowledgement
ack_before_taking role slot header facts =
    let own = acknowledged_if (has_acknowledged facts header) (heard_in_slot slot header.md facts) in
    gone_leaves (answers_with_control role own) slot own

pub ack_heard : (role : Role) (slot : ℕ) (room : Bool) (header : DataHeader) (pdu : Pdu) (facts : Facts)
    → (facts_hearing role slot room header pdu facts).acknowledgement
    ≡ received_by (has_acknowledged facts header) (accepts room header pdu (facts_before_taking role slot header facts)) pdu facts.acknowledgement
ack_heard role slot room header pdu facts =
    let now = facts_before_taking role slot header facts in
    let accepted = accepts room header pdu now in
    let seen = procedures_take_if (accepted && is_procedure_pdu pdu) pdu slot (accepted_if accepted pdu now) in
    either_data (λ (f : Facts). f.acknowledgement ≡ seen.acknowledgement) (accepted && is_data pdu) seen refl refl
    ∙ taken_leaves (accepted && is_procedure_pdu pdu) pdu slot (accepted_if accepted pdu now)
    ∙ ap (with_accepted accepted pdu) (ack_before_taking role slot header facts)
