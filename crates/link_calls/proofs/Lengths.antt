-- What each step of an end does to whether a length was changed in its event, or is over 27 octets.
use Rattle.std.proofs.Common.{◌≡◌, ℕ, Bool, true, false, Option, Some, None, List, refl, ap, ◌∙◌}
use Rattle.std.specs.Prelude.{◌&&◌, ◌||◌, if◌then◌else◌}
use Rattle.ble_base.specs.declared.roles.Role.{Role}
use Rattle.data_pdu.specs.Header.{header_in}
use Rattle.run_laws.specs.run_model.procedure_stages.declared.steps.Effect.{Effect}
use Rattle.run_laws.specs.run_model.procedure_stages.declared.steps.Effect.TheVariants.{Lengths as new_lengths, Nothing}
use Rattle.run_laws.specs.link_model.declared.state.KnownLengths.{KnownLengths}
use Rattle.run_laws.specs.link_model.Acknowledgement.{Pdu}
use Rattle.run_laws.specs.link_model.Controls.{is_procedure_pdu}
use Rattle.run_laws.specs.link_model.Data.{is_control, is_data}
use Rattle.run_laws.specs.link_model.Facts.{Facts}
use Rattle.run_laws.specs.link_model.Fixing.{facts_fixed, fixed_anew}
use Rattle.run_laws.specs.link_model.Receiving.{accepted_if, accepts, acknowledged_if, answers_with_control, control_taken, data_taken_if, facts_before_taking, facts_forged_if, facts_received, has_acknowledged, heard_in_slot, kept_give, lengths_reported, lengths_seen, procedures_give, procedures_take_if}
use Rattle.run_laws.specs.link_model.Sending.{control_gone_if, facts_sent, takes_leave}
use Rattle.run_laws.specs.link_model.Verdicts.{pdu_of}

-- one of them is
abbrev pub is_lengthened : KnownLengths → Bool
is_lengthened lengths = lengths.long || lengths.changed

pub fixed_lengths : (facts : Facts) → (facts_fixed facts).lengths ≡ facts.lengths
fixed_lengths facts = by (is_control facts.outgoing.fixed)
  where
    by : (stays : Bool) → (if stays then facts else fixed_anew facts).lengths ≡ facts.lengths
    by true = refl
    by false = refl

gone_lengths : (goes : Bool) (slot : ℕ) (facts : Facts) → (control_gone_if goes slot facts).lengths ≡ facts.lengths
gone_lengths true slot facts = refl
gone_lengths false slot facts = refl

pub sent_lengths : (slot : ℕ) (facts : Facts) → (facts_sent slot facts).lengths ≡ facts.lengths
sent_lengths slot facts = gone_lengths (takes_leave facts) slot facts

reported_lengthened : (effect : Effect) (lengths : KnownLengths) → is_lengthened (lengths_reported effect lengths) ≡ is_lengthened lengths
reported_lengthened (new_lengths rx tx) lengths = refl
reported_lengthened Nothing lengths = refl
reported_lengthened other lengths = refl

pub seen_lengthened : (long changed differ : Bool) → (long || changed) ≡ true → (long || (changed || differ)) ≡ true
seen_lengthened true changed differ is = refl
seen_lengthened false true differ is = refl
seen_lengthened false false differ is = absurd cc

taken_lengthened : (takes : Bool) (pdu : Pdu) (slot : ℕ) (facts : Facts) → is_lengthened facts.lengths ≡ true → is_lengthened (procedures_take_if takes pdu slot facts).lengths ≡ true
taken_lengthened false pdu slot facts is = is
taken_lengthened true pdu slot facts is =
    let seen = lengths_seen facts.control.table.lengths (control_taken pdu slot facts).table.lengths facts.lengths in
    reported_lengthened (kept_give pdu slot facts).effect (lengths_reported (procedures_give pdu slot facts).effect seen)
    ∙ reported_lengthened (procedures_give pdu slot facts).effect seen
    ∙ seen_lengthened facts.lengths.long facts.lengths.changed _ is

data_lengths : (takes : Bool) (facts : Facts) → (data_taken_if takes facts).lengths ≡ facts.lengths
data_lengths true facts = refl
data_lengths false facts = refl

pub forged_lengths : (forged : Bool) (facts : Facts) → (facts_forged_if forged facts).lengths ≡ facts.lengths
forged_lengths true facts = refl
forged_lengths false facts = refl

-- it stays so as it receives a packet
pub received_lengthened : (role : Role) (slot : ℕ) (room : Bool) (found : Option (List ℕ)) (facts : Facts) → is_lengthened facts.lengths ≡ true
    → is_lengthened (facts_received role slot room found facts).lengths ≡ true
received_lengthened role slot room None facts is = is
received_lengthened role slot room (Some octets) facts is =
    let header = header_in octets in
    let pdu = pdu_of octets in
    let own = acknowledged_if (has_acknowledged facts header) (heard_in_slot slot header.md facts) in
    let now = facts_before_taking role slot header facts in
    let accepted = accepts room header pdu now in
    ap is_lengthened (data_lengths (accepted && is_data pdu) (procedures_take_if (accepted && is_procedure_pdu pdu) pdu slot (accepted_if accepted pdu now)))
    ∙ taken_lengthened (accepted && is_procedure_pdu pdu) pdu slot (accepted_if accepted pdu now)
    (ap is_lengthened (gone_lengths (answers_with_control role own) slot own) ∙ is)
