-- The payload of the PDU that was sent last is its body, as long as what is made is the body.
use Rattle.std.proofs.Common.{◌≡◌, ℕ, ◌&&◌, Bool, true, false, List, [], ◌∷◌, Option, Some, None, is_some, if◌then◌else◌, refl, ap, sym, ◌∙◌}
use Rattle.ble_base.specs.declared.roles.Role.{Role}
use Rattle.data_pdu.specs.Header.{header_in}
use Rattle.phased_end.specs.control_end.procedure_values.declared.asks.Ask.{Ask}
use Rattle.phased_end.specs.control_end.procedure_stages.Queue.{waiting_in}
use Rattle.link_model.specs.Setup.{Setup}
use Rattle.link_model.specs.Acknowledgement.{Pdu, is_acked}
use Rattle.link_model.specs.Data.{Data, data_acked_if, data_given, is_data}
use Rattle.link_model.specs.Verdicts.{pdu_of}
use Rattle.link_model.specs.Payload.{payload_made}
use Rattle.link_model.specs.Facts.{Facts}
use Rattle.link_model.specs.Controls.{is_procedure_pdu, is_quiet_now, next_control}
use Rattle.link_model.specs.Entering.{facts_entered_if}
use Rattle.link_model.specs.Fixing.{data_cut, data_fixed_by, data_goes, fixed_anew}
use Rattle.link_model.specs.Hosts.{asked_unless}
use Rattle.link_model.specs.Sending.{control_gone_if, data_sent_as, fixed_sent}
use Rattle.link_model.specs.Receiving.{accepted_if, accepts, acknowledged_if, answers_with_control, data_taken_if, facts_before_taking, facts_forged_if, facts_received, has_acknowledged, heard_in_slot, procedures_take_if}

-- the payload of the PDU that was sent last is its body
pub record IsBody (facts : Facts) : Type 0 where
  pub kept : facts.outgoing.payload ≡ facts.acknowledgement.last.body

-- what is out stays as it is
pub record SameOut (facts later : Facts) : Type 0 where
  pub payload : later.outgoing.payload ≡ facts.outgoing.payload
  pub last : later.acknowledgement.last ≡ facts.acknowledgement.last

pub body_stays : (facts later : Facts) → SameOut facts later → IsBody facts → IsBody later
body_stays facts later same is =
    record { kept = same.payload ∙ is.kept ∙ ap (λ (pdu : Pdu). pdu.body) (sym same.last) }

pub sent_body : (slot : ℕ) (facts : Facts) → payload_made facts.encryption.end facts.outgoing.fixed ≡ facts.outgoing.fixed.body
    → IsBody facts → IsBody (fixed_sent slot facts)
sent_body slot facts made is = record { kept = by (is_acked facts.acknowledgement) }
  where
    by : (acked : Bool)
        → (data_sent_as (payload_made facts.encryption.end facts.outgoing.fixed) acked facts.outgoing).payload
        ≡ (if acked then facts.outgoing.fixed else facts.acknowledgement.last).body
    by true = made
    by false = is.kept

pub given_same : (handle : ℕ) (start : Bool) (body : List ℕ) (outgoing : Data) → (data_given handle start body outgoing).payload ≡ outgoing.payload
given_same handle start [] outgoing = refl
given_same handle start (octet ∷ octets) outgoing = refl

pub asked_same : (comes : Bool) (ask : Ask) (facts : Facts) → SameOut facts (asked_unless comes ask facts)
asked_same true ask facts = record { payload = refl; last = refl }
asked_same false ask facts = record { payload = refl; last = refl }

pub entered_same : (goes : Bool) (setup : Setup) (slot : ℕ) (facts : Facts) → SameOut facts (facts_entered_if goes setup slot facts)
entered_same true setup slot facts = record { payload = refl; last = refl }
entered_same false setup slot facts = record { payload = refl; last = refl }

pub anew_same : (control : Bool) (waiting : ℕ) (quiet goes : Bool) (outgoing : Data)
    → (data_fixed_by control waiting quiet goes outgoing).payload ≡ outgoing.payload
anew_same true waiting quiet goes outgoing = refl
anew_same false waiting quiet true outgoing = refl
anew_same false waiting quiet false outgoing = refl

pub fixed_same : (stays : Bool) (facts : Facts) → SameOut facts (if stays then facts else fixed_anew facts)
fixed_same true facts = record { payload = refl; last = refl }
fixed_same false facts =
    record {
      payload =
          anew_same (is_some (next_control facts)) (waiting_in facts.control.table.queue) (is_quiet_now facts)
          (data_goes facts) (data_cut facts);
      last = refl;
    }

pub gone_same : (goes : Bool) (slot : ℕ) (facts : Facts) → SameOut facts (control_gone_if goes slot facts)
gone_same true slot facts = record { payload = refl; last = refl }
gone_same false slot facts = record { payload = refl; last = refl }

pub acked_same : (acked : Bool) (outgoing : Data) → (data_acked_if acked outgoing).payload ≡ outgoing.payload
acked_same true outgoing = refl
acked_same false outgoing = refl

takes_same : (takes : Bool) (pdu : Pdu) (slot : ℕ) (facts : Facts) → SameOut facts (procedures_take_if takes pdu slot facts)
takes_same true pdu slot facts = record { payload = refl; last = refl }
takes_same false pdu slot facts = record { payload = refl; last = refl }

data_same : (takes : Bool) (facts : Facts) → SameOut facts (data_taken_if takes facts)
data_same true facts = record { payload = refl; last = refl }
data_same false facts = record { payload = refl; last = refl }

pub forged_same : (forged : Bool) (facts : Facts) → SameOut facts (facts_forged_if forged facts)
forged_same true facts = record { payload = refl; last = refl }
forged_same false facts = record { payload = refl; last = refl }

pub received_body : (role : Role) (slot : ℕ) (room : Bool) (pdu : Option (List ℕ)) (facts : Facts) → IsBody facts
    → IsBody (facts_received role slot room pdu facts)
received_body role slot room None facts is = is
received_body role slot room (Some octets) facts is =
    let header = header_in octets in
    let pdu = pdu_of octets in
    let acks = has_acknowledged facts header in
    let own = acknowledged_if acks (heard_in_slot slot header.md facts) in
    let now = facts_before_taking role slot header facts in
    let accepted = accepts room header pdu now in
    let opened = accepted_if accepted pdu now in
    let seen = procedures_take_if (accepted && is_procedure_pdu pdu) pdu slot opened in
    let later = data_taken_if (accepted && is_data pdu) seen in
    let own_is : IsBody own =
    record { kept = acked_same (acks && is_data facts.acknowledgement.last) facts.outgoing ∙ is.kept } in
    let now_is : IsBody now = body_stays own now (gone_same (answers_with_control role own) slot own) own_is in
    let opened_is : IsBody opened = record { kept = now_is.kept } in
    body_stays seen later (data_same (accepted && is_data pdu) seen)
    (body_stays opened seen (takes_same (accepted && is_procedure_pdu pdu) pdu slot opened) opened_is)
