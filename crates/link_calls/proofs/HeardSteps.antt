-- What each step of an end does to the event that it is in, and to its last good packet.
use Rattle.std.proofs.Common.{◌≡◌, ℕ, Bool, true, false, Some, List, refl, ◌∙◌}
use Rattle.std.specs.Prelude.{◌&&◌, if◌then◌else◌}
use Rattle.ble_base.specs.declared.roles.Role.{Role}
use Rattle.data_pdu.specs.Header.{header_in}
use Rattle.run_laws.specs.link_model.Acknowledgement.{Pdu}
use Rattle.run_laws.specs.link_model.Data.{is_control, is_data}
use Rattle.run_laws.specs.link_model.Events.{event_sent}
use Rattle.run_laws.specs.link_model.Verdicts.{pdu_of}
use Rattle.run_laws.specs.link_model.Setup.{Setup}
use Rattle.run_laws.specs.link_model.Controls.{goes_on, is_procedure_pdu}
use Rattle.run_laws.specs.link_model.Entering.{facts_entered_if}
use Rattle.run_laws.specs.link_model.Facts.{Facts}
use Rattle.run_laws.specs.link_model.Fixing.{facts_fixed, fixed_anew}
use Rattle.run_laws.specs.link_model.Packets.{more_sent}
use Rattle.run_laws.specs.link_model.Receiving.{accepted_if, accepts, acknowledged_if, answers_with_control, data_taken_if, facts_before_taking, facts_forged_if, facts_received, has_acknowledged, heard_in_slot, procedures_take_if}
use Rattle.run_laws.specs.link_model.Sending.{control_gone_if, facts_sent, fixed_sent, takes_leave}

-- the event and the last good packet are the same
pub record HasHeardSame (one other : Facts) : Type 0 where
  pub event : one.event ≡ other.event
  pub good : one.last_good ≡ other.last_good

gone_same : (goes : Bool) (slot : ℕ) (facts : Facts) → HasHeardSame (control_gone_if goes slot facts) facts
gone_same true slot facts = record { event = refl; good = refl }
gone_same false slot facts = record { event = refl; good = refl }

-- ---- it enters an event

pub entered_good : (setup : Setup) (slot : ℕ) (facts : Facts) → (facts_entered_if (goes_on facts) setup slot facts).last_good ≡ facts.last_good
entered_good setup slot facts = by (goes_on facts)
  where
    by : (goes : Bool) → (facts_entered_if goes setup slot facts).last_good ≡ facts.last_good
    by true = refl
    by false = refl

-- ---- it fixes its next PDU

pub fixed_same : (facts : Facts) → HasHeardSame (facts_fixed facts) facts
fixed_same facts = by (is_control facts.outgoing.fixed)
  where
    by : (stays : Bool) → HasHeardSame (if stays then facts else fixed_anew facts) facts
    by true = record { event = refl; good = refl }
    by false = record { event = refl; good = refl }

-- ---- it sends a packet

pub record HasSentIn (slot : ℕ) (facts : Facts) : Type 0 where
  pub event : (facts_sent slot facts).event ≡ event_sent slot (more_sent facts) facts.event
  pub good : (facts_sent slot facts).last_good ≡ facts.last_good

pub sent_in : (slot : ℕ) (facts : Facts) → HasSentIn slot facts
sent_in slot facts = record { event = event_by (takes_leave facts); good = good_by (takes_leave facts) }
  where
    event_by : (goes : Bool) → (fixed_sent slot (control_gone_if goes slot facts)).event ≡ event_sent slot (more_sent facts) facts.event
    event_by true = refl
    event_by false = refl

    good_by : (goes : Bool) → (fixed_sent slot (control_gone_if goes slot facts)).last_good ≡ facts.last_good
    good_by true = refl
    good_by false = refl

-- ---- it receives a packet

taken_same : (takes : Bool) (pdu : Pdu) (slot : ℕ) (facts : Facts) → HasHeardSame (procedures_take_if takes pdu slot facts) facts
taken_same true pdu slot facts = record { event = refl; good = refl }
taken_same false pdu slot facts = record { event = refl; good = refl }

data_same : (takes : Bool) (facts : Facts) → HasHeardSame (data_taken_if takes facts) facts
data_same true facts = record { event = refl; good = refl }
data_same false facts = record { event = refl; good = refl }

-- a good one; what it does besides changes neither
pub received_same : (role : Role) (slot : ℕ) (room : Bool) (pdu : List ℕ) (facts : Facts)
    → HasHeardSame (facts_received role slot room (Some pdu) facts) (heard_in_slot slot (header_in pdu).md facts)
received_same role slot room octets facts =
    let header = header_in octets in
    let pdu = pdu_of octets in
    let own = acknowledged_if (has_acknowledged facts header) (heard_in_slot slot header.md facts) in
    let now = facts_before_taking role slot header facts in
    let accepted = accepts room header pdu now in
    let gone = gone_same (answers_with_control role own) slot own in
    let taken = taken_same (accepted && is_procedure_pdu pdu) pdu slot (accepted_if accepted pdu now) in
    let after = data_same (accepted && is_data pdu) (procedures_take_if (accepted && is_procedure_pdu pdu) pdu slot (accepted_if accepted pdu now)) in
    record { event = after.event ∙ taken.event ∙ gone.event; good = after.good ∙ taken.good ∙ gone.good }

-- a forged one
pub forged_event : (forged : Bool) (facts : Facts) → (facts_forged_if forged facts).event ≡ facts.event
forged_event true facts = refl
forged_event false facts = refl

pub forged_good : (forged : Bool) (facts : Facts) → (facts_forged_if forged facts).last_good ≡ facts.last_good
forged_good true facts = refl
forged_good false facts = refl
