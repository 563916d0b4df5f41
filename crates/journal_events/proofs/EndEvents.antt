-- What each step of an end does to the event that it holds, as its lines say it.
use Rattle.std.proofs.Common.{◌≡◌, ℕ, ◌&&◌, ◌||◌, Bool, true, false, not, Option, Some, None, List, refl, sym, ap, ◌∙◌}
use Rattle.std.specs.Option.{option_map}
use Rattle.ble_base.specs.declared.roles.Role.{Role}
use Rattle.data_pdu.specs.Header.{header_in}
use Rattle.journal_sending.specs.journal_leaving.link_model.declared.events.ConnectionEvent.{ConnectionEvent}
use Rattle.journal_sending.specs.journal_leaving.link_model.declared.events.Reception.{Reception}
use Rattle.journal_sending.specs.journal_leaving.link_model.declared.state.KnownLengths.{KnownLengths}
use Rattle.journal_sending.specs.journal_leaving.link_model.procedure_stages.declared.steps.Effect.{Effect}
use Rattle.journal_sending.specs.journal_leaving.link_model.procedure_stages.declared.steps.Effect.TheVariants.{Lengths as new_lengths}
use Rattle.journal_sending.specs.journal_leaving.link_model.procedure_values.declared.lengths.Lengths.{Lengths}
use Rattle.journal_sending.specs.journal_leaving.link_model.procedure_values.Limits.{rx_of, tx_of}
use Rattle.journal_sending.specs.journal_leaving.link_model.Acknowledgement.{Pdu}
use Rattle.journal_sending.specs.journal_leaving.link_model.Controls.{are_equal, is_procedure_pdu}
use Rattle.journal_sending.specs.journal_leaving.link_model.Data.{is_data}
use Rattle.journal_sending.specs.journal_leaving.link_model.Entering.{facts_entered, keyed_entered}
use Rattle.journal_sending.specs.journal_leaving.link_model.Facts.{Facts, keyed_of}
use Rattle.journal_sending.specs.journal_leaving.link_model.Fixing.{facts_fixed}
use Rattle.journal_sending.specs.journal_leaving.link_model.Packets.{more_sent}
use Rattle.journal_sending.specs.journal_leaving.link_model.Receiving.{accepted_if, accepts, acknowledged_if, answers_with_control, control_taken, data_taken_if, facts_before_taking, facts_hearing, has_acknowledged, heard_in_slot, kept_give, lengths_reported, lengths_seen, procedures_give, procedures_take_if}
use Rattle.journal_sending.specs.journal_leaving.link_model.Sending.{control_gone_if, facts_sent}
use Rattle.journal_sending.specs.journal_leaving.link_model.Setup.{Setup}
use Rattle.journal_sending.specs.journal_leaving.link_model.Verdicts.{pdu_of}
use Rattle.journal_sending.specs.journal_leaving.link_model.keyed_control.Keyed.{Keyed}
use Rattle.journal_sending.proofs.journal_leaving.journal_acks.link_calls.HeardSteps.{fixed_same, received_same, sent_in}
use Rattle.journal_sending.proofs.journal_leaving.journal_acks.link_calls.Lengths.{fixed_lengths, sent_lengths}
use Rattle.journal_sending.proofs.journal_leaving.journal_acks.TwoStations.{same_number}
use Rattle.journal_events.specs.EventLines.{EventLines, changed_if, event_entering, event_hearing, event_sending, lengths_differ}
use Rattle.journal_events.specs.Told.{event_lines}
use Rattle.journal_events.proofs.KeptLengths.{lengths_in}

-- ---- lengths that are the same

pub or_none : (b : Bool) → (b || false) ≡ b
or_none true = refl
or_none false = refl

pub unchanged : (lines : EventLines) → changed_if false lines ≡ lines
unchanged lines = ap (λ changed. record lines { changed = changed }) (or_none lines.changed)

pub equal_self : (lengths : Lengths) → are_equal lengths lengths ≡ true
equal_self lengths = λ i. same_number (rx_of lengths) i && same_number (tx_of lengths) i

pub same_lengths : (before after : Keyed) → lengths_in after ≡ lengths_in before → lengths_differ (Some before) (Some after) ≡ false
same_lengths before after same =
    ap (λ lengths. not (are_equal (lengths_in before) lengths)) same ∙ ap not (equal_self (lengths_in before))

pub still : (before after : Keyed) (lines : EventLines) → lengths_in after ≡ lengths_in before
    → changed_if (lengths_differ (Some before) (Some after)) lines ≡ lines
still before after lines same = ap (λ differ. changed_if differ lines) (same_lengths before after same) ∙ unchanged lines

pub any_still : (k : Option Keyed) (lines : EventLines) → changed_if (lengths_differ k k) lines ≡ lines
any_still None lines = unchanged lines
any_still (Some k) lines = still k k lines refl

-- ---- by the parts of an end

abbrev pub lines_by : ConnectionEvent → (long changed : Bool) → Option Reception → EventLines
lines_by event long changed good = record {
  number = event.number;
  slot = event.slot;
  latency = event.latency;
  heard = event.heard;
  more = event.more;
  long = long;
  changed = changed;
  last_heard = option_map (λ (one : Reception). one.event) good;
}

-- it enters an event
pub entered_event : (setup : Setup) (slot : ℕ) (facts : Facts)
    → event_lines (facts_entered setup slot facts)
    ≡ event_entering slot (facts_entered setup slot facts).event.number (Some (keyed_of facts)) (Some (keyed_entered slot facts)) (event_lines facts)
entered_event setup slot facts = refl

pub fixed_event : (facts : Facts) → event_lines (facts_fixed facts) ≡ event_lines facts
fixed_event facts =
    let same = fixed_same facts in
    let lengths = fixed_lengths facts in
    λ i. lines_by (same.event i) (lengths i).long (lengths i).changed (same.good i)

pub sent_event : (slot : ℕ) (facts : Facts) → event_lines (facts_sent slot facts) ≡ event_sending slot (more_sent facts) (event_lines facts)
sent_event slot facts =
    let same = sent_in slot facts in
    let lengths = sent_lengths slot facts in
    λ i. lines_by (same.event i) (lengths i).long (lengths i).changed (same.good i)

-- ---- it receives a good packet

gone_known : (goes : Bool) (slot : ℕ) (facts : Facts) → (control_gone_if goes slot facts).lengths ≡ facts.lengths
gone_known true slot facts = refl
gone_known false slot facts = refl

data_known : (takes : Bool) (facts : Facts) → (data_taken_if takes facts).lengths ≡ facts.lengths
data_known true facts = refl
data_known false facts = refl

reported_long : (effect : Effect) (lengths : KnownLengths) → (lengths_reported effect lengths).long ≡ lengths.long
reported_long (new_lengths rx tx) lengths = refl
reported_long other lengths = refl

reported_changed : (effect : Effect) (lengths : KnownLengths) → (lengths_reported effect lengths).changed ≡ lengths.changed
reported_changed (new_lengths rx tx) lengths = refl
reported_changed other lengths = refl

-- the procedures see a PDU that changes a length
abbrev pub changes_taking : Pdu → ℕ → Facts → Bool
changes_taking pdu slot facts = not (are_equal facts.control.table.lengths (control_taken pdu slot facts).table.lengths)

taken_long : (takes : Bool) (pdu : Pdu) (slot : ℕ) (facts : Facts) → (procedures_take_if takes pdu slot facts).lengths.long ≡ facts.lengths.long
taken_long true pdu slot facts =
    let seen = lengths_seen facts.control.table.lengths (control_taken pdu slot facts).table.lengths facts.lengths in
    let effect = (procedures_give pdu slot facts).effect in
    reported_long (kept_give pdu slot facts).effect (lengths_reported effect seen) ∙ reported_long effect seen
taken_long false pdu slot facts = refl

taken_changed : (takes : Bool) (pdu : Pdu) (slot : ℕ) (facts : Facts)
    → (procedures_take_if takes pdu slot facts).lengths.changed ≡ (facts.lengths.changed || (takes && changes_taking pdu slot facts))
taken_changed true pdu slot facts =
    let seen = lengths_seen facts.control.table.lengths (control_taken pdu slot facts).table.lengths facts.lengths in
    let effect = (procedures_give pdu slot facts).effect in
    reported_changed (kept_give pdu slot facts).effect (lengths_reported effect seen) ∙ reported_changed effect seen
taken_changed false pdu slot facts = sym (or_none facts.lengths.changed)

module _ (role : Role) (slot : ℕ) (room : Bool) (octets : List ℕ) (facts : Facts) where
  abbrev pdu : Pdu
  pdu = pdu_of octets

  abbrev own : Facts
  own = acknowledged_if (has_acknowledged facts (header_in octets)) (heard_in_slot slot (header_in octets).md facts)

  abbrev now : Facts
  now = facts_before_taking role slot (header_in octets) facts

  abbrev accepted : Bool
  accepted = accepts room (header_in octets) pdu now

  abbrev takes : Bool
  takes = accepted && is_procedure_pdu pdu

  abbrev opened : Facts
  opened = accepted_if accepted pdu now

  abbrev seen : Facts
  seen = procedures_take_if takes pdu slot opened

  abbrev later : Facts
  later = facts_hearing role slot room (header_in octets) pdu facts

  own_known : now.lengths ≡ facts.lengths
  own_known = gone_known (answers_with_control role own) slot own

  long_is : later.lengths.long ≡ facts.lengths.long
  long_is =
      ap (λ (l : KnownLengths). l.long) (data_known (accepted && is_data pdu) seen) ∙ taken_long takes pdu slot opened
      ∙ ap (λ (l : KnownLengths). l.long) own_known

  changed_is : later.lengths.changed ≡ (facts.lengths.changed || (takes && changes_taking pdu slot opened))
  changed_is =
      ap (λ (l : KnownLengths). l.changed) (data_known (accepted && is_data pdu) seen) ∙ taken_changed takes pdu slot opened
      ∙ ap (λ (l : KnownLengths). l.changed || (takes && changes_taking pdu slot opened)) own_known

  pub heard_event : event_lines later
      ≡ changed_if (takes && changes_taking pdu slot opened) (event_hearing slot (header_in octets).md (event_lines facts))
  heard_event =
      let same = received_same role slot room octets facts in
      λ i. lines_by (same.event i) (long_is i) (changed_is i) (same.good i)
