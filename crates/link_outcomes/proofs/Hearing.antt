-- How far the request of a peripheral is at most, as it receives a packet.
use Rattle.std.proofs.Common.{◌≡◌, ℕ, ◌==◌, ◌&&◌, not, Bool, true, false, List, is_none, if◌then◌else◌, refl, sym, ap, subst, ◌∙◌}
use Rattle.std.proofs.lemmas.Bool.{and_parts}
use Rattle.ble_base.specs.ErrorCodes.{mic_failure}
use Rattle.ble_base.specs.declared.notes.Note.{Note}
use Rattle.ble_base.specs.declared.roles.Role.{Role}
use Rattle.ble_base.specs.declared.roles.Role.TheVariants.{Central, Peripheral}
use Rattle.data_pdu.specs.Reading.{ctrl_of}
use Rattle.data_pdu.specs.declared.header.DataHeader.{DataHeader}
use Rattle.exclusive_stages.specs.declared.pdus.Exclusive.{Exclusive}
use Rattle.exclusive_stages.specs.declared.pdus.Exclusive.TheVariants.{Request}
use Rattle.link_model.specs.Acknowledgement.{Pdu, is_acked}
use Rattle.link_model.specs.Controls.{goes_on, is_procedure_pdu, is_quiet_now, read_of}
use Rattle.link_model.specs.Data.{Data, data_acked_if, is_control, is_data, is_empty}
use Rattle.link_model.specs.End.{facts_after, notes_after}
use Rattle.link_model.specs.Facts.{Facts, keyed_of}
use Rattle.link_model.specs.Hosts.{is_to_come}
use Rattle.link_model.specs.Entering.{facts_entered}
use Rattle.link_model.specs.Receiving.{accepted_if, accepts, acked_kind, acknowledged_if, acks_control, answers_with_control, control_taken, data_taken_if, ended_by_forgery, facts_before_taking, facts_hearing, given_if, has_acknowledged, heard_in_slot, kept_given_if, notes_hearing, procedures_take_if, took_notes_if}
use Rattle.link_model.specs.Sending.{takes_leave}
use Rattle.link_model.specs.Setup.{Setup}
use Rattle.link_model.specs.Step.{Step, DataGiven, DataReported, Disconnected, EventEntered, KeyAnswered, PacketReceived, PacketSent, PduFixed, ProcedureAsked, RequestAnswered, WordsGiven}
use Rattle.link_model.specs.control_end.Answers.{entry_of}
use Rattle.link_model.specs.control_end.Held.{held_of}
use Rattle.link_model.specs.control_model.Control.{Control, Answers, Disconnects, SeesAcknowledged, ended}
use Rattle.link_model.proofs.KnownEnds.{IsPast, knows_accepted, knows_before_taking, past_knows}
use Rattle.link_model.proofs.Moves.{was_out}
use Rattle.link_model.proofs.Receptions.{each_packet}
use Rattle.link_model.proofs.Views.{Knows, acked_control, acked_view, data_view, key_view, reading_view, taken_view}
use Rattle.link_outcomes.proofs.Awaiting.{answers, waits_in}
use Rattle.link_outcomes.proofs.Controls.{Holds, control_holds, data_holds, owing_holds, taking_holds, weaker}
use Rattle.link_outcomes.proofs.Taking.{answers_seen}
use Rattle.link_outcomes.proofs.Standing.{Stands, StandsIn, asked_stands, entered_stands, entry_less, fixed_stands, free, given_fixed, gone_stands, heard_waits, is_param, level, level_one, level_up, other_stands, sent_by, stands_less}

-- ---- the last control PDU is acknowledged

acked_holds : (sees : Bool) (waits : Bool) (c : Control) → Holds (level false waits) c
    → Holds (level false waits) (acked_control sees c)
acked_holds true waits c h = control_holds (level false waits) SeesAcknowledged c (level_one waits) h
acked_holds false waits c h = h

acked_fixed : (acked : Bool) (outgoing : Data) → is_control outgoing.fixed ≡ false → is_control (data_acked_if acked outgoing).fixed ≡ false
acked_fixed true outgoing is = is
acked_fixed false outgoing is = is

none_fixed : (fixed acked b : Bool) → fixed ≡ b → (fixed ≡ true → acked ≡ true) → acked ≡ false → fixed ≡ false
none_fixed fixed acked false is left out = is
none_fixed fixed acked true is left out = let no : true ≡ false = sym (left is) ∙ out in absurd (cc)

acked_stands : (acks : Bool) (waits : Bool) (facts : Facts) → Knows (keyed_of facts) → (acks ≡ true → is_acked facts.acknowledgement ≡ false)
    → StandsIn waits facts
    → StandsIn waits (acknowledged_if acks facts)
acked_stands false waits facts knows out s = record { holds = s.holds; left = s.left }
acked_stands true waits facts knows out s =
    let none = none_fixed (is_control facts.outgoing.fixed) (is_acked facts.acknowledgement) (is_control facts.outgoing.fixed) refl s.left (out refl) in
    other_stands waits _ _ _ (acked_fixed (is_data facts.acknowledgement.last) facts.outgoing none)
    (owing_holds (level false waits) _ _ (acked_view (is_control facts.acknowledgement.last) facts knows)
    (acked_holds (is_control facts.acknowledgement.last) waits facts.control (free (is_param facts.outgoing.fixed) waits facts.control s.holds)))

leaves : (role : Role) (facts : Facts) → answers_with_control role facts ≡ true → takes_leave facts ≡ true
leaves Central facts is = absurd cc
leaves Peripheral facts is = is

pub before_stands : (role : Role) (slot : ℕ) (header : DataHeader) (waits : Bool) (facts : Facts) → Knows (keyed_of facts) → StandsIn waits facts
    → StandsIn waits (facts_before_taking role slot header facts)
before_stands role slot header waits facts knows s =
    let heard = heard_in_slot slot header.md facts in
    let own = acknowledged_if (has_acknowledged facts header) heard in
    gone_stands (answers_with_control role own) slot waits own (leaves role own)
    (acked_stands (has_acknowledged facts header) waits heard knows
    (was_out (is_acked facts.acknowledgement) _) (record { holds = s.holds; left = s.left }))

-- ---- the new PDU is taken

-- a PDU that is read as an answer is one
pub answers_read : (q : Exclusive) (pdu : Pdu) → answers q (read_of pdu) ≡ true → answers q (ctrl_of pdu.body) ≡ true
answers_read q pdu is = answers_seen q (ctrl_of pdu.body) (read_of pdu) (reading_view pdu) is

not_one : (fixes waits answer : Bool) → answer ≡ true → (level fixes (waits && not (true && answer)) == 1) ≡ false
not_one true waits answer is = refl
not_one false waits false is = absurd cc
not_one false true true is = refl
not_one false false true is = refl

and_less : (a b : Bool) → (a && b) ≡ true → a ≡ true
and_less a b is = (and_parts a b is).0

taken_by : (accepted empty control : Bool) (handle : ℕ) (pdu : Pdu) (slot : ℕ) (waits : Bool) (facts : Facts) → Knows (keyed_of facts) → is_control pdu ≡ control
    → StandsIn waits facts
    → StandsIn (waits_in Request waits (took_notes_if (accepted && not empty) handle pdu facts))
    (procedures_take_if (accepted && (control && not empty)) pdu slot (accepted_if accepted pdu facts))
taken_by false empty control handle pdu slot waits facts knows is s = record { holds = s.holds; left = s.left }
taken_by true true true handle pdu slot waits facts knows is s = record { holds = s.holds; left = s.left }
taken_by true true false handle pdu slot waits facts knows is s = record { holds = s.holds; left = s.left }
taken_by true false false handle pdu slot waits facts knows is s =
    let later = stands_less waits (waits && not (is_control pdu && answers Request (ctrl_of pdu.body))) (is_acked facts.acknowledgement) facts.control facts.outgoing.fixed
    (and_less waits (not (is_control pdu && answers Request (ctrl_of pdu.body)))) s in
    record { holds = later.holds; left = later.left }
taken_by true false true handle pdu slot waits facts knows is s =
    let answer = answers Request (ctrl_of pdu.body) in
    let fixes = is_param facts.outgoing.fixed in
    let now = waits && not (is_control pdu && answer) in
    record {
      holds =
          taking_holds (level fixes now) (is_quiet_now facts) facts.control (read_of pdu) slot _ _
          (control_taken pdu slot (accepted_if true pdu facts))
          (taken_view pdu slot (accepted_if true pdu facts) (knows_accepted true pdu facts knows))
          (λ read. ap (λ (b : Bool). level fixes (waits && not (b && answer)) == 1) is
          ∙ not_one fixes waits answer (answers_read Request pdu read))
          (weaker (level fixes waits) (level fixes now) facts.control (level_up fixes waits now (and_less waits (not (is_control pdu && answer)))) s.holds);
      left = s.left;
    }

data_stands : (takes : Bool) (waits : Bool) (facts : Facts) → StandsIn waits facts → StandsIn waits (data_taken_if takes facts)
data_stands true waits facts s =
    record { holds = data_holds (level (is_param facts.outgoing.fixed) waits) _ _ (data_view facts) s.holds; left = s.left }
data_stands false waits facts s = s

heard_stands : (setup : Setup) (slot : ℕ) (room : Bool) (header : DataHeader) (pdu : Pdu) (waits : Bool) (facts : Facts) → IsPast setup facts
    → StandsIn waits facts
    → StandsIn (waits_in Request waits (notes_hearing setup slot room header pdu facts)) (facts_hearing setup.link.role slot room header pdu facts)
heard_stands setup slot room header pdu waits facts p s =
    let handle = setup.link.handle in
    let now = facts_before_taking setup.link.role slot header facts in
    let accepted = accepts room header pdu now in
    let takes = accepted && is_procedure_pdu pdu in
    let took = took_notes_if (accepted && not (is_empty pdu)) handle pdu now in
    let later = facts_hearing setup.link.role slot room header pdu facts in
    subst (λ (w : Bool). StandsIn w later)
    (sym (heard_waits Request handle (acked_kind (acks_control (has_acknowledged facts header) facts) facts) took (given_if takes pdu slot now)
    (kept_given_if takes pdu slot now) waits))
    (data_stands (accepted && is_data pdu) (waits_in Request waits took) (procedures_take_if takes pdu slot (accepted_if accepted pdu now))
    (taken_by accepted (is_empty pdu) (is_control pdu) handle pdu slot waits now
    (knows_before_taking setup facts p setup.link.role slot header) refl
    (before_stands setup.link.role slot header waits facts (past_knows setup facts p) s)))

forged_stands : (waits : Bool) (facts : Facts) → StandsIn waits facts → StandsIn waits (record facts { control = ended_by_forgery facts.control })
forged_stands waits facts s = by (is_none facts.control.ends)
  where
    by : (goes : Bool) → StandsIn waits (record facts { control = (if goes then ended (record { 0 = mic_failure }) facts.control else facts.control) })
    by true = record { holds = record { role = s.holds.role; fits = s.holds.fits }; left = s.left }
    by false = record { holds = s.holds; left = s.left }

-- ---- each step

pub step_stands : (setup : Setup) (facts : Facts) (step : Step) (waits : Bool) → IsPast setup facts → StandsIn waits facts
    → StandsIn (waits_in Request waits (notes_after setup facts step)) (facts_after setup facts step)
step_stands setup facts (DataGiven start body) waits p s =
    subst (λ (pdu : Pdu). Stands waits facts.control pdu (is_acked facts.acknowledgement)) (given_fixed setup.link.handle start body facts.outgoing) s
step_stands setup facts (ProcedureAsked ask) waits p s = asked_stands (is_to_come ask facts) ask waits facts s
step_stands setup facts (RequestAnswered answer) waits p s =
    record { holds = control_holds (level (is_param facts.outgoing.fixed) waits) (Answers answer) facts.control tt s.holds; left = s.left }
step_stands setup facts (Disconnected reason slot) waits p s =
    record { holds = control_holds (level (is_param facts.outgoing.fixed) waits) (Disconnects reason) facts.control tt s.holds; left = s.left }
step_stands setup facts (KeyAnswered key slot) waits p s =
    record { holds = owing_holds (level (is_param facts.outgoing.fixed) waits) _ _ (key_view key facts) s.holds; left = s.left }
step_stands setup facts (EventEntered slot) waits p s =
    stands_less waits _ _ _ _
    (entry_less Request (goes_on facts) setup.link.handle (facts_entered setup slot facts).event
    (entry_of slot (is_quiet_now facts) (held_of facts.control)) waits)
    (entered_stands (goes_on facts) setup slot waits facts s)
step_stands setup facts PduFixed waits p s = fixed_stands (is_control facts.outgoing.fixed) waits facts s
step_stands setup facts (PacketSent slot) waits p s =
    sent_by (is_acked facts.acknowledgement) facts.fixes_control setup.link.handle slot waits facts refl refl s
step_stands setup facts (WordsGiven skd_s iv_s) waits p s = record { holds = s.holds; left = s.left }
step_stands setup facts (PacketReceived slot octets room) waits p s =
    each_packet setup slot facts (λ (notes : List Note) (next : Facts). StandsIn (waits_in Request waits notes) next) octets room s
    (forged_stands waits facts s) (λ header pdu. heard_stands setup slot room header pdu waits facts p s)
step_stands setup facts DataReported waits p s = record { holds = s.holds; left = s.left }
