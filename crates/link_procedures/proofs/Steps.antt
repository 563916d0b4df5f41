-- The notes of an end and the procedure that it has in progress, step by step.
use Rattle.std.proofs.Common.{◌≡◌, ℕ, ◌&&◌, not, Bool, true, false, if◌then◌else◌, List, [], ◌∷◌, ◌++◌, fold, Option, None, is_none, refl, ap, sym, subst}
use Rattle.ble_base.specs.ErrorCodes.{mic_failure}
use Rattle.ble_base.specs.declared.notes.Note.{Note}
use Rattle.ble_base.specs.declared.procedure_kinds.Kind.{Kind}
use Rattle.ble_base.specs.declared.roles.Role.{Role}
use Rattle.ble_base.specs.declared.roles.Role.TheVariants.{Central, Peripheral}
use Rattle.data_pdu.specs.declared.header.DataHeader.{DataHeader}
use Rattle.link_model.specs.control_end.Answers.{entry_of}
use Rattle.link_model.specs.control_end.Held.{held_of}
use Rattle.link_model.specs.control_model.Control.{Control, Enters, after, ended}
use Rattle.link_model.specs.procedure_values.declared.asks.Ask.{Ask}
use Rattle.link_model.specs.procedure_stages.InProgress.{first_progress}
use Rattle.link_model.specs.procedure_stages.Kinds.{own_kind}
use Rattle.link_model.specs.Acknowledgement.{Pdu, is_acked}
use Rattle.link_model.specs.Controls.{goes_on as end_goes_on, is_procedure_pdu, is_quiet_now, pdu_fixed, read_of}
use Rattle.link_model.specs.Data.{is_control, is_data, is_empty, numbered}
use Rattle.link_model.specs.End.{facts_after, facts_of, notes_after, notes_from, notes_of}
use Rattle.link_model.specs.Entering.{done_notes, event_notes, facts_entered, facts_entered_if}
use Rattle.link_model.specs.Facts.{Facts, first_facts, keyed_of}
use Rattle.link_model.specs.Fixing.{fixed_anew}
use Rattle.link_model.specs.Hosts.{asked_unless, is_to_come}
use Rattle.link_model.specs.Receiving.{accepted_if, accepts, acked_kind, acknowledged_if, acks_control, answers_with_control, control_taken, data_taken_if, ended_by_forgery, facts_before_taking, facts_hearing, given_if, given_notes, has_acknowledged, heard_in_slot, kept_give, kept_given_if, notes_hearing, procedures_give, procedures_take_if, taken_notes, took_notes_if}
use Rattle.link_model.specs.Sending.{control_gone_if, sent_notes, takes_leave}
use Rattle.link_model.specs.Setup.{Setup}
use Rattle.link_model.specs.Step.{Step, DataGiven, DataReported, Disconnected, EventEntered, KeyAnswered, PacketReceived, PacketSent, PduFixed, ProcedureAsked, RequestAnswered, WordsGiven}
use Rattle.link_model.proofs.KnownEnds.{IsPast, first_past, knows_before_taking, past_knows, step_past}
use Rattle.link_model.proofs.Receptions.{each_packet}
use Rattle.link_model.proofs.Views.{Knows, acked_control, acked_view, data_view, entered_view, key_view, taken_accepted, taken_view}
use Rattle.link_procedures.proofs.Controls.{answers_keep, asks_keep, data_keeps, disconnects_keep, enters_goes, own_of, owing_keeps, sees_goes, sends_keep, taking_goes}
use Rattle.link_procedures.proofs.Noting.{GoesBy, both, goes_on, sending_silent, taking_silent}

-- the procedure that the end has in progress
abbrev pub own_in : Facts → Option Kind
own_in facts = own_of facts.control

-- a step that keeps it, with notes of no procedure
keeps : (notes : List Note) (before later : Option Kind) → later ≡ before → GoesBy notes before before → GoesBy notes before later
keeps notes before later same goes = subst (λ (own : Option Kind). GoesBy notes before own) (sym same) goes

-- and one after which it stays
keeps_later : (notes : List Note) (before between later : Option Kind) → later ≡ between → GoesBy notes before between → GoesBy notes before later
keeps_later notes before between later same goes = subst (λ (own : Option Kind). GoesBy notes before own) (sym same) goes

-- one that was kept before these notes
kept_first : (notes : List Note) (before between later : Option Kind) → between ≡ before → GoesBy notes between later → GoesBy notes before later
kept_first notes before between later same goes = subst (λ (own : Option Kind). GoesBy notes own later) same goes

-- ---- the host asks, an event is entered, a PDU is fixed or sent

asked_same : (comes : Bool) (ask : Ask) (facts : Facts) → own_in (asked_unless comes ask facts) ≡ own_in facts
asked_same true ask facts = refl
asked_same false ask facts = asks_keep ask facts.control

entered_goes : (setup : Setup) (slot : ℕ) (facts : Facts) (goes : Bool) → end_goes_on facts ≡ goes
    → GoesBy (if goes then event_notes setup.link.handle (facts_entered setup slot facts).event (entry_of slot (is_quiet_now facts) (held_of facts.control)) else [])
    (own_in facts) (own_in (facts_entered_if goes setup slot facts))
entered_goes setup slot facts true is =
    keeps_later (event_notes setup.link.handle (facts_entered setup slot facts).event (entry_of slot (is_quiet_now facts) (held_of facts.control)))
    (own_in facts) (own_of (after (Enters slot (is_quiet_now facts)) facts.control)) (own_in (facts_entered setup slot facts))
    (owing_keeps _ _ (entered_view slot facts))
    (enters_goes setup.link.handle (facts_entered setup slot facts).event slot (is_quiet_now facts) facts.control is)
entered_goes setup slot facts false is = goes_on (own_in facts)

fixed_same : (stays : Bool) (facts : Facts) → own_in (if stays then facts else fixed_anew facts) ≡ own_in facts
fixed_same true facts = refl
fixed_same false facts = refl

gone_same : (goes : Bool) (slot : ℕ) (facts : Facts) → own_in (control_gone_if goes slot facts) ≡ own_in facts
gone_same true slot facts = sends_keep slot (is_quiet_now facts) facts.control
gone_same false slot facts = refl

-- ---- a packet is received

pub acked_goes : (handle : ℕ) (acked : Bool) (facts : Facts)
    → GoesBy (done_notes handle (acked_kind acked facts)) (own_in facts) (own_of (acked_control acked facts.control))
acked_goes handle true facts = sees_goes handle facts.control
acked_goes handle false facts = goes_on (own_in facts)

given_goes : (handle : ℕ) (takes accepted : Bool) (pdu : Pdu) (slot : ℕ) (facts : Facts) → Knows (keyed_of facts)
    → GoesBy (given_notes handle (given_if takes pdu slot facts) ++ given_notes handle (kept_given_if takes pdu slot facts)) (own_in facts)
    (own_in (procedures_take_if takes pdu slot (accepted_if accepted pdu facts)))
given_goes handle true accepted pdu slot facts knows =
    keeps_later (given_notes handle (procedures_give pdu slot facts) ++ given_notes handle (kept_give pdu slot facts)) (own_in facts)
    (own_of (control_taken pdu slot facts)) _ (ap own_of (taken_accepted accepted pdu slot facts))
    (taking_goes handle (is_quiet_now facts) facts.control (read_of pdu) slot _ _ _ (taken_view pdu slot facts knows))
given_goes handle false accepted pdu slot facts knows = goes_on (own_in facts)

data_same : (takes : Bool) (facts : Facts) → own_in (data_taken_if takes facts) ≡ own_in facts
data_same true facts = data_keeps _ _ (data_view facts)
data_same false facts = refl

module _ (setup : Setup) (slot : ℕ) (room : Bool) (header : DataHeader) (pdu : Pdu) (facts : Facts) (p : IsPast setup facts) where
  abbrev acks : Bool
  acks = has_acknowledged facts header

  abbrev acked : Facts
  acked = acknowledged_if acks (heard_in_slot slot header.md facts)

  abbrev now : Facts
  now = facts_before_taking setup.link.role slot header facts

  abbrev accepted : Bool
  accepted = accepts room header pdu now

  taking_noted : GoesBy (taken_notes setup.link.handle accepted pdu slot now) (own_in now) (own_in (facts_hearing setup.link.role slot room header pdu facts))
  taking_noted =
      let handle = setup.link.handle in
      let takes = accepted && is_procedure_pdu pdu in
      let noted = took_notes_if (accepted && not (is_empty pdu)) handle pdu now in
      let given = given_notes handle (given_if takes pdu slot now) ++ given_notes handle (kept_given_if takes pdu slot now) in
      let taken = procedures_take_if takes pdu slot (accepted_if accepted pdu now) in
      keeps_later (noted ++ given) (own_in now) (own_in taken) _ (data_same (accepted && is_data pdu) taken)
      (both noted given (own_in now) (own_in now) (own_in taken)
      (taking_silent (accepted && not (is_empty pdu)) handle pdu now (own_in now))
      (given_goes handle takes accepted pdu slot now (knows_before_taking setup facts p setup.link.role slot header)))

  heard_goes : GoesBy (notes_hearing setup slot room header pdu facts) (own_in facts) (own_in (facts_hearing setup.link.role slot room header pdu facts))
  heard_goes =
      let handle = setup.link.handle in
      let role = setup.link.role in
      let later = own_in (facts_hearing role slot room header pdu facts) in
      let first = done_notes handle (acked_kind (acks_control acks facts) facts) in
      both first (taken_notes handle accepted pdu slot now) (own_in facts) (own_in acked) later
      (keeps_later first (own_in facts) (own_of (acked_control (acks_control acks facts) facts.control)) (own_in acked)
      (owing_keeps _ _ (acked_view (acks_control acks facts) facts (past_knows setup facts p)))
      (acked_goes handle (acks_control acks facts) facts))
      (kept_first (taken_notes handle accepted pdu slot now) (own_in acked) (own_in now) later
      (gone_same (answers_with_control role acked) slot acked) taking_noted)

-- ---- each step

forged_same : (c : Control) → own_of (ended_by_forgery c) ≡ own_of c
forged_same c = by (is_none c.ends)
  where
    by : (goes : Bool) → own_of (if goes then ended (record { 0 = mic_failure }) c else c) ≡ own_of c
    by true = refl
    by false = refl

pub step_goes : (setup : Setup) (facts : Facts) (step : Step) → IsPast setup facts
    → GoesBy (notes_after setup facts step) (own_in facts) (own_in (facts_after setup facts step))
step_goes setup facts (DataGiven start body) p = goes_on (own_in facts)
step_goes setup facts (ProcedureAsked ask) p = keeps [] (own_in facts) _ (asked_same (is_to_come ask facts) ask facts) (goes_on (own_in facts))
step_goes setup facts (RequestAnswered answer) p = keeps [] (own_in facts) _ (answers_keep answer facts.control) (goes_on (own_in facts))
step_goes setup facts (Disconnected reason slot) p = keeps [] (own_in facts) _ (disconnects_keep reason facts.control) (goes_on (own_in facts))
step_goes setup facts (KeyAnswered key slot) p = keeps [] (own_in facts) _ (owing_keeps _ _ (key_view key facts)) (goes_on (own_in facts))
step_goes setup facts (EventEntered slot) p = entered_goes setup slot facts (end_goes_on facts) refl
step_goes setup facts PduFixed p = keeps [] (own_in facts) _ (fixed_same (is_control facts.outgoing.fixed) facts) (goes_on (own_in facts))
step_goes setup facts (PacketSent slot) p =
    keeps (sent_notes setup facts) (own_in facts) _ (gone_same (takes_leave facts) slot facts)
    (sending_silent (is_acked facts.acknowledgement && not (is_empty (pdu_fixed facts))) setup.link.handle (numbered facts.acknowledgement.sent)
    (pdu_fixed facts) (own_in facts))
step_goes setup facts (WordsGiven skd_s iv_s) p = goes_on (own_in facts)
step_goes setup facts (PacketReceived slot octets room) p =
    each_packet setup slot facts (λ (notes : List Note) (next : Facts). GoesBy notes (own_in facts) (own_in next)) octets room
    (goes_on (own_in facts)) (keeps [] (own_in facts) _ (forged_same facts.control) (goes_on (own_in facts)))
    (λ header pdu. heard_goes setup slot room header pdu facts p)
step_goes setup facts DataReported p = goes_on (own_in facts)

-- ---- all steps

steps_go : (setup : Setup) (facts : Facts) (steps : List Step) → IsPast setup facts
    → GoesBy (notes_from setup facts steps) (own_in facts) (own_in (fold (facts_after setup) facts steps))
steps_go setup facts [] p = goes_on (own_in facts)
steps_go setup facts (step ∷ steps) p =
    let next = facts_after setup facts step in
    both (notes_after setup facts step) (notes_from setup next steps) (own_in facts) (own_in next) (own_in (fold (facts_after setup) next steps))
    (step_goes setup facts step p) (steps_go setup next steps (step_past setup facts step p))

none_first : (role : Role) → own_kind (first_progress role) ≡ None
none_first Central = refl
none_first Peripheral = refl

pub past_goes : (setup : Setup) (past : List Step) → GoesBy (notes_of setup past) None (own_in (facts_of setup past))
unfolding facts_of notes_of
past_goes setup past =
    kept_first (notes_from setup (first_facts setup) past) None (own_in (first_facts setup)) (own_in (fold (facts_after setup) (first_facts setup) past))
    (none_first setup.link.role) (steps_go setup (first_facts setup) past (first_past setup))
