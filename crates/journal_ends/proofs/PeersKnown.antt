-- The handle and the role of an end, and what it knows of its peer, by its lines.
use Rattle.std.proofs.Common.{◌≡◌, ℕ, ◌&&◌, not, Bool, true, false, Option, Some, None, List, [], ◌∷◌, ◌++◌, map, fold, is_none, if◌then◌else◌, refl, sym, ap, subst, ◌∙◌}
use Rattle.std.specs.List.{AllByRecursion}
use Rattle.std.proofs.lemmas.List.{map-append}
use Rattle.std.proofs.lemmas.List.Sums.{fold-append}
use Rattle.ble_base.specs.declared.error_codes.ErrCode.{ErrCode}
use Rattle.ble_base.specs.declared.notes.Note.{Note}
use Rattle.ble_base.specs.declared.procedure_kinds.Kind.{Kind}
use Rattle.ble_base.specs.declared.procedure_kinds.Kind.TheVariants.{Encrypt}
use Rattle.ble_base.specs.declared.roles.Role.{Role}
use Rattle.ble_base.specs.declared.roles.Role.TheVariants.{Central, Peripheral}
use Rattle.ble_base.specs.declared.roles.Side.{Side}
use Rattle.data_pdu.specs.declared.ctrl.Ctrl.{Ctrl}
use Rattle.data_pdu.specs.declared.ctrl.CtrlRead.{CtrlRead}
use Rattle.data_pdu.specs.declared.ctrl.CtrlRead.TheVariants.{Bare, Known, Unknown}
use Rattle.data_pdu.specs.declared.header.DataHeader.{DataHeader}
use Rattle.journal_acks.specs.controller_model.Since.{notes_opened_on}
use Rattle.journal_acks.proofs.controller_model.EndNotes.{entered_each, received_each, sent_each}
use Rattle.journal.specs.declared.entries.Entry.{Entry}
use Rattle.journal_acks.specs.journal_links.LinkLines.{line_of}
use Rattle.journal_acks.specs.link_model.Acknowledgement.{Pdu}
use Rattle.journal_acks.specs.link_model.Controls.{goes_on, is_procedure_pdu, is_quiet_now, read_of}
use Rattle.journal_acks.specs.link_model.Data.{is_control, is_data, is_empty}
use Rattle.journal_acks.specs.link_model.End.{facts_after, facts_of, notes_after, notes_from, notes_of}
use Rattle.journal_acks.specs.link_model.Entering.{done_notes, event_notes, facts_entered, facts_entered_if}
use Rattle.journal_acks.specs.link_model.Facts.{Facts, first_facts, keyed_of}
use Rattle.journal_acks.specs.link_model.Fixing.{fixed_anew}
use Rattle.journal_acks.specs.link_model.Hosts.{asked_unless, is_to_come}
use Rattle.journal_acks.specs.link_model.KeyedSteps.{step_if}
use Rattle.journal_acks.specs.link_model.Packets.{good_pdu}
use Rattle.journal_acks.specs.link_model.Payload.{end_accepting}
use Rattle.journal_acks.specs.link_model.Receiving.{accepted_if, accepts, acked_kind, acknowledged_if, acks_control, answers_with_control, control_taken, counts_accepted, data_taken, data_taken_if, facts_before_taking, facts_hearing, given_if, given_notes, has_acknowledged, heard_in_slot, is_seen, kept_answered, kept_give, kept_given_if, keyed_taken, notes_hearing, peer_answered, peer_from, peer_taken, procedures_give, procedures_take_if, took_notes_if}
use Rattle.journal_acks.specs.link_model.Sending.{control_gone_if, takes_leave}
use Rattle.journal_acks.specs.link_model.Setup.{Setup}
use Rattle.journal_acks.specs.link_model.Step.{Step, DataGiven, ProcedureAsked, RequestAnswered, KeyAnswered, Disconnected, EventEntered, PduFixed, PacketSent, WordsGiven, PacketReceived, DataReported}
use Rattle.journal_acks.specs.link_model.control_end.Answers.{entry_of}
use Rattle.journal_acks.specs.link_model.control_end.Held.{held_of}
use Rattle.journal_acks.specs.link_model.control_model.Control.{Control}
use Rattle.journal_acks.specs.link_model.enc_phase.declared.classes.PduClass.{PduClass}
use Rattle.journal_acks.specs.link_model.enc_phase.declared.classes.PduClass.TheVariants.{Request}
use Rattle.journal_acks.specs.link_model.keyed_control.Keyed.{Keyed}
use Rattle.journal_acks.specs.link_model.keyed_control.KeyedSteps.{KeyedStep, SeesAcknowledged as keyed_sees_acknowledged, Sends as keyed_sends, Takes as keyed_takes, keyed_after_all}
use Rattle.journal_acks.specs.link_model.phased_control.Phased.{Phased, is_quiet_now as quiet_in}
use Rattle.journal_acks.specs.link_model.phased_control.Taken.{class_of_read, ctrl_in, does_keep, keeps_class, role_now}
use Rattle.journal_acks.specs.link_model.phased_end.Held.{held_of as keyed_held}
use Rattle.journal_acks.specs.link_model.phased_end.Taking.{drawn, handed_keyed, is_handed, nothing_keyed}
use Rattle.journal_acks.specs.link_model.phased_end.declared.taking.TakenKeyed.{TakenKeyed}
use Rattle.journal_acks.specs.link_model.procedure_stages.InProgress.{first_progress}
use Rattle.journal_acks.specs.link_model.procedure_stages.Kinds.{is_kind, own_kind}
use Rattle.journal_acks.specs.link_model.procedure_values.declared.asks.Ask.{Ask}
use Rattle.journal_acks.proofs.link_model.KeyedSteps.{acked as steps_acked, gone as steps_gone, joined, two as joined_steps}
use Rattle.journal_acks.proofs.link_model.KnownEnds.{IsPast, first_past, knows_before_taking, past_knows, stays_over, step_past}
use Rattle.journal_acks.proofs.link_model.Receptions.{each_packet}
use Rattle.journal_acks.proofs.link_model.Views.{DataTaking, Ended, Knows, Same, acked_view, data_view, taken_view}
use Rattle.journal_acks.proofs.link_model.phased_end.keyed_control.Phases.{phased_once}
use Rattle.journal_ends.specs.Asked.{Answered, answering, is_kept, keeping, none_answered, opened_after, opened_by, peer_by, taking}
use Rattle.journal_ends.proofs.AnsweredLines.{IsApart, Leaves, Over, Ends, Stays, all_run, answered_by, both_given, done_leaves, event_leaves, leaves, two}
use Rattle.link_phases.specs.link_procedures.Running.{runs_after}
use Rattle.link_phases.proofs.Keeping.{Keeping, Kept, Seen, acked_keeps, data_keeps, entered_keeps, keeping as keeping_now, kept_read, key_keeps}
use Rattle.link_phases.proofs.OtherDone.{acked_other, entered_other}
use Rattle.link_phases.proofs.Phases.{InPhase, at_central, at_peripheral, encrypts, facts_in, later_in, none_kept}
use Rattle.link_phases.proofs.link_procedures.Controls.{owing_keeps, sends_keep, taking_goes}
use Rattle.link_phases.proofs.link_procedures.Steps.{acked_goes, step_goes}

module _ (side : Side) (number : ℕ) where
  abbrev lines : List Note → List Entry
  lines notes = map (line_of side number) notes

  -- ---- the handle and the role

  abbrev StaysOpen : Note → Type 0
  StaysOpen note = (before : Option (ℕ × Role)) → opened_after before (line_of side number note) ≡ before

  stays_open : (notes : List Note) → AllByRecursion StaysOpen notes → (before : Option (ℕ × Role)) → fold opened_after before (lines notes) ≡ before
  stays_open [] are before = refl
  stays_open (note ∷ notes) are before = ap (λ one. fold opened_after one (lines notes)) (are.0 before) ∙ stays_open notes are.1 before

  step_open : (setup : Setup) (facts : Facts) (step : Step) → AllByRecursion StaysOpen (notes_after setup facts step)
  step_open setup facts (EventEntered slot) =
      entered_each StaysOpen setup slot facts (record {
        applied = λ count before. refl;
        enter = λ before. refl;
        done = λ kind before. refl;
        began = λ kind before. refl;
      })
  step_open setup facts (PacketSent slot) = sent_each StaysOpen setup facts (λ count llid octets before. refl)
  step_open setup facts (PacketReceived slot octets room) =
      received_each StaysOpen setup slot room (good_pdu setup facts octets) facts (record {
        took = λ count llid body before. refl;
        refused = λ kind code before. refl;
        done = λ kind before. refl;
      })
  step_open setup facts other = tt

  steps_open : (setup : Setup) (facts : Facts) (steps : List Step) (before : Option (ℕ × Role)) → fold opened_after before (lines (notes_from setup facts steps)) ≡ before
  steps_open setup facts [] before = refl
  steps_open setup facts (step ∷ steps) before =
      let notes = notes_after setup facts step in
      let later = notes_from setup (facts_after setup facts step) steps in
      ap (fold opened_after before) (map-append (line_of side number) notes later)
      ∙ fold-append opened_after before (lines notes) (lines later)
      ∙ ap (λ one. fold opened_after one (lines later)) (stays_open notes (step_open setup facts step) before)
      ∙ steps_open setup (facts_after setup facts step) steps before

  pub end_opened : (setup : Setup) (past : List Step) → opened_by (lines (notes_opened_on setup past)) ≡ Some (setup.link.handle, setup.link.role)
  unfolding notes_of
  end_opened setup past = steps_open setup (first_facts setup) past (Some (setup.link.handle, setup.link.role))

  -- ---- what an end knows of its peer

  -- an end has answered what its lines say
  record Told (facts : Facts) (a : Answered) : Type 0 where
    peer : a.peer ≡ facts.peer
    kept : a.kept ≡ kept_read facts.encryption.kept

  -- and encrypts where they say so
  record Follows (facts : Facts) (a : Answered) : Type 0 where
    told : Told facts a
    runs : a.encrypts ≡ encrypts (keyed_of facts).phased

  same_told : (facts next : Facts) (a b : Answered) → next.peer ≡ facts.peer → next.encryption.kept ≡ facts.encryption.kept → Leaves a b → Told facts a → Told next b
  same_told facts next a b peer kept leaves told =
      record { peer = leaves.peer ∙ told.peer ∙ sym peer; kept = leaves.kept ∙ told.kept ∙ sym (ap kept_read kept) }

  asked_told : (known : Bool) (ask : Ask) (facts : Facts) (a : Answered) → Told facts a → Told (asked_unless known ask facts) a
  asked_told true ask facts a told = told
  asked_told false ask facts a told = record { peer = told.peer; kept = told.kept }

  fixed_told : (stays : Bool) (facts : Facts) (a : Answered) → Told facts a → Told (if stays then facts else fixed_anew facts) a
  fixed_told true facts a told = told
  fixed_told false facts a told = record { peer = told.peer; kept = told.kept }

  entered_told : (goes : Bool) (setup : Setup) (slot : ℕ) (facts : Facts) (a : Answered) → Told facts a
      → Told (facts_entered_if goes setup slot facts)
      (answered_by side number a (if goes
      then event_notes setup.link.handle (facts_entered setup slot facts).event (entry_of slot (is_quiet_now facts) (held_of facts.control))
      else []))
  entered_told false setup slot facts a told = told
  entered_told true setup slot facts a told =
      let entry = entry_of slot (is_quiet_now facts) (held_of facts.control) in
      same_told facts (facts_entered setup slot facts) a _ refl (entered_keeps slot facts)
      (event_leaves side number setup.link.handle (facts_entered setup slot facts).event entry (entered_other slot (is_quiet_now facts) (held_of facts.control)) a)
      told

  gone_told : (goes : Bool) (slot : ℕ) (facts : Facts) (a : Answered) → Told facts a → Told (control_gone_if goes slot facts) a
  gone_told true slot facts a told = record { peer = told.peer; kept = told.kept }
  gone_told false slot facts a told = told

  gone_runs : (goes : Bool) (slot : ℕ) (facts : Facts) → encrypts (keyed_of (control_gone_if goes slot facts)).phased ≡ encrypts (keyed_of facts).phased
  gone_runs true slot facts = ap (λ (own : Option Kind). is_kind own Encrypt) (sends_keep slot (is_quiet_now facts) facts.control)
  gone_runs false slot facts = refl

  data_told : (takes : Bool) (facts : Facts) (a : Answered) → Told facts a → Told (data_taken_if takes facts) a
  data_told true facts a told = record { peer = told.peer; kept = told.kept ∙ sym (ap kept_read (data_keeps facts)) }
  data_told false facts a told = told

  -- ---- a control PDU is taken, as an end is then

  module _ (role : Role) (pdu : Pdu) (slot : ℕ) (now : Facts) (knows : Knows (keyed_of now)) (is_now : InPhase role (keyed_of now).phased)
      (is_later : InPhase role (keyed_taken pdu slot now).phased) (lasts : (control_taken pdu slot now).ends ≡ None)
      (a : Answered) (follows : Follows now a) (handle : ℕ) where
    abbrev read : CtrlRead
    read = read_of pdu

    abbrev s : Phased
    s = (keyed_of now).phased

    abbrev later : Phased
    later = (keyed_taken pdu slot now).phased

    abbrev noted : List Note
    noted = given_notes handle (procedures_give pdu slot now) ++ given_notes handle (kept_give pdu slot now)

    record IsTold (b : Answered) : Type 0 where
      peer : b.peer ≡ peer_taken pdu slot now
      kept : b.kept ≡ kept_read later.kept

    -- by the lines it is kept as by the phase
    kept_alike : is_kept read a ≡ does_keep read s
    kept_alike = by role refl
      where
        loud : (pdu : PduClass) (quiet : Bool) → (not quiet && keeps_class pdu Central false) ≡ keeps_class pdu Central quiet
        loud Request true = refl
        loud Request false = refl
        loud pdu true = refl
        loud pdu false = refl

        never : (pdu : PduClass) (quiet : Bool) → false ≡ keeps_class pdu Peripheral quiet
        never Request quiet = refl
        never pdu quiet = refl

        in_role : (r : Role) → role ≡ r → InPhase r s
        in_role r is = subst (λ (one : Role). InPhase one s) is is_now

        by : (r : Role) → role ≡ r → is_kept read a ≡ does_keep read s
        by Central is =
            ap (λ (runs : Bool). runs && keeps_class (class_of_read read) Central false) (follows.runs ∙ at_central s (in_role Central is))
            ∙ loud (class_of_read read) (is_quiet_now now)
            ∙ ap (λ (r : Role). keeps_class (class_of_read read) r (is_quiet_now now)) (sym (in_role Central is).is_role)
        by Peripheral is =
            ap (λ (runs : Bool). runs && keeps_class (class_of_read read) Central false) (follows.runs ∙ at_peripheral s (in_role Peripheral is))
            ∙ never (class_of_read read) (is_quiet_now now)
            ∙ ap (λ (r : Role). keeps_class (class_of_read read) r (is_quiet_now now)) (sym (in_role Peripheral is).is_role)

    -- what is known of the peer, by whether it is seen and by what is kept before and then
    peer_is : (seen : Bool) (before kept : Option Ctrl) → is_seen pdu now ≡ seen → now.encryption.kept ≡ before → later.kept ≡ kept
        → peer_taken pdu slot now ≡ peer_answered true seen read (kept_answered before kept) now.peer
    peer_is seen before kept seen_is before_is kept_is =
        λ i. peer_answered (is_none (lasts i)) (seen_is i) read (kept_answered (before_is i) (kept_is i)) now.peer

    -- ---- it is kept

    known_first : (read : CtrlRead) (quiet : Bool) (r : Role) → keeps_class (class_of_read read) r quiet ≡ true → kept_read (ctrl_in read) ≡ read
    known_first (Known ctrl) quiet r keeps = refl
    known_first (Unknown opcode) quiet r keeps = absurd cc
    known_first Bare quiet r keeps = absurd cc

    none_answered_by : (before : Option Ctrl) (read : CtrlRead) (quiet : Bool) (r : Role) → keeps_class (class_of_read read) r quiet ≡ true
        → kept_answered before (ctrl_in read) ≡ Bare
    none_answered_by None (Known ctrl) quiet r keeps = refl
    none_answered_by (Some other) (Known ctrl) quiet r keeps = refl
    none_answered_by before (Unknown opcode) quiet r keeps = absurd cc
    none_answered_by before Bare quiet r keeps = absurd cc

    none_noted : is_seen pdu now ≡ false → (b : Answered) → answered_by side number b noted ≡ b
    none_noted unseen b =
        ap
        (λ (seen : Bool).
        let given : TakenKeyed = (if seen then handed_keyed slot now.encryption.response read (keyed_held (keyed_of now)) else nothing_keyed) in
        answered_by side number b (given_notes handle given.taken ++ given_notes handle given.kept))
        unseen

    kept_told : does_keep read s ≡ true → is_seen pdu now ≡ false → later.kept ≡ ctrl_in read → IsTold (answered_by side number (keeping read a) noted)
    kept_told keeps unseen kept =
        subst IsTold (sym (none_noted unseen (keeping read a)))
        (record {
          peer =
              follows.told.peer
              ∙ ap (λ (answered : CtrlRead). peer_from answered now.peer)
              (sym (none_answered_by now.encryption.kept read (is_quiet_now now) (role_now s) keeps))
              ∙ sym (peer_is false now.encryption.kept (ctrl_in read) unseen refl kept);
          kept = sym (known_first read (is_quiet_now now) (role_now s) keeps) ∙ sym (ap kept_read kept);
        })

    -- ---- the procedures see it

    runs_later : (answered_by side number (answering read a) noted).encrypts ≡ encrypts later
    runs_later =
        all_run side number noted (answering read a) ∙ ap (λ (runs : Bool). fold (runs_after Encrypt) runs noted) follows.runs
        ∙ taking_goes handle (is_quiet_now now) now.control read slot _ _ _ (taken_view pdu slot now knows) Encrypt

    -- a central that keeps a PDU encrypts
    kept_runs : (ctrl : Ctrl) → now.encryption.kept ≡ Some ctrl → encrypts s ≡ true
    kept_runs ctrl kept = by (encrypts s) refl
      where
        by : (runs : Bool) → encrypts s ≡ runs → runs ≡ true
        by true is = refl
        by false is = absurd (let h : ◌≡◌ {A = Option Ctrl} (Some ctrl) None = sym kept ∙ none_kept role s is_now is in absurd cc)

    kept_there : (ctrl : Ctrl) → now.encryption.kept ≡ Some ctrl → encrypts later ≡ not (quiet_in later)
    kept_there ctrl kept = by role refl
      where
        by : (r : Role) → role ≡ r → encrypts later ≡ not (quiet_in later)
        by Central is = at_central later (subst (λ (one : Role). InPhase one later) is is_later)
        by Peripheral is = absurd (let h : ◌≡◌ {A = Option Ctrl} (Some ctrl) None = sym kept ∙ is_now.none_there is in absurd cc)

    never_both : {X : Type 0} → ◌≡◌ {A = Bool} true false → X
    never_both is = absurd cc

    seen_told : (quiet : Bool) (before : Option Ctrl) (b : Answered) → is_seen pdu now ≡ true → quiet_in later ≡ quiet → now.encryption.kept ≡ before
        → later.kept ≡ (if quiet then None else before) → b.encrypts ≡ encrypts later → Over (answering read a) b → IsTold b
    seen_told true None b seen quiet before kept runs (Stays is) =
        record {
          peer = ap (λ (one : Answered). one.peer) is ∙ ap (peer_from read) follows.told.peer ∙ sym (peer_is true None None seen before kept);
          kept = ap (λ (one : Answered). one.kept) is ∙ follows.told.kept ∙ ap kept_read before ∙ sym (ap kept_read kept);
        }
    seen_told false before b seen quiet before_is kept runs (Stays is) =
        record {
          peer = ap (λ (one : Answered). one.peer) is ∙ ap (peer_from read) follows.told.peer ∙ same_kept before ∙ sym (peer_is true before before seen before_is kept);
          kept = ap (λ (one : Answered). one.kept) is ∙ follows.told.kept ∙ ap kept_read before_is ∙ sym (ap kept_read kept);
        }
      where
        same_kept : (before : Option Ctrl) → peer_from read now.peer ≡ peer_answered true true read (kept_answered before before) now.peer
        same_kept None = refl
        same_kept (Some ctrl) = refl
    seen_told true (Some ctrl) b seen quiet before kept runs (Stays is) =
        never_both
        (sym (kept_runs ctrl before) ∙ sym follows.runs ∙ sym (ap (λ (one : Answered). one.encrypts) is) ∙ runs ∙ kept_there ctrl before ∙ ap not quiet)
    seen_told true before b seen quiet before_is kept runs (Ends is) =
        record {
          peer =
              ap (λ (one : Answered). one.peer) is
              ∙ (λ i. peer_from ((follows.told.kept ∙ ap kept_read before_is) i) (peer_from read (follows.told.peer i))) ∙ same_answered before
              ∙ sym (peer_is true before None seen before_is kept);
          kept = ap (λ (one : Answered). one.kept) is ∙ sym (ap kept_read kept);
        }
      where
        same_answered : (before : Option Ctrl) → peer_from (kept_read before) (peer_from read now.peer)
            ≡ peer_answered true true read (kept_answered before None) now.peer
        same_answered None = refl
        same_answered (Some ctrl) = refl
    seen_told false None b seen quiet before kept runs (Ends is) =
        record {
          peer =
              ap (λ (one : Answered). one.peer) is
              ∙ (λ i. peer_from ((follows.told.kept ∙ ap kept_read before) i) (peer_from read (follows.told.peer i)))
              ∙ sym (peer_is true None None seen before kept);
          kept = ap (λ (one : Answered). one.kept) is ∙ sym (ap kept_read kept);
        }
    seen_told false (Some ctrl) b seen quiet before kept runs (Ends is) =
        never_both (sym (runs ∙ kept_there ctrl before ∙ ap not quiet) ∙ ap (λ (one : Answered). one.encrypts) is)

    taken_told : IsTold (answered_by side number (taking read a) noted)
    taken_told = by (keeping_now pdu slot now knows lasts)
      where
        as_kept : (keeps : Bool) → does_keep read s ≡ keeps → IsTold (answered_by side number (if keeps then keeping read a else answering read a) noted)
            → IsTold (answered_by side number (taking read a) noted)
        as_kept keeps is =
            subst (λ (k : Bool). IsTold (answered_by side number (if k then keeping read a else answering read a) noted)) (sym (kept_alike ∙ is))

        by : Keeping read s later (is_seen pdu now) → IsTold (answered_by side number (taking read a) noted)
        by (Kept keeps unseen kept) = as_kept true keeps (kept_told keeps unseen kept)
        by (Seen keeps seen kept) =
            as_kept false keeps
            (seen_told (quiet_in later) now.encryption.kept _ seen refl refl kept runs_later (both_given side number handle (procedures_give pdu slot now) (kept_give pdu slot now) (answering read a)))

  -- ---- a new PDU is looked at

  module _ (accepted : Bool) (pdu : Pdu) (slot : ℕ) (now : Facts) where
    abbrev taken : Facts
    taken = accepted_if accepted pdu now

    -- a counter that it takes changes nothing of that
    same_phased : (keyed_taken pdu slot taken).phased ≡ (keyed_taken pdu slot now).phased
    same_phased =
        let step = keyed_takes (read_of pdu) slot (drawn now.encryption.response) in
        phased_once step (keyed_of taken) ∙ sym (phased_once step (keyed_of now))

    same_seen : is_seen pdu taken ≡ is_seen pdu now
    same_seen = by (counts_accepted accepted pdu)
      where
        by : (counts : Bool)
            → is_handed (read_of pdu) (keyed_held (record (keyed_of now) { end = end_accepting counts now.encryption.end }))
            ≡ is_handed (read_of pdu) (keyed_held (keyed_of now))
        by true = refl
        by false = refl

    same_peer : peer_taken pdu slot taken ≡ peer_taken pdu slot now
    same_peer =
        λ i.
        peer_answered (is_none (same_phased i).control.ends) (same_seen i) (read_of pdu) (kept_answered now.encryption.kept (same_phased i).kept) now.peer

  not_empty : (pdu : Pdu) → is_procedure_pdu pdu ≡ true → is_empty pdu ≡ false
  not_empty pdu is = by (is_control pdu) (is_empty pdu) is
    where
      by : (control empty : Bool) → (control && not empty) ≡ true → empty ≡ false
      by true false is = refl
      by true true is = absurd cc
      by false empty is = absurd cc

  none_of : (ends : Option ErrCode) → is_none ends ≡ true → ends ≡ None
  none_of None is = refl
  none_of (Some code) is = absurd cc

  data_on : (takes : Bool) (facts : Facts) → (data_taken_if takes facts).control.ends ≡ None → facts.control.ends ≡ None
  data_on true facts none = by (data_view facts)
    where
      by : DataTaking facts.control (data_taken facts).control → facts.control.ends ≡ None
      by (Same is) = ap (λ (c : Control). c.ends) (sym is) ∙ none
      by (Ended code goes is) = none_of facts.control.ends goes
  data_on false facts none = none

  module _ (role : Role) (pdu : Pdu) (slot : ℕ) (now : Facts) (knows : Knows (keyed_of now)) (is_now : InPhase role (keyed_of now).phased)
      (is_later : InPhase role (keyed_taken pdu slot now).phased) (a : Answered) (follows : Follows now a) (handle : ℕ) where
    -- the lines of a PDU that is taken
    looked_told : (accepted procedure empty : Bool) → is_procedure_pdu pdu ≡ procedure → (procedure ≡ true → empty ≡ false)
        → (procedures_take_if (accepted && procedure) pdu slot (accepted_if accepted pdu now)).control.ends ≡ None
        → Told (procedures_take_if (accepted && procedure) pdu slot (accepted_if accepted pdu now))
        (answered_by side number (answered_by side number a (took_notes_if (accepted && not empty) handle pdu now))
        (given_notes handle (given_if (accepted && procedure) pdu slot now) ++ given_notes handle (kept_given_if (accepted && procedure) pdu slot now)))
    looked_told false procedure empty is filled lasts = record { peer = follows.told.peer; kept = follows.told.kept }
    looked_told true true true is filled lasts = absurd (let h : true ≡ false = filled refl in absurd cc)
    looked_told true true false is filled lasts =
        let told = taken_told role pdu slot now knows is_now is_later
        (sym (ap (λ (s : Phased). s.control.ends) (same_phased true pdu slot now)) ∙ lasts) a follows handle in
        subst
        (λ (b : Bool). Told (procedures_take_if true pdu slot (accepted_if true pdu now))
        (answered_by side number (if b then taking (read_of pdu) a else a)
        (given_notes handle (procedures_give pdu slot now) ++ given_notes handle (kept_give pdu slot now))))
        (sym is)
        (record { peer = told.peer ∙ sym (same_peer true pdu slot now); kept = told.kept ∙ sym (ap (λ (s : Phased). kept_read s.kept) (same_phased true pdu slot now)) })
    looked_told true false true is filled lasts = record { peer = follows.told.peer; kept = follows.told.kept }
    looked_told true false false is filled lasts =
        subst (λ (b : Bool). Told (accepted_if true pdu now) (if b then taking (read_of pdu) a else a)) (sym is)
        (record { peer = follows.told.peer; kept = follows.told.kept })

  -- ---- a packet is received

  module _ (setup : Setup) (slot : ℕ) (header : DataHeader) (facts : Facts) (p : IsPast setup facts) (a : Answered) (follows : Follows facts a) where
    abbrev acks : Bool
    acks = acks_control (has_acknowledged facts header) facts

    abbrev acked : Facts
    acked = acknowledged_if (has_acknowledged facts header) (heard_in_slot slot header.md facts)

    abbrev answers : Bool
    answers = answers_with_control setup.link.role acked

    abbrev looks : Facts
    looks = facts_before_taking setup.link.role slot header facts

    abbrev done : List Note
    done = done_notes setup.link.handle (acked_kind acks facts)

    abbrev made : List KeyedStep
    made = step_if acks keyed_sees_acknowledged ++ step_if answers (keyed_sends slot)

    looks_made : keyed_of looks ≡ keyed_after_all made (keyed_of facts)
    looks_made =
        joined_steps (step_if acks keyed_sees_acknowledged) (step_if answers (keyed_sends slot)) (keyed_of facts) (keyed_of acked) (keyed_of looks)
        (steps_acked acks (keyed_of facts)) (steps_gone answers slot acked)

    looks_in : (steps : List KeyedStep) → InPhase setup.link.role (keyed_after_all steps (keyed_of looks)).phased
    looks_in steps =
        subst (λ (k : Keyed). InPhase setup.link.role k.phased) (joined made steps (keyed_of facts) ∙ ap (keyed_after_all steps) (sym looks_made))
        (later_in setup facts p (facts_in setup facts p) (made ++ steps))

    looks_follows : Follows looks (answered_by side number a done)
    looks_follows =
        record {
          told =
              gone_told answers slot acked _
              (same_told facts acked a (answered_by side number a done) refl (acked_keeps acks facts)
              (done_leaves side number setup.link.handle (acked_kind acks facts) (acked_other acks facts) a) follows.told);
          runs =
              all_run side number done a ∙ ap (λ (runs : Bool). fold (runs_after Encrypt) runs done) follows.runs
              ∙ acked_goes setup.link.handle acks facts Encrypt
              ∙ sym (ap (λ (own : Option Kind). is_kind own Encrypt) (owing_keeps _ _ (acked_view acks facts (past_knows setup facts p))))
              ∙ sym (gone_runs answers slot acked);
        }

    heard_told : (room : Bool) (pdu : Pdu) → (facts_hearing setup.link.role slot room header pdu facts).control.ends ≡ None
        → Told (facts_hearing setup.link.role slot room header pdu facts) (answered_by side number a (notes_hearing setup slot room header pdu facts))
    heard_told room pdu lasts =
        let handle = setup.link.handle in
        let accepted = accepts room header pdu looks in
        let takes = accepted && is_procedure_pdu pdu in
        let taken = procedures_take_if takes pdu slot (accepted_if accepted pdu looks) in
        let took = took_notes_if (accepted && not (is_empty pdu)) handle pdu looks in
        let given = given_notes handle (given_if takes pdu slot looks) ++ given_notes handle (kept_given_if takes pdu slot looks) in
        subst (Told (facts_hearing setup.link.role slot room header pdu facts))
        (sym (two side number a done (took ++ given) ∙ two side number (answered_by side number a done) took given))
        (data_told (accepted && is_data pdu) taken _
        (looked_told setup.link.role pdu slot looks (knows_before_taking setup facts p setup.link.role slot header) (looks_in [])
        (looks_in (keyed_takes (read_of pdu) slot (drawn looks.encryption.response) ∷ [])) (answered_by side number a done) looks_follows handle
        accepted (is_procedure_pdu pdu) (is_empty pdu) refl (not_empty pdu) (data_on (accepted && is_data pdu) taken lasts)))

  -- ---- each step

  no_leaves : (a : Answered) → Leaves a a
  no_leaves a = record { peer = refl; kept = refl }

  step_told : (setup : Setup) (facts : Facts) (step : Step) (p : IsPast setup facts) (a : Answered) → Follows facts a
      → (facts_after setup facts step).control.ends ≡ None → Told (facts_after setup facts step) (answered_by side number a (notes_after setup facts step))
  step_told setup facts (DataGiven start body) p a f lasts = record { peer = f.told.peer; kept = f.told.kept }
  step_told setup facts (ProcedureAsked ask) p a f lasts = asked_told (is_to_come ask facts) ask facts a f.told
  step_told setup facts (RequestAnswered answer) p a f lasts = record { peer = f.told.peer; kept = f.told.kept }
  step_told setup facts (KeyAnswered key slot) p a f lasts =
      same_told facts (facts_after setup facts (KeyAnswered key slot)) a a refl (key_keeps key facts) (no_leaves a) f.told
  step_told setup facts (Disconnected reason slot) p a f lasts = record { peer = f.told.peer; kept = f.told.kept }
  step_told setup facts (EventEntered slot) p a f lasts = entered_told (goes_on facts) setup slot facts a f.told
  step_told setup facts PduFixed p a f lasts = fixed_told (is_control facts.outgoing.fixed) facts a f.told
  step_told setup facts (PacketSent slot) p a f lasts =
      let gone = gone_told (takes_leave facts) slot facts a f.told in
      same_told (control_gone_if (takes_leave facts) slot facts) (facts_after setup facts (PacketSent slot)) a _ refl refl
      (leaves side number (notes_after setup facts (PacketSent slot)) (sent_each (IsApart side number) setup facts (λ count llid octets b. no_leaves b)) a) gone
  step_told setup facts (WordsGiven skd_s iv_s) p a f lasts = record { peer = f.told.peer; kept = f.told.kept }
  step_told setup facts (PacketReceived slot octets room) p a f lasts =
      each_packet setup slot facts (λ (notes : List Note) (next : Facts). next.control.ends ≡ None → Told next (answered_by side number a notes))
      octets room (λ goes. f.told) (λ goes. record { peer = f.told.peer; kept = f.told.kept })
      (λ header. λ pdu. heard_told setup slot header facts p a f room pdu) lasts
  step_told setup facts DataReported p a f lasts = record { peer = f.told.peer; kept = f.told.kept }

  step_follows : (setup : Setup) (facts : Facts) (step : Step) (p : IsPast setup facts) (a : Answered) → Follows facts a
      → (facts_after setup facts step).control.ends ≡ None → Follows (facts_after setup facts step) (answered_by side number a (notes_after setup facts step))
  step_follows setup facts step p a f lasts =
      let notes = notes_after setup facts step in
      record {
        told = step_told setup facts step p a f lasts;
        runs =
            all_run side number notes a ∙ ap (λ (runs : Bool). fold (runs_after Encrypt) runs notes) f.runs ∙ step_goes setup facts step p Encrypt;
      }

  went_on : (setup : Setup) (facts : Facts) (step : Step) → IsPast setup facts → (facts_after setup facts step).control.ends ≡ None → facts.control.ends ≡ None
  went_on setup facts step p none = by facts.control.ends refl
    where
      by : (ends : Option ErrCode) → facts.control.ends ≡ ends → ends ≡ None
      by None is = refl
      by (Some code) is =
          let over = stays_over setup facts step p (ap (λ (ends : Option ErrCode). is_none ends) is) in
          absurd (let h : true ≡ false = sym (ap (λ (ends : Option ErrCode). is_none ends) none) ∙ over in absurd cc)

  all_went_on : (setup : Setup) (facts : Facts) (steps : List Step) → IsPast setup facts → (fold (facts_after setup) facts steps).control.ends ≡ None → facts.control.ends ≡ None
  all_went_on setup facts [] p none = none
  all_went_on setup facts (step ∷ steps) p none =
      went_on setup facts step p (all_went_on setup (facts_after setup facts step) steps (step_past setup facts step p) none)

  -- all steps, from the last one on back
  steps_follow : (setup : Setup) (facts : Facts) (steps : List Step) → IsPast setup facts → (a : Answered) → Follows facts a
      → (fold (facts_after setup) facts steps).control.ends ≡ None
      → Follows (fold (facts_after setup) facts steps) (answered_by side number a (notes_from setup facts steps))
  steps_follow setup facts [] p a f none = f
  steps_follow setup facts (step ∷ steps) p a f none =
      let after = step_past setup facts step p in
      let next = facts_after setup facts step in
      let notes = notes_after setup facts step in
      let later = notes_from setup next steps in
      subst (Follows (fold (facts_after setup) next steps)) (sym (two side number a notes later))
      (steps_follow setup next steps after (answered_by side number a notes)
      (step_follows setup facts step p a f (all_went_on setup next steps after none)) none)

  first_runs : (role : Role) → is_kind (own_kind (first_progress role)) Encrypt ≡ false
  first_runs Central = refl
  first_runs Peripheral = refl

  pub end_knows : (setup : Setup) (past : List Step) → (facts_of setup past).control.ends ≡ None
      → peer_by (lines (notes_opened_on setup past)) ≡ (facts_of setup past).peer
  unfolding notes_of facts_of
  end_knows setup past none =
      (steps_follow setup (first_facts setup) past (first_past setup) none_answered
      (record { told = record { peer = refl; kept = refl }; runs = sym (first_runs setup.link.role) }) none).told.peer
