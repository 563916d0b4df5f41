-- What the lines of one end do to its event in one turn: as it enters an event, and as it takes a PDU.
use Rattle.std.proofs.Common.{◌≡◌, ℕ, ◌&&◌, Bool, true, false, not, Option, Some, None, List, [], ◌∷◌, ◌++◌, map, refl, sym, ap, ◌∙◌, if◌then◌else◌}
use Rattle.std.specs.List.{AllByRecursion}
use Rattle.std.proofs.lemmas.List.{map-append}
use Rattle.ble_base.specs.declared.notes.Note.{Note}
use Rattle.ble_base.specs.declared.notes.Note.TheVariants.{Enter as EnterNote}
use Rattle.ble_base.specs.declared.error_codes.ErrCode.{ErrCode}
use Rattle.ble_base.specs.declared.procedure_kinds.Kind.{Kind}
use Rattle.ble_base.specs.declared.roles.Side.{Side}
use Rattle.data_pdu.specs.Header.{header_in}
use Rattle.data_pdu.specs.declared.ctrl.Ctrl.{Ctrl}
use Rattle.data_pdu.specs.declared.ctrl.Ctrl.TheVariants.{EncReq}
use Rattle.journal.specs.declared.entries.Entry.{Entry}
use Rattle.journal.specs.declared.entries.Entry.TheVariants.{Enter, Sent, Took}
use Rattle.journal_sending.specs.journal_leaving.journal_controls.KeyedLines.{Accepts, LineStep, does_if, does_some, given_by, keyed_by_all, steps_refusing}
use Rattle.journal_sending.specs.journal_leaving.journal_controls.LineSteps.{steps_said}
use Rattle.journal_sending.specs.journal_leaving.journal_controls.SaidLines.{moved_by}
use Rattle.journal_sending.specs.journal_leaving.journal_controls.TurnSteps.{first_if, steps_begun}
use Rattle.journal_sending.specs.journal_leaving.journal_controls.Withheld.{Withheld, answer_to, first_answer, key_answer, step_if, withheld_answer}
use Rattle.journal_sending.specs.journal_leaving.journal_acks.link_calls.Phases.{refusal}
use Rattle.journal_sending.specs.journal_leaving.journal_links.LinkLines.{line_of}
use Rattle.journal_sending.specs.journal_leaving.link_model.Acknowledgement.{Pdu, is_acked}
use Rattle.journal_sending.specs.journal_leaving.link_model.Controls.{are_equal, goes_on, is_procedure_pdu, is_quiet_now, pdu_fixed, read_of}
use Rattle.journal_sending.specs.journal_leaving.link_model.Data.{is_control, is_data, is_empty, numbered}
use Rattle.journal_sending.specs.journal_leaving.link_model.End.{facts_after, notes_after, notes_from}
use Rattle.journal_sending.specs.journal_leaving.link_model.Entering.{began_notes, done_notes, event_notes, facts_entered, facts_entered_if, keyed_entered}
use Rattle.journal_sending.specs.journal_leaving.link_model.declared.events.ConnectionEvent.{ConnectionEvent}
use Rattle.journal_sending.specs.journal_leaving.link_model.control_end.declared.answers.Entry.{Entry as EndEntry}
use Rattle.journal_sending.specs.journal_leaving.link_model.Events.{applied_notes}
use Rattle.journal_sending.specs.journal_leaving.link_model.Facts.{Facts, keyed_of}
use Rattle.journal_sending.specs.journal_leaving.link_model.Payload.{end_accepting}
use Rattle.journal_sending.specs.journal_leaving.link_model.Receiving.{accepted_if, accepts, acked_kind, acks_control, control_taken, facts_before_taking, facts_hearing, given_if, given_notes, has_acknowledged, kept_given_if, notes_hearing, refused_notes, taken_notes, took_notes_if}
use Rattle.journal_sending.specs.journal_leaving.link_model.Sending.{sent_notes_if}
use Rattle.journal_sending.specs.journal_leaving.link_model.Setup.{Setup}
use Rattle.journal_sending.specs.journal_leaving.link_model.Step.{EventEntered, PacketSent, PduFixed}
use Rattle.journal_sending.specs.journal_leaving.link_model.Verdicts.{pdu_of}
use Rattle.journal_sending.specs.journal_leaving.link_model.control_end.declared.answers.Taken.{Taken}
use Rattle.journal_sending.specs.journal_leaving.link_model.control_end.Answers.{entry_of}
use Rattle.journal_sending.specs.journal_leaving.link_model.control_end.Held.{held_of}
use Rattle.journal_sending.specs.journal_leaving.link_model.keyed_control.Keyed.{Keyed}
use Rattle.journal_sending.specs.journal_leaving.link_model.keyed_control.KeyedSteps.{KeyedStep, Answers, LacksKey, Takes, TakesData, keyed_after}
use Rattle.journal_sending.specs.journal_leaving.link_model.keyed_control.declared.material.Response.{Response}
use Rattle.journal_sending.specs.journal_leaving.link_model.phased_control.Taken.{role_now}
use Rattle.journal_sending.specs.journal_leaving.link_model.phased_end.Taking.{drawn}
use Rattle.journal_sending.specs.journal_leaving.link_model.procedure_stages.declared.steps.Effect.{Effect}
use Rattle.journal_sending.specs.journal_leaving.link_model.procedure_stages.declared.steps.Effect.TheVariants.{AskHost, Cipher}
use Rattle.journal_sending.proofs.journal_leaving.journal_controls.EndSteps.{before_response}
use Rattle.journal_events.specs.EventLines.{EventLines, changed_if, event_entering, event_hearing, lengths_differ}
use Rattle.journal_events.specs.Told.{event_lines, event_noted, event_said, event_saying}
use Rattle.journal_events.proofs.EndEvents.{any_still, changes_taking, entered_event, heard_event, same_lengths, still, unchanged}
use Rattle.journal_events.proofs.KeptLengths.{AllLeave, if_leaves, lengths_in, sending_leaves, steps_leave}
use Rattle.journal_events.proofs.LineFolds.{said_both}

-- ---- lines that leave the event: none of an event that is entered, and none of a PDU that is taken

abbrev pub is_still : Entry → Bool
is_still (Enter side link event channel) = false
is_still (Took side link count llid body) = false
is_still line = true

abbrev pub AreStill : Side → ℕ → List Note → Type 0
AreStill side number notes = AllByRecursion (λ line. is_still line ≡ true) (map (line_of side number) notes)

module _ (withheld : Withheld) (response : Response) (slot : ℕ) where
  said_leaves : (line : Entry) (k : Keyed) → is_still line ≡ true → AllLeave (steps_said withheld response slot k line)
  said_leaves (Enter side link event channel) k is = absurd cc
  said_leaves (Took side link count llid body) k is = absurd cc
  said_leaves (Sent side link count llid body) k is = sending_leaves (role_now k.phased) slot (record { llid = llid; body = body })
  said_leaves line k is = tt

  still_line : (line : Entry) (k : Keyed) (e : EventLines) → is_still line ≡ true
      → event_saying slot line k (keyed_by_all (steps_said withheld response slot k line) k) e ≡ e
  still_line (Enter side link event channel) k e is = absurd cc
  still_line (Took side link count llid body) k e is = absurd cc
  still_line line k e is =
      let steps = steps_said withheld response slot k line in
      still k (keyed_by_all steps k) e (steps_leave steps k (said_leaves line k is))

  still_said : (lines : List Entry) (k : Keyed) (e : EventLines) → AllByRecursion (λ line. is_still line ≡ true) lines → event_said withheld response slot lines k e ≡ e
  still_said [] k e are = refl
  still_said (line ∷ lines) k e are =
      let after = keyed_by_all (steps_said withheld response slot k line) k in
      ap (event_said withheld response slot lines after) (still_line line k e are.0) ∙ still_said lines after e are.1

-- ---- notes

pub still_both : (side : Side) (number : ℕ) (notes more : List Note) → AreStill side number notes → AreStill side number more → AreStill side number (notes ++ more)
still_both side number [] more are also = also
still_both side number (note ∷ notes) more are also = (are.0, still_both side number notes more are.1 also)

module _ (side : Side) (number : ℕ) (withheld : Withheld) (response : Response) (slot : ℕ) where
  abbrev noted : List Note → Keyed → EventLines → EventLines
  noted notes k e = event_noted side number withheld response slot notes k e

  abbrev Stay : List Note → Type 0
  Stay notes = AreStill side number notes

  pub noted_both : (notes more : List Note) (k : Keyed) (e : EventLines)
      → noted (notes ++ more) k e ≡ noted more (moved_by withheld response slot (map (line_of side number) notes) k) (noted notes k e)
  noted_both notes more k e =
      ap (λ lines. event_said withheld response slot lines k e) (map-append (line_of side number) notes more)
      ∙ said_both withheld response slot (map (line_of side number) notes) (map (line_of side number) more) k e

  pub still_noted : (notes : List Note) (k : Keyed) (e : EventLines) → Stay notes → noted notes k e ≡ e
  still_noted notes k e are = still_said withheld response slot (map (line_of side number) notes) k e are

  pub done_stays : (handle : ℕ) (kind : Option Kind) → Stay (done_notes handle kind)
  done_stays handle None = tt
  done_stays handle (Some kind) = (refl, tt)

  pub began_stays : (handle : ℕ) (kind : Option Kind) → Stay (began_notes handle kind)
  began_stays handle None = tt
  began_stays handle (Some kind) = (refl, tt)

  refused_stays : (handle : ℕ) (refused : Option (Kind × ErrCode)) → Stay (refused_notes handle refused)
  refused_stays handle None = tt
  refused_stays handle (Some (kind, code)) = (refl, tt)

  given_stays : (handle : ℕ) (given : Taken) → Stay (given_notes handle given)
  given_stays handle given =
      still_both side number (refused_notes handle given.refused) (done_notes handle given.done) (refused_stays handle given.refused) (done_stays handle given.done)

  sent_stays : (is_noted : Bool) (handle count : ℕ) (pdu : Pdu) → Stay (sent_notes_if is_noted handle count pdu)
  sent_stays true handle count pdu = (refl, tt)
  sent_stays false handle count pdu = tt

  -- ---- as a turn begins

  skip_done : (handle : ℕ) (kind : Option Kind) (more : List Note) (k : Keyed) (e : EventLines) → noted (done_notes handle kind ++ more) k e ≡ noted more k e
  skip_done handle None more k e = refl
  skip_done handle (Some kind) more k e = ap (noted more k) (any_still (Some k) e)

  module _ (setup : Setup) where
    pub sends_stay : (sends : Bool) (facts : Facts) → Stay (notes_from setup facts (first_if sends (PacketSent slot) []))
    sends_stay false facts = tt
    sends_stay true facts =
        let notes = sent_notes_if (is_acked facts.acknowledgement && not (is_empty (pdu_fixed facts))) setup.link.handle (numbered facts.acknowledgement.sent) (pdu_fixed facts) in
        still_both side number notes [] (sent_stays (is_acked facts.acknowledgement && not (is_empty (pdu_fixed facts))) setup.link.handle (numbered facts.acknowledgement.sent) (pdu_fixed facts)) tt

    pub fixes_stay : (fixes sends : Bool) (facts : Facts) → Stay (notes_from setup facts (first_if fixes PduFixed (first_if sends (PacketSent slot) [])))
    fixes_stay false sends facts = sends_stay sends facts
    fixes_stay true sends facts = sends_stay sends (facts_after setup facts PduFixed)

    module _ (facts : Facts) where
      abbrev event : ConnectionEvent
      event = (facts_entered setup slot facts).event

      abbrev entry : EndEntry
      entry = entry_of slot (is_quiet_now facts) (held_of facts.control)

      abbrev enter : Note
      enter = EnterNote setup.link.handle (record { 0 = event.number }) event.channel

      abbrev more : List Note
      more = done_notes setup.link.handle entry.done ++ began_notes setup.link.handle entry.began

      later_noted : noted (enter ∷ more) (keyed_of facts) (event_lines facts) ≡ event_lines (facts_entered setup slot facts)
      later_noted =
          still_noted more (keyed_by_all (steps_said withheld response slot (keyed_of facts) (line_of side number enter)) (keyed_of facts))
          (event_entering slot event.number (Some (keyed_of facts)) (Some (keyed_entered slot facts)) (event_lines facts))
          (still_both side number (done_notes setup.link.handle entry.done) (began_notes setup.link.handle entry.began)
          (done_stays setup.link.handle entry.done) (began_stays setup.link.handle entry.began))
          ∙ sym (entered_event setup slot facts)

      -- whichever indication holds from the event on
      entering_noted : (applied : Option ℕ)
          → noted (applied_notes setup.link.handle event.number applied ++ EnterNote setup.link.handle (record { 0 = event.number }) event.channel ∷ []
          ++ done_notes setup.link.handle entry.done ++ began_notes setup.link.handle entry.began) (keyed_of facts) (event_lines facts)
          ≡ event_lines (facts_entered setup slot facts)
      entering_noted None = later_noted
      entering_noted (Some applied) = ap (noted (enter ∷ more) (keyed_of facts)) (any_still (Some (keyed_of facts)) (event_lines facts)) ∙ later_noted

      pub entry_noted : noted (notes_after setup facts (EventEntered slot)) (keyed_of facts) (event_lines facts) ≡ event_lines (facts_after setup facts (EventEntered slot))
      entry_noted = by (goes_on facts)
        where
          by : (goes : Bool)
              → noted (if goes then event_notes setup.link.handle (facts_entered setup slot facts).event (entry_of slot (is_quiet_now facts) (held_of facts.control)) else [])
              (keyed_of facts) (event_lines facts)
              ≡ event_lines (facts_entered_if goes setup slot facts)
          by false = refl
          by true = entering_noted entry.applied

    pub begins_noted : (enters fixes sends : Bool) (facts : Facts)
        → noted (notes_from setup facts (steps_begun enters fixes sends slot)) (keyed_of facts) (event_lines facts)
        ≡ event_lines (if enters then facts_after setup facts (EventEntered slot) else facts)
    begins_noted false fixes sends facts =
        still_noted (notes_from setup facts (first_if fixes PduFixed (first_if sends (PacketSent slot) []))) (keyed_of facts) (event_lines facts) (fixes_stay fixes sends facts)
    begins_noted true fixes sends facts =
        let next = facts_after setup facts (EventEntered slot) in
        let here = notes_after setup facts (EventEntered slot) in
        let later = notes_from setup next (first_if fixes PduFixed (first_if sends (PacketSent slot) [])) in
        let k = moved_by withheld response slot (map (line_of side number) here) (keyed_of facts) in
        noted_both here later (keyed_of facts) (event_lines facts)
        ∙ ap (noted later k) (entry_noted facts)
        ∙ still_noted later k (event_lines next) (fixes_stay fixes sends next)

-- ---- what is answered at once leaves the lengths

answer_leaves : (withheld : Withheld) (effect : Effect) → AllLeave (does_some (answer_to withheld effect))
answer_leaves withheld (AskHost min max latency timeout) = by withheld.parameters
  where
    by : (is_withheld : Bool) → AllLeave (does_some (step_if is_withheld (Answers refusal)))
    by true = (refl, tt)
    by false = tt
answer_leaves withheld (Cipher ctrl) = key_leaves ctrl
  where
    by : (is_withheld : Bool) → AllLeave (does_some (step_if is_withheld LacksKey))
    by true = (refl, tt)
    by false = tt

    key_leaves : (ctrl : Ctrl) → AllLeave (does_some (key_answer withheld ctrl))
    key_leaves (EncReq rand ediv skd_m iv_m) = by withheld.key
    key_leaves other = tt
answer_leaves withheld other = tt

first_leaves : (one other : Option KeyedStep) → AllLeave (does_some one) → AllLeave (does_some other) → AllLeave (does_some (first_answer one other))
first_leaves None other is also = also
first_leaves (Some step) other is also = is

refusing_leaves : (withheld : Withheld) (response : Response) (slot : ℕ) (k : Keyed) (pdu : Pdu) → AllLeave (steps_refusing withheld response slot k pdu)
refusing_leaves withheld response slot k pdu = by (is_procedure_pdu pdu)
  where
    by : (procedure : Bool) → AllLeave (does_some (if procedure then withheld_answer withheld (given_by response slot k pdu) else None))
    by true =
        let given = given_by response slot k pdu in
        first_leaves (answer_to withheld given.taken.effect) (answer_to withheld given.kept.effect) (answer_leaves withheld given.taken.effect) (answer_leaves withheld given.kept.effect)
    by false = tt

-- ---- a PDU is taken

module _ (side : Side) (number : ℕ) (withheld : Withheld) (slot handle : ℕ) (pdu : Pdu) (now : Facts) where
  abbrev response : Response
  response = now.encryption.response

  abbrev k : Keyed
  k = keyed_of now

  abbrev say : List Note → EventLines → EventLines
  say notes e = event_noted side number withheld response slot notes k e

  abbrev refusing : List LineStep
  refusing = steps_refusing withheld response slot k pdu

  abbrev takes_it : KeyedStep
  takes_it = Takes (read_of pdu) slot (drawn response)

  abbrev steps_by : Bool → List LineStep
  steps_by procedure = (Accepts ∷ does_if procedure takes_it ++ does_if (is_data pdu) TakesData) ++ refusing

  abbrev accepting : Bool → Keyed
  accepting counts = record k { end = end_accepting counts k.end }

  lengths_by : (procedure : Bool)
      → lengths_in (keyed_by_all (steps_by procedure) k) ≡ (if procedure then lengths_in (keyed_after takes_it (accepting true)) else lengths_in k)
  lengths_by true =
      steps_leave (does_if (is_data pdu) TakesData ++ refusing) (keyed_after takes_it (accepting true))
      (if_leaves (is_data pdu) TakesData refusing refl (refusing_leaves withheld response slot k pdu))
  lengths_by false =
      steps_leave (Accepts ∷ (does_if (is_data pdu) TakesData ++ refusing)) k
      (refl, if_leaves (is_data pdu) TakesData refusing refl (refusing_leaves withheld response slot k pdu))

  lengths_taken : (procedure : Bool) → is_procedure_pdu pdu ≡ procedure
      → lengths_in (keyed_by_all (steps_by (is_procedure_pdu pdu)) k) ≡ (if procedure then lengths_in (keyed_after takes_it (accepting true)) else lengths_in k)
  lengths_taken procedure is = ap (λ b. lengths_in (keyed_by_all (steps_by b) k)) is ∙ lengths_by procedure

  no_procedure : (control filled : Bool) → filled ≡ false → (control && filled) ≡ true → ⊥
  no_procedure true true none is = absurd cc
  no_procedure true false none is = absurd cc
  no_procedure false filled none is = absurd cc

  abbrev given : Bool → List Note
  given takes = given_notes handle (given_if takes pdu slot now) ++ given_notes handle (kept_given_if takes pdu slot now)

  given_still : (takes : Bool) → AreStill side number (given takes)
  given_still takes =
      still_both side number (given_notes handle (given_if takes pdu slot now)) (given_notes handle (kept_given_if takes pdu slot now))
      (given_stays side number withheld response slot handle (given_if takes pdu slot now)) (given_stays side number withheld response slot handle (kept_given_if takes pdu slot now))

  abbrev IsTold : (accepted filled procedure : Bool) → EventLines → Type 0
  IsTold accepted filled procedure e =
      say (took_notes_if (accepted && filled) handle pdu now ++ given (accepted && procedure)) e
      ≡ changed_if ((accepted && procedure) && changes_taking pdu slot (accepted_if accepted pdu now)) e

  taken_so : (filled procedure : Bool) (e : EventLines) → not (is_empty pdu) ≡ filled → is_procedure_pdu pdu ≡ procedure → IsTold true filled procedure e
  taken_so true true e fills is =
      let after = keyed_by_all (steps_by (is_procedure_pdu pdu)) k in
      let same : lengths_in (keyed_after takes_it (accepting true)) ≡ (control_taken pdu slot (accepted_if true pdu now)).table.lengths =
      ap (λ counts. lengths_in (keyed_after takes_it (accepting counts))) (sym fills) in
      still_noted side number withheld response slot (given true) after (changed_if (lengths_differ (Some k) (Some after)) e) (given_still true)
      ∙ ap (λ differ. changed_if differ e)
      (ap (λ lengths. not (are_equal (lengths_in k) lengths)) (lengths_taken true is ∙ same))
  taken_so true false e fills is =
      let after = keyed_by_all (steps_by (is_procedure_pdu pdu)) k in
      still_noted side number withheld response slot (given false) after (changed_if (lengths_differ (Some k) (Some after)) e) (given_still false)
      ∙ ap (λ differ. changed_if differ e) (same_lengths k after (lengths_taken false is))
  taken_so false true e fills is = absurd (no_procedure (is_control pdu) (not (is_empty pdu)) fills is)
  taken_so false false e fills is = still_noted side number withheld response slot (given false) k e (given_still false) ∙ sym (unchanged e)

  taken_told : (accepted : Bool) (e : EventLines) → IsTold accepted (not (is_empty pdu)) (is_procedure_pdu pdu) e
  taken_told true e = taken_so (not (is_empty pdu)) (is_procedure_pdu pdu) e refl refl
  taken_told false e = still_noted side number withheld response slot (given false) k e (given_still false) ∙ sym (unchanged e)

-- a good packet, by the notes of it
pub taking_noted : (side : Side) (number : ℕ) (withheld : Withheld) (slot : ℕ) (room : Bool) (octets : List ℕ) (setup : Setup) (facts : Facts)
    → event_noted side number withheld facts.encryption.response slot (notes_hearing setup slot room (header_in octets) (pdu_of octets) facts)
    (keyed_of (facts_before_taking setup.link.role slot (header_in octets) facts)) (event_hearing slot (header_in octets).md (event_lines facts))
    ≡ event_lines (facts_hearing setup.link.role slot room (header_in octets) (pdu_of octets) facts)
taking_noted side number withheld slot room octets setup facts =
    let role = setup.link.role in
    let handle = setup.link.handle in
    let header = header_in octets in
    let pdu = pdu_of octets in
    let now = facts_before_taking role slot header facts in
    let accepted = accepts room header pdu now in
    let e = event_hearing slot header.md (event_lines facts) in
    let kind = acked_kind (acks_control (has_acknowledged facts header) facts) facts in
    ap (λ response. event_noted side number withheld response slot (notes_hearing setup slot room header pdu facts) (keyed_of now) e) (sym (before_response role slot header facts))
    ∙ skip_done side number withheld now.encryption.response slot handle kind (taken_notes handle accepted pdu slot now) (keyed_of now) e
    ∙ taken_told side number withheld slot handle pdu now accepted e
    ∙ sym (heard_event role slot room octets facts)
