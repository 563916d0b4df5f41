-- As a turn begins, the lines of an end before that of a new PDU move it to what it is as it fixes the PDU.
use Rattle.std.proofs.Common.{◌≡◌, ℕ, ◌&&◌, not, Bool, true, false, Option, Some, None, List, [], ◌∷◌, ◌++◌, fold, map, refl, sym, ap, subst, ◌∙◌, append-nil, if◌then◌else◌}
use Rattle.std.specs.List.{AllByRecursion}
use Rattle.std.proofs.lemmas.List.{map-append}
use Rattle.ble_base.specs.declared.notes.Note.{Note}
use Rattle.ble_base.specs.declared.notes.Note.TheVariants.{Enter}
use Rattle.ble_base.specs.declared.procedure_kinds.Kind.{Kind}
use Rattle.ble_base.specs.declared.roles.Side.{Side}
use Rattle.journal_controls.specs.Withheld.{Withheld}
use Rattle.journal_controls.specs.controller_model.Step.{Step as Call}
use Rattle.journal.specs.declared.entries.Entry.{Entry}
use Rattle.journal.specs.declared.entries.Entry.TheVariants.{Applied as AppliedLine, Began as BeganLine, Done as DoneLine, Enter as EnterLine}
use Rattle.journal_controls.specs.LineSteps.{keyed_on, turn_now, withholds}
use Rattle.journal_controls.specs.SaidLines.{moved_by}
use Rattle.journal_controls.specs.TurnSteps.{first_if, steps_begun}
use Rattle.journal_controls.specs.journal_ends.Asked.{Words}
use Rattle.journal_controls.specs.journal_links.LinkLines.{line_of, lines_of}
use Rattle.journal_controls.specs.link_model.Acknowledgement.{Pdu, is_acked}
use Rattle.journal_controls.specs.link_model.Controls.{goes_on, is_quiet_now, pdu_fixed}
use Rattle.journal_controls.specs.link_model.Data.{is_empty, numbered}
use Rattle.journal_controls.specs.link_model.End.{facts_after, notes_after, notes_from}
use Rattle.journal_controls.specs.link_model.Entering.{began_notes, done_notes, event_notes, facts_entered}
use Rattle.journal_controls.specs.link_model.Events.{applied_notes}
use Rattle.journal_controls.specs.link_model.Facts.{Facts, keyed_of}
use Rattle.journal_controls.specs.link_model.Sending.{sent_notes_if}
use Rattle.journal_controls.specs.link_model.Setup.{Setup}
use Rattle.journal_controls.specs.link_model.Step.{EventEntered, PacketSent, PduFixed}
use Rattle.journal_controls.specs.link_model.control_end.Answers.{entry_of}
use Rattle.journal_controls.specs.link_model.control_end.Held.{held_of}
use Rattle.journal_controls.specs.link_model.control_end.declared.answers.Entry.{Entry as Entered}
use Rattle.journal_controls.specs.link_model.keyed_control.Keyed.{Keyed}
use Rattle.journal_controls.specs.link_model.keyed_control.KeyedSteps.{Enters, keyed_after}
use Rattle.journal_controls.specs.link_model.keyed_control.declared.material.Response.{Response}
use Rattle.journal_controls.specs.link_model.declared.events.ConnectionEvent.{ConnectionEvent}
use Rattle.journal_controls.specs.run_model.Feeding.{is_octet}
use Rattle.journal_controls.specs.run_model.History.{Event}
use Rattle.journal_controls.specs.run_model.Journal.{journal_of}
use Rattle.journal_controls.specs.run_model.Run.{Given, after_call}
use Rattle.journal_controls.proofs.EndMoves.{steps_later}
use Rattle.journal_controls.proofs.LineFolds.{moved_both}
use Rattle.journal_fixing.specs.OnLines.{NoneTakes, before_sending, control_fixing, is_fixed, is_sending, is_taking}
use Rattle.journal_fixing.proofs.FixingEvents.{call_fixes}
use Rattle.journal_fixing.proofs.SaidPdus.{AreUnsent, IsSaidBy, all_both, sent_said, unsent_said}

-- the lines of no new PDU come whole
before_unsent : (lines more : List Entry) → AreUnsent lines → before_sending (lines ++ more) ≡ lines ++ before_sending more
before_unsent [] more none = refl
before_unsent (line ∷ lines) more none =
    ap (λ b. if b then [] else line ∷ before_sending (lines ++ more)) none.0 ∙ ap (λ xs. line ∷ xs) (before_unsent lines more none.1)

-- what each line has that an end says as it enters an event
record IsOfEvents (P : Entry → Type 0) : Type 0 where
  applied : (side : Side) (link change event : ℕ) → P (AppliedLine side link change event)
  entered : (side : Side) (link event channel : ℕ) → P (EnterLine side link event channel)
  done : (side : Side) (link : ℕ) (kind : Kind) → P (DoneLine side link kind)
  began : (side : Side) (link : ℕ) (kind : Kind) → P (BeganLine side link kind)

none_sends : IsOfEvents (λ line. is_sending line ≡ false)
none_sends = record {
  applied = λ side link change event. refl;
  entered = λ side link event channel. refl;
  done = λ side link kind. refl;
  began = λ side link kind. refl;
}

none_takes : IsOfEvents (λ line. is_taking line ≡ false)
none_takes = record {
  applied = λ side link change event. refl;
  entered = λ side link event channel. refl;
  done = λ side link kind. refl;
  began = λ side link kind. refl;
}

module _ (side : Side) (number : ℕ) (withheld : Withheld) (response : Response) (slot : ℕ) where
  abbrev said : List Note → List Entry
  said notes = map (line_of side number) notes

  said_both : (notes more : List Note) → said (notes ++ more) ≡ said notes ++ said more
  said_both notes more = map-append (line_of side number) notes more

  -- ---- an event is entered

  -- the notes come in four parts
  event_said : (handle : ℕ) (event : ConnectionEvent) (entry : Entered)
      → said (event_notes handle event entry)
      ≡ ((said (applied_notes handle event.number entry.applied) ++ said (Enter handle (record { 0 = event.number }) event.channel ∷ []))
      ++ said (done_notes handle entry.done)) ++ said (began_notes handle entry.began)
  event_said handle event entry =
      let applied = applied_notes handle event.number entry.applied in
      let enter = Enter handle (record { 0 = event.number }) event.channel ∷ [] in
      let done = done_notes handle entry.done in
      let began = began_notes handle entry.began in
      said_both ((applied ++ enter) ++ done) began
      ∙ ap (λ xs. xs ++ said began) (said_both (applied ++ enter) done ∙ ap (λ xs. xs ++ said done) (said_both applied enter))

  module _ (P : Entry → Type 0) (has : IsOfEvents P) where
    done_each : (handle : ℕ) (kind : Option Kind) → AllByRecursion P (said (done_notes handle kind))
    done_each handle None = tt
    done_each handle (Some kind) = (has.done side number kind, tt)

    began_each : (handle : ℕ) (kind : Option Kind) → AllByRecursion P (said (began_notes handle kind))
    began_each handle None = tt
    began_each handle (Some kind) = (has.began side number kind, tt)

    applied_each : (handle event : ℕ) (applied : Option ℕ) → AllByRecursion P (said (applied_notes handle event applied))
    applied_each handle event None = tt
    applied_each handle event (Some change) = (has.applied side number change event, tt)

    event_each : (handle : ℕ) (event : ConnectionEvent) (entry : Entered) → AllByRecursion P (said (event_notes handle event entry))
    event_each handle event entry =
        let applied = said (applied_notes handle event.number entry.applied) in
        let enter = said (Enter handle (record { 0 = event.number }) event.channel ∷ []) in
        let done = said (done_notes handle entry.done) in
        let began = said (began_notes handle entry.began) in
        subst (AllByRecursion P) (sym (event_said handle event entry))
        (all_both P ((applied ++ enter) ++ done) began
        (all_both P (applied ++ enter) done
        (all_both P applied enter (applied_each handle event.number entry.applied) (has.entered side number event.number event.channel, tt))
        (done_each handle entry.done))
        (began_each handle entry.began))

    entry_if_each : (goes : Bool) (setup : Setup) (facts : Facts)
        → AllByRecursion P (said (if goes then event_notes setup.link.handle (facts_entered setup slot facts).event (entry_of slot (is_quiet_now facts) (held_of facts.control)) else []))
    entry_if_each false setup facts = tt
    entry_if_each true setup facts =
        event_each setup.link.handle (facts_entered setup slot facts).event (entry_of slot (is_quiet_now facts) (held_of facts.control))

  done_still : (handle : ℕ) (kind : Option Kind) (k : Keyed) → moved_by withheld response slot (said (done_notes handle kind)) k ≡ k
  done_still handle None k = refl
  done_still handle (Some kind) k = refl

  began_still : (handle : ℕ) (kind : Option Kind) (k : Keyed) → moved_by withheld response slot (said (began_notes handle kind)) k ≡ k
  began_still handle None k = refl
  began_still handle (Some kind) k = refl

  applied_still : (handle event : ℕ) (applied : Option ℕ) (k : Keyed) → moved_by withheld response slot (said (applied_notes handle event applied)) k ≡ k
  applied_still handle event None k = refl
  applied_still handle event (Some change) k = refl

  event_moves : (handle : ℕ) (event : ConnectionEvent) (entry : Entered) (k : Keyed)
      → moved_by withheld response slot (said (event_notes handle event entry)) k ≡ keyed_after (Enters slot) k
  event_moves handle event entry k =
      let applied = said (applied_notes handle event.number entry.applied) in
      let enter = said (Enter handle (record { 0 = event.number }) event.channel ∷ []) in
      let done = said (done_notes handle entry.done) in
      let began = said (began_notes handle entry.began) in
      ap (λ xs. moved_by withheld response slot xs k) (event_said handle event entry)
      ∙ moved_both withheld response slot ((applied ++ enter) ++ done) began k ∙ began_still handle entry.began (moved_by withheld response slot ((applied ++ enter) ++ done) k)
      ∙ moved_both withheld response slot (applied ++ enter) done k ∙ done_still handle entry.done (moved_by withheld response slot (applied ++ enter) k)
      ∙ moved_both withheld response slot applied enter k ∙ ap (moved_by withheld response slot enter) (applied_still handle event.number entry.applied k)

  entry_if_moves : (goes : Bool) (setup : Setup) (facts : Facts)
      → moved_by withheld response slot (said (if goes then event_notes setup.link.handle (facts_entered setup slot facts).event (entry_of slot (is_quiet_now facts) (held_of facts.control)) else [])) (keyed_of facts)
      ≡ keyed_of (if goes then facts_entered setup slot facts else facts)
  entry_if_moves false setup facts = refl
  entry_if_moves true setup facts =
      event_moves setup.link.handle (facts_entered setup slot facts).event (entry_of slot (is_quiet_now facts) (held_of facts.control)) (keyed_of facts)

  -- ---- the PDU is fixed, and the packet sent

  none_before : (noted : Bool) (handle count : ℕ) (pdu : Pdu) → before_sending (said (sent_notes_if noted handle count pdu ++ [])) ≡ []
  none_before true handle count pdu = refl
  none_before false handle count pdu = refl

  sent_before : (setup : Setup) (facts : Facts) (sends : Bool) → before_sending (said (notes_from setup facts (first_if sends (PacketSent slot) []))) ≡ []
  sent_before setup facts false = refl
  sent_before setup facts true =
      none_before (is_acked facts.acknowledgement && not (is_empty (pdu_fixed facts))) setup.link.handle (numbered facts.acknowledgement.sent) (pdu_fixed facts)

  fixed_before : (setup : Setup) (facts : Facts) (fixes sends : Bool)
      → before_sending (said (notes_from setup facts (first_if fixes PduFixed (first_if sends (PacketSent slot) [])))) ≡ []
  fixed_before setup facts true sends = sent_before setup (facts_after setup facts PduFixed) sends
  fixed_before setup facts false sends = sent_before setup facts sends

  -- ---- all of it

  pub begun_before : (setup : Setup) (facts : Facts) (enters fixes sends : Bool)
      → moved_by withheld response slot (before_sending (said (notes_from setup facts (steps_begun enters fixes sends slot)))) (keyed_of facts)
      ≡ keyed_of (fold (facts_after setup) facts (first_if enters (EventEntered slot) []))
  begun_before setup facts false fixes sends = ap (λ xs. moved_by withheld response slot xs (keyed_of facts)) (fixed_before setup facts fixes sends)
  begun_before setup facts true fixes sends =
      let now = facts_after setup facts (EventEntered slot) in
      let here = notes_after setup facts (EventEntered slot) in
      let later = notes_from setup now (first_if fixes PduFixed (first_if sends (PacketSent slot) [])) in
      ap (λ xs. moved_by withheld response slot (before_sending xs) (keyed_of facts)) (said_both here later)
      ∙ ap (λ xs. moved_by withheld response slot xs (keyed_of facts))
      (before_unsent (said here) (said later) (entry_if_each (λ line. is_sending line ≡ false) none_sends (goes_on facts) setup facts) ∙ ap (λ xs. said here ++ xs) (fixed_before setup now fixes sends) ∙ append-nil (said here))
      ∙ entry_if_moves (goes_on facts) setup facts

  -- none of them says that a PDU is taken
  pub begun_takes : (setup : Setup) (facts : Facts) (enters fixes sends : Bool)
      → NoneTakes (before_sending (said (notes_from setup facts (steps_begun enters fixes sends slot))))
  begun_takes setup facts false fixes sends = subst NoneTakes (sym (fixed_before setup facts fixes sends)) tt
  begun_takes setup facts true fixes sends =
      let now = facts_after setup facts (EventEntered slot) in
      let here = notes_after setup facts (EventEntered slot) in
      let later = notes_from setup now (first_if fixes PduFixed (first_if sends (PacketSent slot) [])) in
      subst NoneTakes
      (sym (ap before_sending (said_both here later)
      ∙ before_unsent (said here) (said later) (entry_if_each (λ line. is_sending line ≡ false) none_sends (goes_on facts) setup facts)
      ∙ ap (λ xs. said here ++ xs) (fixed_before setup now fixes sends) ∙ append-nil (said here)))
      (entry_if_each (λ line. is_taking line ≡ false) none_takes (goes_on facts) setup facts)

  -- ---- the line of a new PDU

  begin_said : (setup : Setup) (facts : Facts) (sends : Bool) → AllByRecursion (IsSaidBy sends facts) (said (notes_from setup facts (first_if sends (PacketSent slot) [])))
  begin_said setup facts false = tt
  begin_said setup facts true = sent_said side number setup.link.handle (numbered facts.acknowledgement.sent) facts (is_acked facts.acknowledgement && not (is_empty (pdu_fixed facts))) refl

  fixed_said : (setup : Setup) (facts : Facts) (fixes sends : Bool)
      → AllByRecursion (IsSaidBy sends (fold (facts_after setup) facts (first_if fixes PduFixed []))) (said (notes_from setup facts (first_if fixes PduFixed (first_if sends (PacketSent slot) []))))
  fixed_said setup facts true sends = begin_said setup (facts_after setup facts PduFixed) sends
  fixed_said setup facts false sends = begin_said setup facts sends

  pub begun_said : (setup : Setup) (facts : Facts) (enters fixes sends : Bool)
      → AllByRecursion (IsSaidBy sends (fold (facts_after setup) facts (first_if enters (EventEntered slot) (first_if fixes PduFixed []))))
      (said (notes_from setup facts (steps_begun enters fixes sends slot)))
  begun_said setup facts false fixes sends = fixed_said setup facts fixes sends
  begun_said setup facts true fixes sends =
      let now = facts_after setup facts (EventEntered slot) in
      let here = notes_after setup facts (EventEntered slot) in
      let later = notes_from setup now (first_if fixes PduFixed (first_if sends (PacketSent slot) [])) in
      let sent = fold (facts_after setup) now (first_if fixes PduFixed []) in
      subst (AllByRecursion (IsSaidBy sends sent)) (sym (said_both here later))
      (all_both (IsSaidBy sends sent) (said here) (said later) (unsent_said sends sent (said here) (entry_if_each (λ line. is_sending line ≡ false) none_sends (goes_on facts) setup facts)) (fixed_said setup now fixes sends))

-- a call on the controller of its station
pub begun_fixes : (words : Words) (side : Side) (number slot : ℕ) (given : Given) (station : ℕ) (call : Call) (history : List Event) (setup : Setup) (facts : Facts)
    → (enters fixes sends : Bool) → is_octet call ≡ false → lines_of side number (journal_of (after_call given station call history))
    ≡ lines_of side number (journal_of history) ++ map (line_of side number) (notes_from setup facts (steps_begun enters fixes sends slot))
    → turn_now (journal_of history) ≡ slot → is_fixed words side number (journal_of history) ≡ false → keyed_on words side number (journal_of history) ≡ Some (keyed_of facts)
    → control_fixing words side number (journal_of (after_call given station call history))
    ≡ Some (keyed_of (fold (facts_after setup) facts (first_if enters (EventEntered slot) [])))
begun_fixes words side number slot given station call history setup facts enters fixes sends in_turn lines turn none was =
    let held = withholds side (journal_of history) in
    let response = words side (journal_of history) in
    let steps = steps_begun enters fixes sends slot in
    let more = map (line_of side number) (notes_from setup facts steps) in
    call_fixes words side number history given station call in_turn more (keyed_of facts) lines (steps_later side number setup facts steps)
    (begun_takes side number held response slot setup facts enters fixes sends) none was
    ∙ ap (λ now. Some (moved_by held response now (before_sending more) (keyed_of facts))) turn
    ∙ ap Some (begun_before side number held response slot setup facts enters fixes sends)
