-- As an end enters an event, its lines up to that of the event, and what they do to the end.
use Rattle.std.proofs.Common.{◌≡◌, ℕ, Bool, true, false, Option, Some, None, List, [], ◌∷◌, ◌++◌, map, refl, sym, ap, subst, ◌∙◌, append_assoc, if◌then◌else◌}
use Rattle.std.specs.List.{AllByRecursion}
use Rattle.std.proofs.lemmas.List.{map-append}
use Rattle.ble_base.specs.declared.notes.Note.{Note}
use Rattle.ble_base.specs.declared.notes.Note.TheVariants.{Enter as EnterNote}
use Rattle.ble_base.specs.declared.roles.Side.{Side}
use Rattle.journal.specs.declared.entries.Entry.{Entry}
use Rattle.journal_sending.specs.journal_leaving.journal_controls.SaidLines.{NoneOpens, moved_by}
use Rattle.journal_sending.specs.journal_leaving.journal_controls.TurnSteps.{first_if, steps_begun}
use Rattle.journal_sending.specs.journal_leaving.journal_controls.Withheld.{Withheld}
use Rattle.journal_sending.specs.journal_leaving.journal_links.LinkLines.{line_of}
use Rattle.journal_sending.specs.journal_leaving.link_model.Controls.{goes_on, is_quiet_now}
use Rattle.journal_sending.specs.journal_leaving.link_model.End.{facts_after, notes_after, notes_from}
use Rattle.journal_sending.specs.journal_leaving.link_model.Entering.{began_notes, done_notes, event_notes, facts_entered, facts_entered_if, keyed_entered}
use Rattle.journal_sending.specs.journal_leaving.link_model.Events.{applied_notes}
use Rattle.journal_sending.specs.journal_leaving.link_model.Facts.{Facts, keyed_of}
use Rattle.journal_sending.specs.journal_leaving.link_model.Setup.{Setup}
use Rattle.journal_sending.specs.journal_leaving.link_model.Step.{EventEntered, PacketSent, PduFixed}
use Rattle.journal_sending.specs.journal_leaving.link_model.control_end.Answers.{entry_of}
use Rattle.journal_sending.specs.journal_leaving.link_model.control_end.Held.{held_of}
use Rattle.journal_sending.specs.journal_leaving.link_model.control_end.declared.answers.Entry.{Entry as EndEntry}
use Rattle.journal_sending.specs.journal_leaving.link_model.declared.events.ConnectionEvent.{ConnectionEvent}
use Rattle.journal_sending.specs.journal_leaving.link_model.keyed_control.declared.material.Response.{Response}
use Rattle.journal_sending.proofs.journal_fixing.SaidPdus.{in_middle}
use Rattle.journal_events.specs.Told.{event_lines, event_noted}
use Rattle.journal_events.proofs.SaidEvents.{AreStill, began_stays, done_stays, entry_noted, fixes_stay, is_still, noted_both, still_both, still_noted}

-- ---- two lists of lines with one line of an event each

abbrev AllStill : List Entry → Type 0
AllStill lines = AllByRecursion (λ line. is_still line ≡ true) lines

-- they are the same up to that line
one_split : (front last first later : List Entry) (line other : Entry) → is_still line ≡ false → AllStill first
    → AllStill later → front ++ line ∷ last ≡ first ++ other ∷ later → front ++ line ∷ [] ≡ first ++ other ∷ []
one_split [] last [] later line other event before after is = let same : line ≡ other = cc in λ i. same i ∷ []
one_split [] last (one ∷ first) later line other event before after is =
    let same : line ≡ one = cc in
    absurd (let h : false ≡ true = sym event ∙ ap is_still same ∙ before.0 in absurd cc)
one_split (one ∷ front) last [] later line other event before after is =
    let rest : front ++ line ∷ last ≡ later = cc in
    let still = in_middle (λ any. is_still any ≡ true) front line last (subst AllStill (sym rest) after) in
    absurd (let h : false ≡ true = sym event ∙ still in absurd cc)
one_split (one ∷ front) last (two ∷ first) later line other event before after is =
    let same : one ≡ two = cc in
    let rest : front ++ line ∷ last ≡ first ++ other ∷ later = cc in
    λ i. same i ∷ one_split front last first later line other event before.1 after rest i

-- ---- an end

module _ (side : Side) (number : ℕ) (withheld : Withheld) (response : Response) (slot : ℕ) (setup : Setup)
    (facts : Facts) where
  abbrev event : ConnectionEvent
  event = (facts_entered setup slot facts).event

  abbrev entry : EndEntry
  entry = entry_of slot (is_quiet_now facts) (held_of facts.control)

  abbrev applied : List Note
  applied = applied_notes setup.link.handle event.number entry.applied

  abbrev enter : Note
  enter = EnterNote setup.link.handle (record { 0 = event.number }) event.channel

  -- what it notes up to the event
  abbrev pub up_to_event : List Note
  up_to_event = applied ++ enter ∷ []

  abbrev later : List Note
  later = done_notes setup.link.handle entry.done ++ began_notes setup.link.handle entry.began

  abbrev lines : List Note → List Entry
  lines notes = map (line_of side number) notes

  applied_stays : (one : Option ℕ) → AreStill side number (applied_notes setup.link.handle event.number one)
  applied_stays None = tt
  applied_stays (Some one) = (refl, tt)

  later_stays : AreStill side number later
  later_stays =
      still_both side number (done_notes setup.link.handle entry.done) (began_notes setup.link.handle entry.began)
      (done_stays side number withheld response slot setup.link.handle entry.done)
      (began_stays side number withheld response slot setup.link.handle entry.began)

  pub none_opens : NoneOpens (lines up_to_event)
  none_opens = by entry.applied
    where
      by : (one : Option ℕ) → NoneOpens (lines (applied_notes setup.link.handle event.number one ++ enter ∷ []))
      by None = (refl, tt)
      by (Some one) = (refl, (refl, tt))

  -- what they do to its procedures, its phase and its keys
  pub keyed_then : moved_by withheld response slot (lines up_to_event) (keyed_of facts) ≡ keyed_entered slot facts
  keyed_then = by entry.applied
    where
      by : (one : Option ℕ)
          → moved_by withheld response slot (lines (applied_notes setup.link.handle event.number one ++ enter ∷ []))
          (keyed_of facts) ≡ keyed_entered slot facts
      by None = refl
      by (Some one) = refl

  module _ (goes : goes_on facts ≡ true) where
    all_notes : notes_after setup facts (EventEntered slot) ≡ up_to_event ++ later
    all_notes =
        ap (λ on. if on then event_notes setup.link.handle event entry else []) goes
        ∙ append_assoc up_to_event (done_notes setup.link.handle entry.done)
        (began_notes setup.link.handle entry.began)

    -- and to its event
    pub event_then : event_noted side number withheld response slot up_to_event (keyed_of facts) (event_lines facts)
        ≡ event_lines (facts_entered setup slot facts)
    event_then =
        let k = keyed_of facts in
        let e = event_lines facts in
        let say = event_noted side number withheld response slot in
        let after = moved_by withheld response slot (lines up_to_event) k in
        sym (still_noted side number withheld response slot later after (say up_to_event k e) later_stays)
        ∙ sym (noted_both side number withheld response slot up_to_event later k e)
        ∙ ap (λ notes. say notes k e) (sym all_notes)
        ∙ entry_noted side number withheld response slot setup facts
        ∙ ap (λ on. event_lines (facts_entered_if on setup slot facts)) goes

    -- the lines of a turn that begins are these up to the first one of an event
    pub first_lines : (fixes sends : Bool) (front last : List Entry) (line : Entry) → is_still line ≡ false
        → front ++ line ∷ last ≡ lines (notes_from setup facts (steps_begun true fixes sends slot))
        → front ++ line ∷ [] ≡ lines up_to_event
    first_lines fixes sends front last line is_event are =
        let next = facts_after setup facts (EventEntered slot) in
        let rest = notes_from setup next (first_if fixes PduFixed (first_if sends (PacketSent slot) [])) in
        let all : notes_after setup facts (EventEntered slot) ++ rest ≡ applied ++ enter ∷ (later ++ rest) =
        ap (λ notes. notes ++ rest) all_notes ∙ append_assoc up_to_event later rest
        ∙ append_assoc applied (enter ∷ []) (later ++ rest) in
        let still = fixes_stay side number withheld response slot setup fixes sends next in
        one_split front last (lines applied) (lines (later ++ rest)) line (line_of side number enter) is_event
        (applied_stays entry.applied) (still_both side number later rest later_stays still)
        (are ∙ ap lines all ∙ map-append (line_of side number) applied (enter ∷ (later ++ rest)))
        ∙ sym (map-append (line_of side number) applied (enter ∷ []))
