-- The lines of an end that enters an event come where they are due.
use Rattle.std.specs.Prelude.{if◌then◌else◌}
use Rattle.std.proofs.Common.{◌≡◌, ℕ, Bool, true, false, Option, Some, None, List, [], ◌∷◌, ◌++◌, map, refl, sym, ap, subst, ◌∙◌, append-nil, append_assoc}
use Rattle.std.specs.Option.{option_map}
use Rattle.ble_base.specs.declared.notes.Note.{Note}
use Rattle.ble_base.specs.declared.notes.Note.TheVariants.{Enter as NotesEnter}
use Rattle.ble_base.specs.declared.procedure_kinds.Kind.{Kind}
use Rattle.ble_base.specs.declared.roles.Side.{Side}
use Rattle.journal.specs.declared.entries.Entry.{Entry}
use Rattle.journal.specs.declared.entries.Entry.TheVariants.{Applied, Enter}
use Rattle.journal_controls.specs.journal_ends.Asked.{Words}
use Rattle.journal_controls.specs.journal_links.LinkLines.{line_of}
use Rattle.journal_controls.specs.link_model.Controls.{goes_on}
use Rattle.journal_controls.specs.link_model.End.{notes_after}
use Rattle.journal_controls.specs.link_model.Entering.{began_notes, done_notes, event_notes, facts_entered}
use Rattle.journal_controls.specs.link_model.Events.{applied_notes}
use Rattle.journal_controls.specs.link_model.Facts.{Facts, keyed_of}
use Rattle.journal_controls.specs.link_model.Setup.{Setup}
use Rattle.journal_controls.specs.link_model.Step.{EventEntered}
use Rattle.journal_controls.specs.link_model.control_end.declared.answers.Entry.{Entry as Entered}
use Rattle.journal_controls.specs.link_model.keyed_control.Keyed.{Keyed}
use Rattle.journal_controls.specs.LineSteps.{keyed_in_line, keyed_on, moved_in_line, turn_now}
use Rattle.journal_controls.specs.LinesDue.{applied_due, applied_with, due_entering, entry_by, lines_due}
use Rattle.journal_controls.proofs.LineFolds.{keyed_more}
use Rattle.journal_due.specs.EachLine.{AreDueLines}
use Rattle.journal_due.specs.ProcedureLines.{RestsAt, applied_last, applied_line, first_of}
use Rattle.journal_due.proofs.DueLines.{own_applied, said_due}
use Rattle.journal_due.proofs.DueSteps.{IsOwnLine, after_own, each_told, entry_lines, on_rests, quiet_own, still_if, seen_own, turn_stays}

-- lines of an end, each of which is due, and none is left
pub record AreAllTold (words : Words) (side : Side) (front lines : List Entry) : Type 0 where
  pub each : AreDueLines words side front lines
  pub left : RestsAt words side (front ++ lines)
  pub turn_is : turn_now (front ++ lines) ≡ turn_now front

pub no_lines : (words : Words) (side : Side) (front : List Entry) → RestsAt words side front → AreAllTold words side front []
no_lines words side front rests = record {
  each = tt;
  left = subst (λ xs. RestsAt words side xs) (sym (append-nil front)) rests;
  turn_is = ap turn_now (append-nil front);
}

-- one line, and then others
pub line_then : (words : Words) (side : Side) (front lines : List Entry) (line : Entry) → AreDueLines words side front (line ∷ []) → turn_now (front ++ line ∷ []) ≡ turn_now front
    → AreAllTold words side (front ++ line ∷ []) lines → AreAllTold words side front (line ∷ lines)
line_then words side front lines line here turn rest =
    let joins = append_assoc front (line ∷ []) lines in record {
      each = (here.0, rest.each);
      left = subst (λ xs. RestsAt words side xs) joins rest.left;
      turn_is = ap turn_now (sym joins) ∙ rest.turn_is ∙ turn;
    }

pub due_both : (words : Words) (side : Side) (front lines more : List Entry) → AreDueLines words side front lines → AreDueLines words side (front ++ lines) more → AreDueLines words side front (lines ++ more)
due_both words side front [] more here there = subst (λ xs. AreDueLines words side xs more) (append-nil front) there
due_both words side front (line ∷ lines) more here there =
    (here.0, due_both words side (front ++ line ∷ []) lines more here.1 (subst (λ xs. AreDueLines words side xs more) (sym (append_assoc front (line ∷ []) lines)) there))

pub told_both : (words : Words) (side : Side) (front lines more : List Entry) → AreAllTold words side front lines → AreAllTold words side (front ++ lines) more → AreAllTold words side front (lines ++ more)
told_both words side front lines more told rest =
    let joins = append_assoc front lines more in record {
      each = due_both words side front lines more told.each rest.each;
      left = subst (λ xs. RestsAt words side xs) joins rest.left;
      turn_is = ap turn_now (sym joins) ∙ rest.turn_is ∙ told.turn_is;
    }

module _ (words : Words) (side : Side) (number : ℕ) where
  enter_own : (event channel : ℕ) → IsOwnLine side number (Enter side number event channel)
  enter_own event channel = record { named = refl; deaf = λ other front. refl; unaccepted = λ front. refl; own = refl; no_turn = refl }

  -- the line of an event, and those that are due then
  enter_told : (front : List Entry) (k : Keyed) (event channel : ℕ) → keyed_on words side number front ≡ Some k → ((other : ℕ) → lines_due words side other front ≡ [])
      → applied_last side front ≡ option_map (applied_line number event) (applied_due words side number front)
      → AreAllTold words side front (Enter side number event channel ∷ due_entering side number (entry_by (turn_now front) k))
  enter_told front k event channel is none applied =
      let line = Enter side number event channel in
      let entry = entry_by (turn_now front) k in
      let own = enter_own event channel in
      let moved : keyed_on words side number (front ++ line ∷ []) ≡ Some (moved_in_line words side number front line k) =
      keyed_more words side number front line ∙ ap (λ before. keyed_in_line words side number front before line) is in
      let on = after_own words side number front (due_entering side number entry) line own (λ other apart. none other)
      (said_due words side number front line k is (seen_own words side number front line own)) refl in
      let rest = each_told words side number (front ++ line ∷ []) (due_entering side number entry) (moved_in_line words side number front line k) (entry_lines words side number number entry.done entry.began) moved on in
      line_then words side front (due_entering side number entry) line (λ mine. record { procedures = λ other. ap first_of (sym (none other)); indication = applied }, tt)
      (turn_stays front line refl) (record { each = rest.each; left = on_rests words side number _ rest.left; turn_is = rest.turn_is })

  -- after the line of an indication, or with none
  same_entries : (handle : ℕ) (done began : Option Kind)
      → map (line_of side number) (done_notes number done ++ began_notes number began) ≡ map (line_of side number) (done_notes handle done ++ began_notes handle began)
  same_entries handle None None = refl
  same_entries handle None (Some kind) = refl
  same_entries handle (Some kind) None = refl
  same_entries handle (Some kind) (Some other) = refl

  abbrev entry_notes_of : ℕ → ℕ → ℕ → Option ℕ → Entered → List Note
  entry_notes_of handle event channel applied entry =
      applied_notes handle event applied ++ NotesEnter handle (record { 0 = event }) channel ∷ [] ++ done_notes handle entry.done ++ began_notes handle entry.began

  due_is : (front : List Entry) (k : Keyed) → keyed_on words side number front ≡ Some k → applied_due words side number front ≡ (entry_by (turn_now front) k).applied
  due_is front k is = ap (applied_with (turn_now front)) is

  event_told : (front : List Entry) (k : Keyed) (handle event channel : ℕ) (applied : Option ℕ) → keyed_on words side number front ≡ Some k → RestsAt words side front
      → (entry_by (turn_now front) k).applied ≡ applied
      → AreAllTold words side front (map (line_of side number) (entry_notes_of handle event channel applied (entry_by (turn_now front) k)))
  event_told front k handle event channel None is rests none =
      let entry = entry_by (turn_now front) k in
      subst (λ xs. AreAllTold words side front (Enter side number event channel ∷ xs)) (same_entries handle entry.done entry.began)
      (enter_told front k event channel is rests.procedures (rests.indication ∙ sym (ap (option_map (applied_line number event)) (due_is front k is ∙ none))))
  event_told front k handle event channel (Some indication) is rests some =
      let line = Applied side number indication event in
      let next = front ++ line ∷ [] in
      let own : IsOwnLine side number line = record { named = refl; deaf = λ other front. refl; unaccepted = λ front. refl; own = refl; no_turn = refl } in
      let still = still_if words side number line front k own refl refl is in
      let turn = turn_stays front line refl in
      let entry = entry_by (turn_now front) k in
      let lines = Enter side number event channel ∷ map (line_of side number) (done_notes handle entry.done ++ began_notes handle entry.began) in
      let rest : AreAllTold words side next lines =
      subst (λ xs. AreAllTold words side next (Enter side number event channel ∷ xs)) (ap (λ slot. due_entering side number (entry_by slot k)) turn ∙ same_entries handle entry.done entry.began)
      (enter_told next k event channel still (λ other. quiet_own words side number front line own other (rests.procedures other) (λ response slot k due none. refl) k is)
      (own_applied side front line refl
      ∙ sym (ap (option_map (applied_line number event)) (due_is next k still ∙ ap (λ slot. (entry_by slot k).applied) turn ∙ some)))) in
      line_then words side front lines line (λ mine. record { procedures = λ other. ap first_of (sym (rests.procedures other)); indication = rests.indication }, tt) turn rest

-- an end enters an event, or does not
pub entering_told : (words : Words) (side : Side) (number : ℕ) (setup : Setup) (facts : Facts) (front : List Entry) → keyed_on words side number front ≡ Some (keyed_of facts) → RestsAt words side front
    → AreAllTold words side front (map (line_of side number) (notes_after setup facts (EventEntered (turn_now front))))
entering_told words side number setup facts front is rests = by (goes_on facts)
  where
    entry : Entered
    entry = entry_by (turn_now front) (keyed_of facts)

    by : (goes : Bool) → AreAllTold words side front (map (line_of side number) (if goes then event_notes setup.link.handle (facts_entered setup (turn_now front) facts).event entry else []))
    by false = no_lines words side front rests
    by true =
        let event = (facts_entered setup (turn_now front) facts).event in
        event_told words side number front (keyed_of facts) setup.link.handle event.number event.channel entry.applied is rests refl
