-- What is due to a side after the notes of a station: its own, or those of the other one.
use Rattle.std.proofs.Common.{◌≡◌, ℕ, Bool, true, false, Some, List, [], ◌∷◌, ◌++◌, map, refl, sym, ap, subst, ◌∙◌, append-nil, append_assoc}
use Rattle.std.specs.Prelude.{All}
use Rattle.std.proofs.lemmas.List.Elements.{All-head, All-tail}
use Rattle.ble_base.specs.declared.notes.Note.{Note}
use Rattle.ble_base.specs.declared.notes.Note.TheVariants.{Opened, Up}
use Rattle.ble_base.specs.declared.roles.Side.{Side}
use Rattle.journal_controls.specs.controller_model.Side.{notes_after}
use Rattle.journal_controls.specs.controller_model.Step.{Step as Call}
use Rattle.journal.specs.declared.entries.Entry.{Entry}
use Rattle.journal_controls.specs.journal_ends.Asked.{Words}
use Rattle.journal_controls.specs.journal_packets.Belonging.{is_side}
use Rattle.journal_controls.specs.run_model.History.{Event, Called, Noted}
use Rattle.journal_controls.specs.run_model.Journal.{entries_of, entry_of, journal_of, side_of}
use Rattle.journal_controls.specs.run_model.Links.{Links, links_of}
use Rattle.journal_controls.specs.run_model.Run.{Given, after_call, facts_at, setup_at}
use Rattle.journal_controls.proofs.run_model.LinksKnown.{links_event}
use Rattle.journal_controls.proofs.run_model.Parts.{journal_event}
use Rattle.journal_controls.specs.LinesDue.{lines_due}
use Rattle.journal_due.specs.EachLine.{AreDueLines, IsDueLine}
use Rattle.journal_due.specs.ProcedureLines.{RestsAt, applied_last, is_same_side, side_of_line}
use Rattle.journal_due.proofs.DueEntries.{AreAllTold, due_both}
use Rattle.journal_due.proofs.DuePlain.{IsOtherLine, IsPlain, IsPlainLine, StaysDue, note_other, note_plain, other_due, other_stays, plain_due, plain_rests}

-- each line of a side so far came where it was due
abbrev pub AreDueBy : Words → Side → List Event → Type 0
AreDueBy words side history = AreDueLines words side [] (journal_of history)

-- and nothing is due to it
pub record IsTold (words : Words) (side : Side) (history : List Event) : Type 0 where
  pub each : AreDueBy words side history
  pub rests : RestsAt words side (journal_of history)

-- ---- more lines

pub told_lines : (words : Words) (side : Side) (history after : List Event) (lines : List Entry) → journal_of after ≡ journal_of history ++ lines → AreDueBy words side history
    → AreAllTold words side (journal_of history) lines → IsTold words side after
told_lines words side history after lines is each told = record {
  each = subst (λ xs. AreDueLines words side [] xs) (sym is) (due_both words side [] (journal_of history) lines each told.each);
  rests = subst (λ xs. RestsAt words side xs) (sym is) told.left;
}

-- one event with one line
line_due : (words : Words) (side : Side) (history : List Event) (event : Event) (line : Entry) → entries_of (links_of history) event ≡ line ∷ [] → AreDueBy words side history
    → (side_of_line line ≡ Some side → IsDueLine words side (journal_of history) line) → AreDueBy words side (history ++ event ∷ [])
line_due words side history event line is each due =
    subst (λ xs. AreDueLines words side [] xs) (sym (journal_event history event ∙ ap (λ xs. journal_of history ++ xs) is))
    (due_both words side [] (journal_of history) (line ∷ []) each (due, tt))

line_is : (history : List Event) (event : Event) (line : Entry) → entries_of (links_of history) event ≡ line ∷ [] → journal_of (history ++ event ∷ []) ≡ journal_of history ++ line ∷ []
line_is history event line is = journal_event history event ∙ ap (λ xs. journal_of history ++ xs) is

-- a line of the station, and of no procedure
pub plain_event : (words : Words) (side : Side) (history : List Event) (event : Event) (line : Entry) → entries_of (links_of history) event ≡ line ∷ [] → IsPlainLine words side line
    → IsTold words side history → IsTold words side (history ++ event ∷ [])
plain_event words side history event line is plain told = record {
  each = line_due words side history event line is told.each (λ own. plain_due words side (journal_of history) line plain told.rests);
  rests = subst (λ xs. RestsAt words side xs) (sym (line_is history event line is)) (plain_rests words side (journal_of history) line plain told.rests);
}

-- one of the other side
pub other_event : (words : Words) (side : Side) (history : List Event) (event : Event) (line : Entry) → entries_of (links_of history) event ≡ line ∷ [] → IsOtherLine words side line
    → StaysDue words side (journal_of history) (journal_of (history ++ event ∷ []))
other_event words side history event line is other =
    subst (λ xs. StaysDue words side (journal_of history) xs) (sym (line_is history event line is)) (other_stays words side (journal_of history) line other)

pub other_each : (words : Words) (side : Side) (history : List Event) (event : Event) (line : Entry) → entries_of (links_of history) event ≡ line ∷ []
    → is_same_side (side_of_line line) side ≡ false → AreDueBy words side history → AreDueBy words side (history ++ event ∷ [])
other_each words side history event line is other each = line_due words side history event line is each (λ own. other_due words side (journal_of history) line other own)

-- ---- stays

pub stays_then : (words : Words) (side : Side) (one two three : List Entry) → StaysDue words side one two → StaysDue words side two three → StaysDue words side one three
stays_then words side one two three first next = record {
  procedures = λ number. next.procedures number ∙ first.procedures number;
  indication = next.indication ∙ first.indication;
}

pub same_stays : (words : Words) (side : Side) (front after : List Entry) → after ≡ front → StaysDue words side front after
same_stays words side front after is = record { procedures = λ number. ap (lines_due words side number) is; indication = ap (applied_last side) is }

pub rests_stay : (words : Words) (side : Side) (front after : List Entry) → StaysDue words side front after → RestsAt words side front → RestsAt words side after
rests_stay words side front after stays rests = record {
  procedures = λ number. stays.procedures number ∙ rests.procedures number;
  indication = stays.indication ∙ rests.indication;
}

-- ---- notes that open no link

abbrev pub is_opening_note : Note → Bool
is_opening_note (Opened handle role own peer) = true
is_opening_note note = false

abbrev pub OpensNo : Note → Type 0
OpensNo note = is_opening_note note ≡ false

-- to another side
pub record PassesBy (words : Words) (side : Side) (history after : List Event) : Type 0 where
  pub each : AreDueBy words side history → AreDueBy words side after
  pub stays : StaysDue words side (journal_of history) (journal_of after)

-- ---- the notes of a station

module _ (words : Words) (station : ℕ) where
  -- a call that is made has no line
  called_is : (step : Call) (history : List Event) → journal_of (history ++ Called station step ∷ []) ≡ journal_of history
  called_is step history = journal_event history (Called station step) ∙ append-nil (journal_of history)

  -- to its own side, where no note is of a procedure
  plain_noted : (notes : List Note) (history : List Event) → All IsPlain notes → IsTold words (side_of station) history → IsTold words (side_of station) (history ++ map (Noted station) notes)
  plain_noted [] history all told = subst (IsTold words (side_of station)) (sym (append-nil history)) told
  plain_noted (note ∷ notes) history all told =
      let links = links_of history in
      let next = history ++ Noted station note ∷ [] in
      subst (IsTold words (side_of station)) (append_assoc history (Noted station note ∷ []) (map (Noted station) notes))
      (plain_noted notes next (All-tail IsPlain note notes all)
      (plain_event words (side_of station) history (Noted station note) _ refl
      (note_plain words (side_of station) (links.link_of station) (links.last_of station) note (All-head IsPlain note notes all)) told))

  -- a call with such notes
  pub plain_called : (given : Given) (step : Call) (history : List Event) → All IsPlain (notes_after (setup_at given station) (facts_at given station history) step)
      → IsTold words (side_of station) history → IsTold words (side_of station) (after_call given station step history)
  plain_called given step history all told =
      let notes = notes_after (setup_at given station) (facts_at given station history) step in
      subst (IsTold words (side_of station)) (append_assoc history (Called station step ∷ []) (map (Noted station) notes))
      (plain_noted notes (history ++ Called station step ∷ []) all (record {
        each = subst (λ xs. AreDueLines words (side_of station) [] xs) (sym (called_is step history)) told.each;
        rests = subst (λ xs. RestsAt words (side_of station) xs) (sym (called_is step history)) told.rests;
      }))

  -- to the other side
  other_noted : (side : Side) (notes : List Note) (history : List Event) → is_side (side_of station) side ≡ false → PassesBy words side history (history ++ map (Noted station) notes)
  other_noted side [] history differs = record {
    each = λ each. subst (AreDueBy words side) (sym (append-nil history)) each;
    stays = same_stays words side (journal_of history) _ (ap journal_of (append-nil history));
  }
  other_noted side (note ∷ notes) history differs =
      let links = links_of history in
      let next = history ++ Noted station note ∷ [] in
      let joins = append_assoc history (Noted station note ∷ []) (map (Noted station) notes) in
      let other = note_other words side (side_of station) (links.link_of station) (links.last_of station) note differs in
      let rest = other_noted side notes next differs in record {
        each = λ each. subst (AreDueBy words side) joins (rest.each (other_each words side history (Noted station note) _ refl other.other each));
        stays = subst (λ xs. StaysDue words side (journal_of history) (journal_of xs)) joins
            (stays_then words side (journal_of history) (journal_of next) (journal_of (next ++ map (Noted station) notes)) (other_event words side history (Noted station note) _ refl other) rest.stays);
      }

  -- any call on the other station
  pub other_called : (given : Given) (side : Side) (step : Call) (history : List Event) → is_side (side_of station) side ≡ false
      → PassesBy words side history (after_call given station step history)
  other_called given side step history differs =
      let notes = notes_after (setup_at given station) (facts_at given station history) step in
      let called = history ++ Called station step ∷ [] in
      let joins = append_assoc history (Called station step ∷ []) (map (Noted station) notes) in
      let rest = other_noted side notes called differs in record {
        each = λ each. subst (AreDueBy words side) joins (rest.each (subst (λ xs. AreDueLines words side [] xs) (sym (called_is step history)) each));
        stays = subst (λ xs. StaysDue words side (journal_of history) (journal_of xs)) joins
            (stays_then words side (journal_of history) (journal_of called) (journal_of (called ++ map (Noted station) notes))
            (same_stays words side (journal_of history) (journal_of called) (called_is step history)) rest.stays);
      }

  -- ---- notes that open no link: the numbers of links stay

  note_links : (history : List Event) (note : Note) → OpensNo note → links_of (history ++ Noted station note ∷ []) ≡ links_of history
  note_links history (Opened handle role own peer) none = absurd cc
  note_links history (Up packet) none = links_event history (Noted station (Up packet))
  note_links history note none = links_event history (Noted station note)

  lines_noted : (link_of : ℕ → ℕ) (last : ℕ) (notes : List Note) (history : List Event) → All OpensNo notes → (links_of history).link_of station ≡ link_of
      → (links_of history).last_of station ≡ last → journal_of (history ++ map (Noted station) notes) ≡ journal_of history ++ map (entry_of (side_of station) link_of last) notes
  lines_noted link_of last [] history all link last_is = ap journal_of (append-nil history) ∙ sym (append-nil (journal_of history))
  lines_noted link_of last (note ∷ notes) history all link last_is =
      let next = history ++ Noted station note ∷ [] in
      let same = note_links history note (All-head OpensNo note notes all) in
      let line = entry_of (side_of station) link_of last note in
      ap journal_of (sym (append_assoc history (Noted station note ∷ []) (map (Noted station) notes)))
      ∙ lines_noted link_of last notes next (All-tail OpensNo note notes all) (ap (λ (l : Links). l.link_of station) same ∙ link) (ap (λ (l : Links). l.last_of station) same ∙ last_is)
      ∙ ap (λ xs. xs ++ map (entry_of (side_of station) link_of last) notes)
      (journal_event history (Noted station note) ∙ (λ i. journal_of history ++ entry_of (side_of station) (link i) (last_is i) note ∷ []))
      ∙ append_assoc (journal_of history) (line ∷ []) (map (entry_of (side_of station) link_of last) notes)

  -- a call with such notes: its lines
  pub lines_called : (given : Given) (step : Call) (history : List Event) → All OpensNo (notes_after (setup_at given station) (facts_at given station history) step)
      → journal_of (after_call given station step history)
      ≡ journal_of history ++ map (entry_of (side_of station) ((links_of history).link_of station) ((links_of history).last_of station)) (notes_after (setup_at given station) (facts_at given station history) step)
  lines_called given step history all =
      let notes = notes_after (setup_at given station) (facts_at given station history) step in
      let links = links_of history in
      let called = history ++ Called station step ∷ [] in
      let same = links_event history (Called station step) in
      ap journal_of (sym (append_assoc history (Called station step ∷ []) (map (Noted station) notes)))
      ∙ lines_noted (links.link_of station) (links.last_of station) notes called all (ap (λ (l : Links). l.link_of station) same) (ap (λ (l : Links). l.last_of station) same)
      ∙ ap (λ xs. xs ++ map (entry_of (side_of station) (links.link_of station) (links.last_of station)) notes) (called_is step history)
