-- Each line of an event that a side enters has the number of events that it entered before.
use Rattle.std.proofs.Common.{◌≡◌, ℕ, ◌==◌, Bool, true, false, Option, Some, None, List, [], ◌∷◌, ◌++◌, cond, refl, sym, ap, subst, ◌∙◌, append-nil, append_assoc}
use Rattle.std.specs.Prelude.{fold}
use Rattle.std.specs.List.{Contains}
use Rattle.std.proofs.lemmas.Bool.{eq-eqb, eqb-true, eqb-false, false_from_ne_true, or_parts, or_left}
use Rattle.std.proofs.lemmas.List.Folds.{list_any-append}
use Rattle.std.proofs.lemmas.List.Sums.{fold-append}
use Rattle.ble_base.specs.declared.notes.Note.{Note}
use Rattle.ble_base.specs.declared.notes.Note.TheVariants.{Up, Opened, Enter as EnterNote}
use Rattle.ble_base.specs.declared.roles.Side.{Side}
use Rattle.journal.specs.declared.entries.Entry.{Entry}
use Rattle.journal.specs.declared.entries.Entry.TheVariants.{Enter}
use Rattle.journal_packets.specs.open_links.OpenLinks.{OpenLink, link_at}
use Rattle.journal_packets.specs.controller_model.Facts.{Setup}
use Rattle.journal_packets.specs.controller_model.Links.{note_shut}
use Rattle.journal_packets.specs.controller_model.Side.{facts_of, notes_after, notes_of}
use Rattle.journal_packets.specs.controller_model.Since.{is_under, note_under, notes_opened_on, notes_under, opens_under, was_opened}
use Rattle.journal_packets.specs.controller_model.Step.{Step}
use Rattle.journal_packets.proofs.controller_model.Entries.{enters_as_turns_begin, enters_at_anchors}
use Rattle.journal_packets.proofs.controller_model.Pasts.{notes_more}
use Rattle.journal_packets.proofs.controller_model.UnderNotes.{open_noted, shut_noted}
use Rattle.link_calls.specs.run_model.Feeding.{AreDistinct}
use Rattle.link_calls.specs.run_model.History.{Called, Noted, noted_by, past_of}
use Rattle.link_calls.specs.run_model.Journal.{journal_of}
use Rattle.link_calls.specs.run_model.LinkEnds.{HaveAddresses}
use Rattle.link_calls.specs.run_model.NoteLines.{enter_line}
use Rattle.link_calls.specs.run_model.OnAir.{ends_phase}
use Rattle.link_calls.specs.run_model.Run.{Given, facts_at, history_of, run_of, setup_at}
use Rattle.link_calls.proofs.run_model.Calls.{noted_called, same_station}
use Rattle.link_calls.proofs.run_model.LinkEnds.{AreTaken, IsUnderstood}
use Rattle.link_calls.proofs.run_model.NoteLines.{is_contained, line_in_call, to_line}
use Rattle.link_calls.proofs.run_model.Notes.{NotedBefore, run_noted}
use Rattle.link_calls.proofs.run_model.Numbers.{numbered_at}
use Rattle.link_calls.proofs.run_model.OfStations.{OfStations, run_of_stations}
use Rattle.link_calls.proofs.run_model.OpenedNotes.{is_opened, opens_under as opens, outside_open}
use Rattle.link_calls.proofs.run_model.Places.{each_at}
use Rattle.journal_packets.proofs.journal_links.EnterLines.{turn_of}
use Rattle.journal_packets.proofs.journal_links.LineNotes.{lines_are_notes, open_was_opened}
use Rattle.journal_packets.proofs.journal_links.OfTwo.{two_apart}
use Rattle.journal_acks.specs.EventOrder.{entered_on}
use Rattle.journal_acks.proofs.EntryLines.{count_read, end_in_order}
use Rattle.journal_acks.proofs.EntryNotes.{AreInOrder, count_note, order_append, order_at}
use Rattle.journal_acks.proofs.TwoStations.{IsOfTwo}

-- ---- at any time the events among the notes of a link are numbered from 0 on

in_order : (handle : ℕ) (setup : Setup) (past : List Step) → was_opened handle (notes_of setup past) ≡ true → AreInOrder 0 (notes_under handle (notes_of setup past))
in_order handle setup past was = by (link_at handle (facts_of setup past).links) refl
  where
    by : (place : Option OpenLink) → link_at handle (facts_of setup past).links ≡ place → AreInOrder 0 (notes_under handle (notes_of setup past))
    by (Some link) at = subst (AreInOrder 0) (sym (open_noted handle setup past link at)) (end_in_order link.setup link.past)
    by None at =
        let shut = shut_noted handle setup past at was in
        subst (AreInOrder 0) (sym shut.notes_are) (order_append 0 (notes_opened_on shut.setup shut.past) (note_shut handle shut.reason ∷ []) (end_in_order shut.setup shut.past) (tt, tt))

-- ---- a note with those before and after it

-- notes that open no link under a handle come after those that are under it
record Grows (handle : ℕ) (before more : List Note) : Type 0 where
  rest : List Note
  is : fold (note_under handle) before more ≡ before ++ rest

opens_too : (handle : ℕ) (note : Note) → opens handle note ≡ false → opens_under handle note ≡ false
opens_too handle (Opened other role own peer) none =
    false_from_ne_true (other == handle) (λ same. eqb-false handle other none (sym (eqb-true other handle same)))
opens_too handle (Up packet) none = refl
opens_too handle note none = refl

grows : (handle : ℕ) (before more : List Note) → is_opened handle more ≡ false → Grows handle before more
grows handle before [] none = record { rest = []; is = sym (append-nil before) }
grows handle before (note ∷ more) none =
    let parts = or_parts (opens handle note) (is_opened handle more) none in
    by (is_under handle note) refl (opens_too handle note parts.0) (λ xs. grows handle xs more parts.1)
  where
    by : (under : Bool) → is_under handle note ≡ under → opens_under handle note ≡ false → ((xs : List Note) → Grows handle xs more) → Grows handle before (note ∷ more)
    by true is quiet later = let rest = later (before ++ note ∷ []) in record {
      rest = note ∷ rest.rest;
      is = ap (λ b. fold (note_under handle) (cond b (note ∷ []) (cond (is_under handle note) (before ++ note ∷ []) before)) more) quiet
          ∙ ap (λ b. fold (note_under handle) (cond b (before ++ note ∷ []) before) more) is ∙ rest.is ∙ append_assoc before (note ∷ []) rest.rest;
    }
    by false is quiet later = let rest = later before in record {
      rest = rest.rest;
      is = ap (λ b. fold (note_under handle) (cond b (note ∷ []) (cond (is_under handle note) (before ++ note ∷ []) before)) more) quiet
          ∙ ap (λ b. fold (note_under handle) (cond b (before ++ note ∷ []) before) more) is ∙ rest.is;
    }

-- the number of an event is that of the events noted before it
number_at : (handle event channel : ℕ) (before later : List Note) → is_opened handle later ≡ false
    → AreInOrder 0 (notes_under handle (before ++ EnterNote handle (record { 0 = event }) channel ∷ later)) → event ≡ fold count_note 0 (notes_under handle before)
number_at handle event channel before later none order =
    let note = EnterNote handle (record { 0 = event }) channel in
    let known = notes_under handle before in
    let more = grows handle (known ++ note ∷ []) later none in
    order_at 0 known more.rest handle event channel
    (subst (AreInOrder 0)
    (fold-append (note_under handle) [] before (note ∷ later)
    ∙ ap (λ b. fold (note_under handle) (cond b (known ++ note ∷ []) known) later) (eq-eqb handle handle refl)
    ∙ more.is ∙ append_assoc known (note ∷ []) more.rest) order)

-- ---- a line

module _ (understood : IsUnderstood) (taken : AreTaken) (given : Given) (are_two : IsOfTwo given) (six : HaveAddresses given) (distinct : AreDistinct given.stations) where
  pub event_in_order : (front rest : List Entry) (side : Side) (number event channel : ℕ) → journal_of (history_of (run_of given)) ≡ front ++ Enter side number event channel ∷ rest
      → event ≡ entered_on side number front
  event_in_order front rest side number event channel is =
      let line = enter_line side number event channel in
      let call = line_in_call given front rest (Enter side number event channel) line refl is in
      let history = history_of (run_of given) in
      let station = call.station in
      let handle = call.handle in
      let setup = setup_at given station in
      let base = call.base in
      let past = past_of station base in
      let note = line.note handle in
      let called = Called station call.step in
      let is_noted = is_contained given front line call in
      let turn = turn_of call.step (enters_as_turns_begin setup past call.step handle event channel is_noted) in
      let entered = (enters_at_anchors setup past turn.slot turn.on handle event channel).0
      (subst (λ s. Contains (notes_after setup (facts_at given station base) s) note) turn.is is_noted) in
      let apart = two_apart given are_two station (each_at (OfStations given) history base call.after called (run_of_stations given) call.called) in
      let noted : noted_by station base ≡ notes_of setup past = each_at (NotedBefore given) history base call.after called (run_noted given).each call.called refl station in
      let opened = open_was_opened understood taken given distinct six station apart base (called ∷ call.after) handle entered.link call.called
      (numbered_at understood taken given base call.after called distinct six call.called refl) entered.is_open in
      let before : noted_by station call.before ≡ noted_by station base ++ call.earlier =
      ap (noted_by station) call.before_is ∙ noted_called station station call.step call.earlier base true (same_station station) in
      let all : noted_by station call.before ++ note ∷ call.later ≡ notes_of setup (past ++ call.step ∷ []) =
      ap (λ xs. xs ++ note ∷ call.later) before ∙ append_assoc (noted_by station base) call.earlier (note ∷ call.later)
      ∙ ap (λ xs. noted_by station base ++ xs) (sym call.notes_are) ∙ ap (λ xs. xs ++ notes_after setup (facts_at given station base) call.step) noted
      ∙ sym (notes_more setup past call.step) in
      let was : was_opened handle (noted_by station call.before) ≡ true =
      ap (was_opened handle) before ∙ list_any-append (opens_under handle) (noted_by station base) call.earlier
      ∙ or_left (was_opened handle (noted_by station base)) (was_opened handle call.earlier) opened in
      let quiet = outside_open handle setup (facts_at given station base) call.step (ap ends_phase turn.is) in
      let none = (or_parts (opens handle note) (is_opened handle call.later)
      (or_parts (is_opened handle call.earlier) (is_opened handle (note ∷ call.later))
      (sym (list_any-append (opens handle) call.earlier (note ∷ call.later)) ∙ ap (is_opened handle) (sym call.notes_are) ∙ quiet)).1).1 in
      let order = subst (λ xs. AreInOrder 0 (notes_under handle xs)) (sym all)
      (in_order handle setup (past ++ call.step ∷ []) (subst (λ xs. was_opened handle xs ≡ true) all
      (list_any-append (opens_under handle) (noted_by station call.before) (note ∷ call.later)
      ∙ or_left (was_opened handle (noted_by station call.before)) (was_opened handle (note ∷ call.later)) was))) in
      to_line given front line call (λ link entries one. event ≡ entered_on one link entries)
      (number_at handle event channel (noted_by station call.before) call.later none order
      ∙ sym (count_read (journal_of call.before) station _ (notes_under handle (noted_by station call.before))
      (lines_are_notes understood taken given distinct six station apart call.before (Noted station note ∷ call.rest) handle call.is_at was)))
