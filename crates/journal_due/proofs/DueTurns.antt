-- The lines of a station as a turn begins come where they are due: links end, the others enter their events one after
-- another, and one sends.
use Rattle.std.proofs.Common.{◌≡◌, ℕ, ◌+◌, ◌≤◌, ◌==◌, Bool, true, false, Option, Some, None, List, [], ◌∷◌, ◌++◌, map, refl, sym, ap, subst, ◌∙◌, append-nil, append_assoc, arith}
use Rattle.std.specs.Prelude.{All, cond, filter, if◌then◌else◌}
use Rattle.std.specs.List.{AllByRecursion}
use Rattle.std.proofs.lemmas.Bool.{eqb-true}
use Rattle.std.proofs.lemmas.List.{map-append}
use Rattle.std.proofs.lemmas.List.Elements.{All-head, All-tail}
use Rattle.ble_base.specs.declared.notes.Note.{Note}
use Rattle.ble_base.specs.declared.notes.Note.TheVariants.{Up}
use Rattle.ble_base.specs.declared.roles.Side.{Side}
use Rattle.ble_base.specs.declared.roles.Side.TheVariants.{A, B}
use Rattle.hci_evt.specs.declared.event.Event.{Event}
use Rattle.hci_evt.specs.declared.event.Event.TheVariants.{CommandComplete, CommandStatus}
use Rattle.hci_evt.specs.Event.{mask_bit_of, written}
use Rattle.journal.specs.declared.entries.Entry.{Entry}
use Rattle.journal.specs.declared.entries.Entry.TheVariants.{Applied, Began, Done, Enter}
use Rattle.journal_controls.specs.controller_model.Entering.{events_entering, notes_all_entering}
use Rattle.journal_controls.specs.controller_model.Events.{notes_of_events, passes}
use Rattle.journal_controls.specs.controller_model.host_view.View.{View}
use Rattle.journal_controls.proofs.controller_model.EndNotes.{entered_each}
use Rattle.journal_controls.proofs.controller_model.NoAnswers.{IsNoAnswer}
use Rattle.journal_controls.proofs.controller_model.ProcedureEvents.{AreOfProcedures, IsOfProcedure, entering_events}
use Rattle.journal_controls.proofs.host_answers.AnswerStatuses.{reads_statuses}
use Rattle.journal_controls.specs.host_answers.Answered.{accepted_in, answer_statuses}
use Rattle.journal_controls.proofs.journal_ends.SeenEvents.{unaccepted_by, unanswered_in, unasked_in}
use Rattle.journal_controls.specs.journal_ends.Asked.{Words}
use Rattle.journal_controls.specs.journal_ends.Seen.{asked_in_line, seen_in_line}
use Rattle.journal_controls.specs.run_model.Readers.{of_side}
use Rattle.journal_controls.specs.journal_links.LinkLines.{line_of}
use Rattle.journal_controls.specs.link_model.End.{notes_after}
use Rattle.journal_controls.specs.link_model.Entering.{facts_entered}
use Rattle.journal_controls.specs.link_model.Facts.{keyed_of}
use Rattle.journal_controls.specs.link_model.Step.{EventEntered}
use Rattle.journal_controls.specs.journal_ends.open_links.OpenLinks.{Links, OpenLink, facts_in, link_from}
use Rattle.journal_controls.specs.journal_ends.open_links.Turns.{enters_in, notes_if}
use Rattle.journal_controls.specs.run_model.Journal.{entry_of}
use Rattle.journal_controls.specs.LineSteps.{keyed_on, turn_now}
use Rattle.journal_controls.proofs.LineFolds.{keyed_more, quiet_line}
use Rattle.journal_controls.proofs.journal_acks.TwoStations.{same_number}
use Rattle.journal_due.specs.ProcedureLines.{RestsAt}
use Rattle.journal_due.proofs.DueEntries.{AreAllTold, entering_told, no_lines, told_both}
use Rattle.journal_due.proofs.DuePlain.{IsPlain, IsPlainLine, note_plain, plain_told}
use Rattle.journal_due.proofs.DueSteps.{IsOwnLine, keyed_apart}

-- ---- the links by handle, from one on

pub from_first : (first handle : ℕ) (links : Links) (link : OpenLink) → link_from first handle links ≡ Some link → first ≤ handle
from_first first handle [] link at = absurd cc
from_first first handle (place ∷ links) link at = by (first == handle) refl (λ more. from_first (first + 1) handle links link more) at
  where
    by : (here : Bool) → (first == handle) ≡ here → (link_from (first + 1) handle links ≡ Some link → first + 1 ≤ handle)
        → (if here then place else link_from (first + 1) handle links) ≡ Some link → first ≤ handle
    by true here later at = let same = eqb-true first handle here in omega (arith, same)
    by false here later at = let more = later at in omega (arith, more)

pub apart_from : (first handle : ℕ) → first + 1 ≤ handle → (first == handle) ≡ false
apart_from first handle more = grind (arith, more)

-- a later one is under the same handle
pub at_later : (first handle : ℕ) (place : Option OpenLink) (links : Links) (link : OpenLink) → link_from (first + 1) handle links ≡ Some link
    → link_from first handle (place ∷ links) ≡ Some link
at_later first handle place links link at =
    ap (λ b. if b then place else link_from (first + 1) handle links) (apart_from first handle (from_first (first + 1) handle links link at)) ∙ at

pub at_first : (first : ℕ) (place : Option OpenLink) (links : Links) → link_from first first (place ∷ links) ≡ place
at_first first place links = ap (λ b. if b then place else link_from (first + 1) first links) (same_number first)

-- ---- events of procedures are no answers

no_answer : (event : Event) → IsOfProcedure event → IsNoAnswer event
no_answer (CommandComplete number opcode fields) is = absurd is
no_answer (CommandStatus status number opcode) is = absurd is
no_answer other is = tt

no_answers : (events : List Event) → AreOfProcedures events → AllByRecursion IsNoAnswer events
no_answers [] are = tt
no_answers (event ∷ events) are = (no_answer event are.0, no_answers events are.1)

-- ---- lines of one station, with the numbers of its links

module _ (words : Words) (side : Side) (link_of : ℕ → ℕ) (last : ℕ) where
  abbrev pub line : Note → Entry
  line note = entry_of side link_of last note

  pub plain_lines : (notes : List Note) → All IsPlain notes → AllByRecursion (IsPlainLine words side) (map line notes)
  plain_lines [] all = tt
  plain_lines (note ∷ notes) all = (note_plain words side link_of last note (All-head IsPlain note notes all), plain_lines notes (All-tail IsPlain note notes all))

  -- ---- events for the host

  ups_told : (events : List Event) (front : List Entry) → RestsAt words side front → AreAllTold words side front (map line (map (λ event. Up (record { items = written event })) events))
  ups_told events front rests = plain_told words side front _ (ups_plain events) rests
    where
      ups_plain : (events : List Event) → AllByRecursion (IsPlainLine words side) (map line (map (λ event. Up (record { items = written event })) events))
      ups_plain [] = tt
      ups_plain (event ∷ events) = (note_plain words side link_of last (Up (record { items = written event })) refl, ups_plain events)

  pub events_told : (view : View) (events : List Event) (front : List Entry) → RestsAt words side front → AreAllTold words side front (map line (notes_of_events view events))
  events_told view events front rests = ups_told (filter (λ event. passes view (mask_bit_of event)) events) front rests

  -- an event that is no answer tells of nothing that a host asks
  event_accepts : (front : List Entry) (event : Event) → IsNoAnswer event → accepted_in side front (line (Up (record { items = written event }))) ≡ []
  event_accepts front event is = unaccepted_by side front (line (Up (record { items = written event }))) (by side)
    where
      by : (side : Side) → answer_statuses (of_side side side (written event ∷ [])) ≡ []
      by A = ap (λ xs. xs ++ []) (reads_statuses.event event is)
      by B = ap (λ xs. xs ++ []) (reads_statuses.event event is)

  event_silent : (front : List Entry) (number : ℕ) (event : Event) → IsNoAnswer event → seen_in_line words side number front (line (Up (record { items = written event }))) ≡ []
  event_silent front number event is =
      append-nil (asked_in_line words side number front (line (Up (record { items = written event }))))
      ∙ unasked_in words side number front (line (Up (record { items = written event }))) (event_accepts front event is)

  passed_no_answers : (view : View) (events : List Event) → AllByRecursion IsNoAnswer events → AllByRecursion IsNoAnswer (filter (λ event. passes view (mask_bit_of event)) events)
  passed_no_answers view [] are = tt
  passed_no_answers view (event ∷ events) are = by (passes view (mask_bit_of event)) (passed_no_answers view events are.1)
    where
      by : (passed : Bool) → AllByRecursion IsNoAnswer (filter (λ event. passes view (mask_bit_of event)) events)
          → AllByRecursion IsNoAnswer (cond passed (event ∷ filter (λ event. passes view (mask_bit_of event)) events) (filter (λ event. passes view (mask_bit_of event)) events))
      by true later = (are.0, later)
      by false later = later

  pub events_keep : (view : View) (events : List Event) (front : List Entry) (number : ℕ) → AllByRecursion IsNoAnswer events
      → keyed_on words side number (front ++ map line (notes_of_events view events)) ≡ keyed_on words side number front
  events_keep view events front number are = by (filter (λ event. passes view (mask_bit_of event)) events) front (passed_no_answers view events are)
    where
      by : (events : List Event) (front : List Entry) → AllByRecursion IsNoAnswer events
          → keyed_on words side number (front ++ map line (map (λ event. Up (record { items = written event })) events)) ≡ keyed_on words side number front
      by [] front are = ap (keyed_on words side number) (append-nil front)
      by (event ∷ events) front are =
          let up = line (Up (record { items = written event })) in
          ap (keyed_on words side number) (sym (append_assoc front (up ∷ []) _))
          ∙ by events (front ++ up ∷ []) are.1
          ∙ keyed_more words side number front up
          ∙ quiet_line words side number front (keyed_on words side number front) up (event_silent front number event are.0)
          (unanswered_in words side number front up (event_accepts front event are.0))

  -- ---- an event of one link

  own_keep : (own other : ℕ) (lines front : List Entry) → AllByRecursion (IsOwnLine side own) lines → (own == other) ≡ false
      → keyed_on words side other (front ++ lines) ≡ keyed_on words side other front
  own_keep own other [] front all apart = ap (keyed_on words side other) (append-nil front)
  own_keep own other (one ∷ lines) front all apart =
      ap (keyed_on words side other) (sym (append_assoc front (one ∷ []) lines))
      ∙ own_keep own other lines (front ++ one ∷ []) all.1 apart
      ∙ keyed_apart words side own other front one all.0 apart

  -- its lines are those of its notes
  pub same_lines : (handle : ℕ) (notes : List Note) → AllByRecursion (λ note. line note ≡ line_of side (link_of handle) note) notes
      → map line notes ≡ map (line_of side (link_of handle)) notes
  same_lines handle [] all = refl
  same_lines handle (note ∷ notes) all = λ i. all.0 i ∷ same_lines handle notes all.1 i

  pub record IsOfLink (own : ℕ) (notes : List Note) : Type 0 where
    pub lines_are : map line notes ≡ map (line_of side own) notes
    pub are_own : AllByRecursion (IsOwnLine side own) (map line notes)

  pub mapped_own : (own : ℕ) (notes : List Note) → AllByRecursion (λ note. IsOwnLine side own (line note)) notes → AllByRecursion (IsOwnLine side own) (map line notes)
  mapped_own own [] all = tt
  mapped_own own (note ∷ notes) all = (all.0, mapped_own own notes all.1)

  entry_of_link : (handle slot : ℕ) (enters : Bool) (link : OpenLink) → link.setup.link.handle ≡ handle → IsOfLink (link_of handle) (notes_if enters slot link)
  entry_of_link handle slot false link is = record { lines_are = refl; are_own = tt }
  entry_of_link handle slot true link is =
      let named = ap link_of is in
      let event = (facts_entered link.setup slot (facts_in link)).event in record {
        lines_are = same_lines handle (notes_after link.setup (facts_in link) (EventEntered slot))
            (entered_each (λ note. line note ≡ line_of side (link_of handle) note) link.setup slot (facts_in link) (record {
              applied = λ number. ap (λ n. Applied side n number event.number) named;
              enter = ap (λ n. Enter side n event.number event.channel) named;
              done = λ kind. ap (λ n. Done side n kind) named;
              began = λ kind. ap (λ n. Began side n kind) named;
            }));
        are_own = mapped_own (link_of handle) (notes_after link.setup (facts_in link) (EventEntered slot))
            (entered_each (λ note. IsOwnLine side (link_of handle) (line note)) link.setup slot (facts_in link) (record {
              applied = λ number. record { named = ap (λ n. Some (side, n)) named; deaf = λ other front. refl; unaccepted = λ front. refl; own = refl; no_turn = refl };
              enter = record { named = ap (λ n. Some (side, n)) named; deaf = λ other front. refl; unaccepted = λ front. refl; own = refl; no_turn = refl };
              done = λ kind. record { named = ap (λ n. Some (side, n)) named; deaf = λ other front. refl; unaccepted = λ front. refl; own = refl; no_turn = refl };
              began = λ kind. record { named = ap (λ n. Some (side, n)) named; deaf = λ other front. refl; unaccepted = λ front. refl; own = refl; no_turn = refl };
            }));
      }

  entry_told : (handle slot : ℕ) (enters : Bool) (link : OpenLink) (front : List Entry) → turn_now front ≡ slot → link.setup.link.handle ≡ handle
      → keyed_on words side (link_of handle) front ≡ Some (keyed_of (facts_in link)) → RestsAt words side front → AreAllTold words side front (map line (notes_if enters slot link))
  entry_told handle slot false link front now is keyed rests = no_lines words side front rests
  entry_told handle slot true link front now is keyed rests =
      subst (λ lines. AreAllTold words side front lines) (sym (entry_of_link handle slot true link is).lines_are)
      (subst (λ one. AreAllTold words side front (map (line_of side (link_of handle)) (notes_after link.setup (facts_in link) (EventEntered one)))) now
      (entering_told words side (link_of handle) link.setup (facts_in link) front keyed rests))

  -- ---- all links enter their events

  -- the open links from a handle on: their handles and numbers, and what they are by the lines so far
  pub record AreKnownFrom (first : ℕ) (links : Links) (front : List Entry) : Type 0 where
    pub handles : (handle : ℕ) (link : OpenLink) → link_from first handle links ≡ Some link → link.setup.link.handle ≡ handle
    pub controls : (handle : ℕ) (link : OpenLink) → link_from first handle links ≡ Some link → keyed_on words side (link_of handle) front ≡ Some (keyed_of (facts_in link))
    pub numbers : (one other : ℕ) (a b : OpenLink) → link_from first one links ≡ Some a → link_from first other links ≡ Some b → (one == other) ≡ false
        → (link_of one == link_of other) ≡ false

  -- the later ones, by lines that move none of them
  later_known : (first : ℕ) (place : Option OpenLink) (links : Links) (front after : List Entry) → AreKnownFrom first (place ∷ links) front
      → ((handle : ℕ) (link : OpenLink) → link_from (first + 1) handle links ≡ Some link → keyed_on words side (link_of handle) after ≡ keyed_on words side (link_of handle) front)
      → AreKnownFrom (first + 1) links after
  later_known first place links front after known keep = record {
    handles = λ handle link at. known.handles handle link (at_later first handle place links link at);
    controls = λ handle link at. keep handle link at ∙ known.controls handle link (at_later first handle place links link at);
    numbers = λ one other a b at at_too differs. known.numbers one other a b (at_later first one place links a at) (at_later first other place links b at_too) differs;
  }

  pub all_told : (view : View) (slot first : ℕ) (links : Links) (front : List Entry) → turn_now front ≡ slot → AreKnownFrom first links front → RestsAt words side front
      → AreAllTold words side front (map line (notes_all_entering view slot first links))
  all_told view slot first [] front now known rests = no_lines words side front rests
  all_told view slot first (None ∷ links) front now known rests =
      all_told view slot (first + 1) links front now (later_known first None links front front known (λ handle link at. refl)) rests
  all_told view slot first (Some link ∷ links) front now known rests =
      let here = at_first first (Some link) links in
      let handle_is = known.handles first link here in
      let enters = enters_in slot link in
      let entry = notes_if enters slot link in
      let events = notes_of_events view (events_entering slot first (Some link)) in
      let rest = notes_all_entering view slot (first + 1) links in
      let one = entry_told first slot enters link front now handle_is (known.controls first link here) rests in
      let mid = front ++ map line entry in
      let two = events_told view (events_entering slot first (Some link)) mid one.left in
      let next = mid ++ map line events in
      let keep = λ (handle : ℕ) (later : OpenLink) (at : link_from (first + 1) handle links ≡ Some later).
      events_keep view (events_entering slot first (Some link)) mid (link_of handle) (no_answers (events_entering slot first (Some link)) (entering_events slot first (Some link)))
      ∙ own_keep (link_of first) (link_of handle) (map line entry) front (entry_of_link first slot enters link handle_is).are_own
      (known.numbers first handle link later here (at_later first handle (Some link) links later at) (apart_from first handle (from_first (first + 1) handle links later at))) in
      let three = all_told view slot (first + 1) links next (two.turn_is ∙ one.turn_is ∙ now) (later_known first (Some link) links front next known keep) two.left in
      subst (λ lines. AreAllTold words side front lines) (sym (map-append line (entry ++ events) rest ∙ ap (λ lines. lines ++ map line rest) (map-append line entry events)))
      (told_both words side front (map line entry ++ map line events) (map line rest) (told_both words side front (map line entry) (map line events) one two)
      (subst (λ xs. AreAllTold words side xs (map line rest)) (append_assoc front (map line entry) (map line events)) three))
