-- What the notes of a call make of a side by its lines: the answers among them set what its host has set, a link that is shut
-- frees the radio, and the others leave it.
use Rattle.std.proofs.Common.{◌≡◌, ℕ, Bool, true, false, ◌-◌, List, [], ◌∷◌, ◌++◌, length, map, refl, sym, ap, ◌∙◌, append-nil, append_assoc}
use Rattle.std.specs.Prelude.{flat_map}
use Rattle.std.specs.List.{AllByRecursion}
use Rattle.std.proofs.lemmas.List.Concat.{flat_map-append}
use Rattle.std.proofs.lemmas.List.Sums.{fold-append}
use Rattle.ble_base.specs.declared.notes.Note.{Note}
use Rattle.ble_base.specs.declared.notes.Note.TheVariants.{Enter as EnterNote, Opened as OpenedNote, Shut as ShutNote, Up as UpNote}
use Rattle.ble_base.specs.declared.roles.Side.{Side}
use Rattle.hci_cmd.specs.declared.command.Command.{Command}
use Rattle.host_answers.specs.Answered.{accepted_from, accepted_in, accepted_with, next_command}
use Rattle.host_answers.proofs.LineAnswers.{IsQuiet}
use Rattle.journal.specs.declared.entries.Entry.{Entry}
use Rattle.journal.specs.declared.entries.Entry.TheVariants.{Shut}
use Rattle.journal_events.specs.journal_sending.controller_model.Facts.{Radio}
use Rattle.journal_events.specs.journal_sending.controller_model.Links.{note_shut}
use Rattle.journal_events.specs.journal_sending.journal_controls.LineSteps.{turn_now}
use Rattle.journal_events.specs.journal_sending.journal_controls.journal_ends.Asked.{Words}
use Rattle.journal_events.specs.journal_sending.journal_data.Held.{links_open}
use Rattle.journal_events.specs.journal_sending.run_model.History.{Event, Noted}
use Rattle.journal_events.specs.journal_sending.run_model.Journal.{entry_of, journal_from, journal_of, side_of}
use Rattle.journal_events.specs.journal_sending.run_model.Links.{links_of}
use Rattle.journal_events.specs.journal_sending.run_model.Readers.{PairOpening, pair_openings_in, turns_of}
use Rattle.journal_events.proofs.journal_sending.journal_acks.Exchanging.{number_at}
use Rattle.journal_events.proofs.journal_sending.journal_acks.TwoStations.{side_same}
use Rattle.journal_events.proofs.journal_sending.run_model.LinksKnown.{links_event}
use Rattle.journal_events.proofs.journal_sending.run_model.Parts.{journal_event}
use Rattle.journal_wants.specs.Station.{Setups, Station, commanded, commanded_by, handle_of, line_if, own_line, shut_under, station_after}
use Rattle.journal_wants.proofs.StationLines.{station_at, station_noted}

-- a note that enters no event, opens no link and shuts none
abbrev pub is_plain : Note → Bool
is_plain (EnterNote handle event channel) = false
is_plain (OpenedNote handle role own peer) = false
is_plain (ShutNote handle reason) = false
is_plain note = true

abbrev pub ArePlain : List Note → Type 0
ArePlain notes = AllByRecursion (λ note. is_plain note ≡ true) notes

pub both_plain : (xs ys : List Note) → ArePlain xs → ArePlain ys → ArePlain (xs ++ ys)
both_plain [] ys one other = other
both_plain (x ∷ xs) ys one other = (one.0, both_plain xs ys one.1 other)

note_begins : (side : Side) (link_of : ℕ → ℕ) (last : ℕ) (note : Note) → pair_openings_in (entry_of side link_of last note) ≡ []
note_begins side link_of last (UpNote packet) = refl
note_begins side link_of last note = refl

-- the turn that is under way stays
pub turn_stays : (front : List Entry) (side : Side) (link_of : ℕ → ℕ) (last : ℕ) (note : Note)
    → turn_now (front ++ entry_of side link_of last note ∷ []) ≡ turn_now front
turn_stays front side link_of last note =
    ap (λ (turns : List PairOpening). length turns - 1)
    (flat_map-append pair_openings_in front (entry_of side link_of last note ∷ [])
    ∙ (λ i. turns_of front ++ (note_begins side link_of last note i ++ [])) ∙ append-nil (turns_of front))

module _ (words : Words) (setups : Setups) (station : ℕ) where
  abbrev side : Side
  side = side_of station

  -- the side after a history, and the turn that is under way then
  abbrev pub at : List Event → Station
  at history = station_at words setups side history

  abbrev turn : List Event → ℕ
  turn history = turn_now (journal_of history)

  abbrev line : List Event → Note → Entry
  line history note = entry_of side ((links_of history).link_of station) ((links_of history).last_of station) note

  -- what the lines of these notes accept, which come after a history
  abbrev pub accepts : List Event → List Note → List Command
  accepts history notes = accepted_from side (journal_of history) (journal_from (links_of history) (map (Noted station) notes))

  accepts_more : (history : List Event) (note : Note) (notes : List Note)
      → accepts history (note ∷ notes) ≡ accepted_in side (journal_of history) (line history note) ++ accepts (history ++ Noted station note ∷ []) notes
  accepts_more history note notes =
      λ i. accepted_in side (journal_of history) (line history note)
      ++ accepted_from side (sym (journal_event history (Noted station note)) i)
      (journal_from (sym (links_event history (Noted station note)) i) (map (Noted station) notes))

  one_on : (history : List Event) (note : Note) (notes : List Note)
      → (history ++ Noted station note ∷ []) ++ map (Noted station) notes ≡ history ++ map (Noted station) (note ∷ notes)
  one_on history note notes = append_assoc history (Noted station note ∷ []) (map (Noted station) notes)

  pub accepts_append : (history : List Event) (notes more : List Note)
      → accepts history (notes ++ more) ≡ accepts history notes ++ accepts (history ++ map (Noted station) notes) more
  accepts_append history [] more = ap (λ before. accepts before more) (sym (append-nil history))
  accepts_append history (note ∷ notes) more =
      let next = history ++ Noted station note ∷ [] in
      accepts_more history note (notes ++ more)
      ∙ ap (λ xs. accepted_in side (journal_of history) (line history note) ++ xs)
      (accepts_append next notes more ∙ ap (λ before. accepts next notes ++ accepts before more) (one_on history note notes))
      ∙ sym (append_assoc (accepted_in side (journal_of history) (line history note)) (accepts next notes)
      (accepts (history ++ map (Noted station) (note ∷ notes)) more))
      ∙ ap (λ xs. xs ++ accepts (history ++ map (Noted station) (note ∷ notes)) more) (sym (accepts_more history note notes))

  pub turn_noted : (history : List Event) (note : Note) → turn (history ++ Noted station note ∷ []) ≡ turn history
  turn_noted history note =
      ap turn_now (journal_event history (Noted station note))
      ∙ turn_stays (journal_of history) side ((links_of history).link_of station) ((links_of history).last_of station) note

  -- ---- plain notes

  plain_line : (note : Note) (front : List Entry) (before : Station) (link_of : ℕ → ℕ) (last : ℕ) → is_plain note ≡ true
      → station_after words setups side front before (entry_of side link_of last note)
      ≡ commanded_by (setups side) (turn_now front) (accepted_in side front (entry_of side link_of last note)) before
  plain_line (EnterNote handle event channel) front before link_of last plain = absurd cc
  plain_line (OpenedNote handle role own peer) front before link_of last plain = absurd cc
  plain_line (ShutNote handle reason) front before link_of last plain = absurd cc
  plain_line note front before link_of last plain = refl

  -- the answers among them are all that counts
  pub plain_notes : (history : List Event) (notes : List Note) → ArePlain notes
      → at (history ++ map (Noted station) notes) ≡ commanded_by (setups side) (turn history) (accepts history notes) (at history)
  plain_notes history [] plain = ap at (append-nil history)
  plain_notes history (note ∷ notes) plain =
      let next = history ++ Noted station note ∷ [] in
      let one = accepted_in side (journal_of history) (line history note) in
      ap at (sym (one_on history note notes))
      ∙ plain_notes next notes plain.1
      ∙ (λ i. commanded_by (setups side) (turn_noted history note i) (accepts next notes)
      ((station_noted words setups side history station note
      ∙ plain_line note (journal_of history) (at history) ((links_of history).link_of station) ((links_of history).last_of station) plain.0) i))
      ∙ sym (fold-append (commanded (setups side) (turn history)) (at history) one (accepts next notes))
      ∙ ap (λ commands. commanded_by (setups side) (turn history) commands (at history)) (sym (accepts_more history note notes))

  -- ---- notes that answer nothing

  quiet_line : (history : List Event) (note : Note) → IsQuiet side station note → accepted_in side (journal_of history) (line history note) ≡ []
  quiet_line history note quiet =
      ap (λ statuses. flat_map (accepted_with (next_command side (journal_of history))) statuses)
      (quiet ((links_of history).link_of station) ((links_of history).last_of station))

  pub quiet_accepts : (history : List Event) (notes : List Note) → AllByRecursion (IsQuiet side station) notes → accepts history notes ≡ []
  quiet_accepts history [] quiet = refl
  quiet_accepts history (note ∷ notes) quiet =
      accepts_more history note notes
      ∙ (λ i. quiet_line history note quiet.0 i ++ quiet_accepts (history ++ Noted station note ∷ []) notes quiet.1 i)

  pub still : (history : List Event) (notes : List Note) → ArePlain notes → AllByRecursion (IsQuiet side station) notes
      → at (history ++ map (Noted station) notes) ≡ at history
  still history notes plain quiet =
      plain_notes history notes plain
      ∙ ap (λ commands. commanded_by (setups side) (turn history) commands (at history)) (quiet_accepts history notes quiet)

  -- ---- a link that is shut

  pub shut_noted : (history : List Event) (handle reason : ℕ)
      → at (history ++ Noted station (note_shut handle reason) ∷ [])
      ≡ record (at history) { radio = shut_under (handle_of (number_at station handle history) (links_open side (journal_of history))) (at history).radio }
  shut_noted history handle reason =
      station_noted words setups side history station (note_shut handle reason)
      ∙ ap (λ own. line_if own (own_line words side (number_at station handle history) (journal_of history)
      (Shut side (number_at station handle history) (record { 0 = reason }))) (at history)) (side_same station)

  abbrev shuts : List ℕ → List Note
  shuts handles = map (λ handle. note_shut handle 0) handles

  -- some of them, whatever they had of the radio
  pub record AreShut (history : List Event) (handles : List ℕ) : Type 0 where
    pub radio : Radio
    pub is : at (history ++ map (Noted station) (shuts handles)) ≡ record (at history) { radio = radio }
    pub none : accepts history (shuts handles) ≡ []
    pub turn_is : turn (history ++ map (Noted station) (shuts handles)) ≡ turn history

  pub all_shut : (history : List Event) (handles : List ℕ) → AreShut history handles
  all_shut history [] = record {
    radio = (at history).radio;
    is = ap at (append-nil history);
    none = refl;
    turn_is = ap turn (append-nil history);
  }
  all_shut history (handle ∷ handles) =
      let note = note_shut handle 0 in
      let next = history ++ Noted station note ∷ [] in
      let rest = all_shut next handles in record {
        radio = rest.radio;
        is = ap at (sym (one_on history note (shuts handles))) ∙ rest.is
            ∙ ap (λ (before : Station). record before { radio = rest.radio }) (shut_noted history handle 0);
        none = accepts_more history note (shuts handles) ∙ rest.none;
        turn_is = ap turn (sym (one_on history note (shuts handles))) ∙ rest.turn_is ∙ turn_noted history note;
      }
