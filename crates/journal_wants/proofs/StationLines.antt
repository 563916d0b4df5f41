-- What a side is by its lines, as lines come to them one by one: those of the other side leave it, and so do its own but
-- for the answers to its host, the events that it enters, and its links that are opened and shut.
use Rattle.std.proofs.Common.{◌≡◌, ℕ, true, false, List, [], ◌∷◌, ◌++◌, refl, sym, ap, ◌∙◌, append-nil, append_assoc}
use Rattle.std.specs.Prelude.{flat_map}
use Rattle.ble_base.specs.declared.notes.Note.{Note}
use Rattle.ble_base.specs.declared.notes.Note.TheVariants.{Enter as EnterNote, Opened as OpenedNote, Shut as ShutNote, Up as UpNote}
use Rattle.ble_base.specs.declared.roles.Side.{Side}
use Rattle.ble_base.specs.declared.roles.Side.TheVariants.{A, B}
use Rattle.hci_cmd.specs.declared.command.Command.{Command}
use Rattle.host_answers.specs.Answered.{accepted_in, accepted_with, answer_statuses, next_command}
use Rattle.journal.specs.declared.entries.Entry.{Entry}
use Rattle.journal.specs.declared.entries.Entry.TheVariants.{Enter, Opened, Shut, Up}
use Rattle.journal_events.specs.journal_sending.controller_model.Facts.{Setup}
use Rattle.journal_events.specs.journal_sending.controller_model.Step.{Step}
use Rattle.journal_events.specs.journal_sending.journal_controls.LineSteps.{turn_now}
use Rattle.journal_events.specs.journal_sending.journal_controls.journal_ends.Asked.{Words}
use Rattle.journal_events.specs.journal_sending.journal_packets.Belonging.{is_side}
use Rattle.journal_events.specs.journal_sending.run_model.History.{Event, Called, HostFed, Noted}
use Rattle.journal_events.specs.journal_sending.run_model.Journal.{entry_of, journal_of, side_of}
use Rattle.journal_events.specs.journal_sending.run_model.Links.{links_of}
use Rattle.journal_events.specs.journal_sending.run_model.Readers.{of_side}
use Rattle.journal_events.specs.journal_sending.run_model.Run.{Given, after_call}
use Rattle.journal_events.proofs.journal_sending.journal_acks.Exchanging.{any_note, call_keeps}
use Rattle.journal_events.proofs.journal_sending.run_model.Parts.{journal_event}
use Rattle.journal_wants.specs.Station.{Setups, Station, commanded, commanded_by, first_station, line_if, own_line, station_after, station_from, station_on}

-- ---- one line more

from_more : (words : Words) (setups : Setups) (side : Side) (front : List Entry) (station : Station) (lines : List Entry) (line : Entry)
    → station_from words setups side front station (lines ++ line ∷ [])
    ≡ station_after words setups side (front ++ lines) (station_from words setups side front station lines) line
from_more words setups side front station [] line =
    ap (λ xs. station_after words setups side xs station line) (sym (append-nil front))
from_more words setups side front station (first ∷ lines) line =
    from_more words setups side (front ++ first ∷ []) (station_after words setups side front station first) lines line
    ∙ ap (λ xs. station_after words setups side xs
    (station_from words setups side (front ++ first ∷ []) (station_after words setups side front station first) lines) line)
    (append_assoc front (first ∷ []) lines)

pub station_more : (words : Words) (setups : Setups) (side : Side) (journal : List Entry) (line : Entry)
    → station_on words setups side (journal ++ line ∷ [])
    ≡ station_after words setups side journal (station_on words setups side journal) line
unfolding station_on
station_more words setups side journal line = from_more words setups side [] first_station journal line

-- ---- the lines of the other side

none_of : (side other : Side) (values : List (List ℕ)) → is_side other side ≡ false → of_side side other values ≡ []
none_of A A values apart = absurd cc
none_of A B values apart = refl
none_of B A values apart = refl
none_of B B values apart = absurd cc

pub far_accepts : (side other : Side) (front : List Entry) (octets : List ℕ) → is_side other side ≡ false → accepted_in side front (Up other octets) ≡ []
far_accepts side other front octets apart =
    ap (λ packets. flat_map (accepted_with (next_command side front)) (answer_statuses packets)) (none_of side other (octets ∷ []) apart)

pub far_line : (words : Words) (setups : Setups) (side other : Side) (front : List Entry) (station : Station) (link_of : ℕ → ℕ) (last : ℕ) (note : Note)
    → is_side other side ≡ false → station_after words setups side front station (entry_of other link_of last note) ≡ station
far_line words setups side other front station link_of last (UpNote packet) apart =
    ap (λ commands. commanded_by (setups side) (turn_now front) commands station) (far_accepts side other front packet.items apart)
far_line words setups side other front station link_of last (EnterNote handle event channel) apart =
    ap (λ own. line_if own (own_line words side (link_of handle) front (Enter other (link_of handle) event.0 channel)) station) apart
far_line words setups side other front station link_of last (OpenedNote handle role own peer) apart =
    ap (λ is_own. line_if is_own (own_line words side last front (Opened other last handle role)) station) apart
far_line words setups side other front station link_of last (ShutNote handle reason) apart =
    ap (λ own. line_if own (own_line words side (link_of handle) front (Shut other (link_of handle) reason)) station) apart
far_line words setups side other front station link_of last note apart = refl

-- ---- commands leave what none of them changes

pub commanded_leaves : {X : Type 0} (read : Station → X) (setup : Setup) (slot : ℕ)
    → ((station : Station) (command : Command) → read (commanded setup slot station command) ≡ read station)
    → (commands : List Command) (station : Station) → read (commanded_by setup slot commands station) ≡ read station
commanded_leaves read setup slot one [] station = refl
commanded_leaves read setup slot one (command ∷ commands) station =
    commanded_leaves read setup slot one commands (commanded setup slot station command) ∙ one station command

-- ---- event by event

module _ (words : Words) (setups : Setups) (side : Side) where
  abbrev pub station_at : List Event → Station
  station_at history = station_on words setups side (journal_of history)

  pub station_called : (history : List Event) (station : ℕ) (step : Step) → station_at (history ++ Called station step ∷ []) ≡ station_at history
  station_called history station step =
      ap (station_on words setups side) (journal_event history (Called station step) ∙ append-nil (journal_of history))

  pub station_fed : (history : List Event) (station : ℕ) (octets : List ℕ) → station_at (history ++ HostFed station octets ∷ []) ≡ station_at history
  station_fed history station octets =
      ap (station_on words setups side) (journal_event history (HostFed station octets))
      ∙ station_more words setups side (journal_of history) _

  pub station_noted : (history : List Event) (station : ℕ) (note : Note)
      → station_at (history ++ Noted station note ∷ [])
      ≡ station_after words setups side (journal_of history) (station_at history)
      (entry_of (side_of station) ((links_of history).link_of station) ((links_of history).last_of station) note)
  station_noted history station note =
      ap (station_on words setups side) (journal_event history (Noted station note))
      ∙ station_more words setups side (journal_of history) _

  -- a call of the other station
  pub station_far : (given : Given) (station : ℕ) (step : Step) (history : List Event) → is_side (side_of station) side ≡ false
      → station_at (after_call given station step history) ≡ station_at history
  station_far given station step history apart =
      call_keeps Station station_at (λ note. true ≡ true) station
      (λ before note any. station_noted before station note
      ∙ far_line words setups side (side_of station) (journal_of before) (station_at before) ((links_of before).link_of station) ((links_of before).last_of station) note apart)
      given step history (station_called history station step) (any_note _)
