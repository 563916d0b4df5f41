-- The note that a line of a journal says, the call in which it was noted, and the link that a line names (our choice).
use Rattle.std.specs.Prelude.{◌≡◌, ℕ, Bool, true, false, List, ◌∷◌, ◌++◌, map, Option, Some, None}
use Rattle.ble_base.specs.declared.error_codes.ErrCode.{ErrCode}
use Rattle.ble_base.specs.declared.notes.Note.{Note}
use Rattle.ble_base.specs.declared.notes.Note.TheVariants.{Shut as ShutNote, Sent as SentNote, Took as TookNote, Enter as EnterNote, Applied as AppliedNote, Began as BeganNote, Refused as RefusedNote, Done as DoneNote}
use Rattle.ble_base.specs.declared.procedure_kinds.Kind.{Kind}
use Rattle.ble_base.specs.declared.roles.Side.{Side}
use Rattle.journal.specs.declared.entries.Entry.{Entry}
use Rattle.journal.specs.declared.entries.Entry.TheVariants.{Turn, Fed, Air, Shut, Sent, Took, Enter, Applied, Began, Refused, Done}
use Rattle.controller_model.specs.Side.{notes_after}
use Rattle.controller_model.specs.Step.{Step}
use Rattle.run_model.specs.History.{Event, Called, Noted}
use Rattle.run_model.specs.Journal.{entry_of, journal_of, side_of}
use Rattle.run_model.specs.Links.{links_of}
use Rattle.run_model.specs.NotedCalls.{IsNotedInCall}
use Rattle.run_model.specs.Run.{Given, facts_at, history_of, run_of, setup_at}

-- ---- notes

-- each line is that of a note, but for those of turns, of what is fed and of packets on the air
abbrev pub is_note_line : Entry → Bool
is_note_line (Turn slot a b) = false
is_note_line (Fed side octets) = false
is_note_line (Air side channel octets fate verdict) = false
is_note_line entry = true

-- this line, which stands after these, is that of a note which a call gives
pub record IsNoteLine (given : Given) (front : List Entry) (entry : Entry) : Type 0 where
  pub station : ℕ
  pub note : Note
  pub before : List Event
  pub after : List Event
  pub is_at : history_of (run_of given) ≡ before ++ Noted station note ∷ after
  pub front_is : front ≡ journal_of before
  pub entry_is : entry_of (side_of station) ((links_of before).link_of station) ((links_of before).last_of station) note
      ≡ entry
  pub call : IsNotedInCall given before station note

-- ---- links

-- what a line says of a link that is open: of which side and which link it is, and the note of it under a handle
pub record LinkLine : Type 0 where
  pub side : Side
  pub number : ℕ
  pub note : ℕ → Note

abbrev pub shut_line : Side → ℕ → ErrCode → LinkLine
shut_line side link reason = record { side = side; number = link; note = λ handle. ShutNote handle reason }

abbrev pub sent_line : Side → (link number llid : ℕ) → List ℕ → LinkLine
sent_line side link number llid body =
    record { side = side; number = link; note = λ handle. SentNote handle number llid (record { items = body }) }

abbrev pub took_line : Side → (link number llid : ℕ) → List ℕ → LinkLine
took_line side link number llid body =
    record { side = side; number = link; note = λ handle. TookNote handle number llid (record { items = body }) }

abbrev pub enter_line : Side → (link event channel : ℕ) → LinkLine
enter_line side link event channel =
    record { side = side; number = link; note = λ handle. EnterNote handle (record { 0 = event }) channel }

abbrev pub applied_line : Side → (link number event : ℕ) → LinkLine
applied_line side link number event =
    record { side = side; number = link; note = λ handle. AppliedNote handle number (record { 0 = event }) }

abbrev pub began_line : Side → ℕ → Kind → LinkLine
began_line side link kind = record { side = side; number = link; note = λ handle. BeganNote handle kind }

abbrev pub refused_line : Side → ℕ → Kind → ErrCode → LinkLine
refused_line side link kind code = record { side = side; number = link; note = λ handle. RefusedNote handle kind code }

abbrev pub done_line : Side → ℕ → Kind → LinkLine
done_line side link kind = record { side = side; number = link; note = λ handle. DoneNote handle kind }

-- the line of a link that is opened says nothing of the addresses, and so is none of these
abbrev pub link_line : Entry → Option LinkLine
link_line (Shut side link reason) = Some (shut_line side link reason)
link_line (Sent side link number llid body) = Some (sent_line side link number llid body)
link_line (Took side link number llid body) = Some (took_line side link number llid body)
link_line (Enter side link event channel) = Some (enter_line side link event channel)
link_line (Applied side link number event) = Some (applied_line side link number event)
link_line (Began side link kind) = Some (began_line side link kind)
link_line (Refused side link kind code) = Some (refused_line side link kind code)
link_line (Done side link kind) = Some (done_line side link kind)
link_line entry = None

-- a line of a link, which stands after these, is that of a note which a call gives: between the call and the note there
-- are only the notes that the call gives before it, and the station of the call has that link under the handle
pub record IsLineInCall (given : Given) (front : List Entry) (line : LinkLine) : Type 0 where
  pub station : ℕ
  pub handle : ℕ
  pub step : Step
  pub base : List Event
  pub earlier : List Note
  pub later : List Note
  pub after : List Event
  pub called : history_of (run_of given) ≡ base ++ Called station step ∷ after
  pub notes_are : notes_after (setup_at given station) (facts_at given station base) step
      ≡ earlier ++ line.note handle ∷ later
  pub before : List Event
  pub rest : List Event
  pub is_at : history_of (run_of given) ≡ before ++ Noted station (line.note handle) ∷ rest
  pub before_is : before ≡ base ++ Called station step ∷ map (Noted station) earlier
  pub front_is : front ≡ journal_of before
  pub side_is : side_of station ≡ line.side
  pub number_is : (links_of before).link_of station handle ≡ line.number
