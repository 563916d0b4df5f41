-- Which event an entry of a journal is of (our choice).
use Rattle.std.specs.Prelude.{◌≡◌, ℕ, List, [], ◌∷◌, ◌++◌, length, take}
use Rattle.ble_base.specs.declared.roles.Side.{Side}
use Rattle.ble_base.specs.declared.verdicts.Verdict.{Verdict}
use Rattle.ble_base.specs.declared.verdicts.Verdict.TheVariants.{Good}
use Rattle.journal.specs.declared.entries.Entry.{Entry}
use Rattle.journal.specs.declared.entries.Mark.{Mark}
use Rattle.radio_replay.specs.Damage.{damaged_packet}
use Rattle.controller_model.specs.Side.{notes_of}
use Rattle.run_model.specs.History.{Event, TurnBegan, Transmitted, Hearing, past_of}
use Rattle.run_model.specs.Links.{links_of}
use Rattle.run_model.specs.Journal.{entries_of, journal_of, mark_of, side_of}
use Rattle.run_model.specs.Run.{Given, history_of, run_of, setup_at}
use Rattle.run_model.specs.Due.{IsPacketDue, octets_called}
use Rattle.run_model.specs.Feeding.{feed_total}
use Rattle.run_model.specs.Readers.{fed_to_side, packets_of, packets_to_host, station_of, turns_of}

-- this entry, which stands after these, is that of an event of the history, and these are the journal up to there
pub record IsOfEvent (history : List Event) (front : List Entry) (entry : Entry) : Type 0 where
  pub before : List Event
  pub event : Event
  pub after : List Event
  pub is_at : history ≡ before ++ event ∷ after
  pub front_is : front ≡ journal_of before
  pub entry_is : entries_of (links_of before) event ≡ entry ∷ []

-- an entry of a packet that stands after these: the packet is due there, the fate and the verdict are those of the
-- other side, and what is judged good was not changed
pub record IsAired (given : Given) (front : List Entry) (side : Side) (channel : ℕ) (octets : List ℕ) (fate : Mark)
    (verdict : Verdict) : Type 0 where
  pub before : List Event
  pub front_is : front ≡ journal_of before
  pub station : ℕ
  pub side_is : side ≡ side_of station
  pub hearing : Hearing
  pub others : List Hearing
  pub after : List Event
  pub is_at : history_of (run_of given) ≡ before ++ Transmitted station channel octets (hearing ∷ others) ∷ after
  pub is_due : IsPacketDue given before station channel octets (hearing ∷ others)
  pub fate_is : fate ≡ mark_of hearing.fate
  pub verdict_is : verdict ≡ hearing.verdict
  pub unchanged : verdict ≡ Good → damaged_packet hearing.fate octets ≡ octets

-- no turn goes on: the next one begins, or nothing comes
abbrev pub IsBetweenTurns : List Event → Type 0
IsBetweenTurns [] = Unit {0}
IsBetweenTurns (TurnBegan slot radios ∷ rest) = Unit {0}
IsBetweenTurns (event ∷ rest) = ⊥

-- the events of a run up to a place between two turns, of which these are the journal. There is one such place at the
-- most for a journal
pub record IsHistoryBefore (given : Given) (front : List Entry) (before : List Event) : Type 0 where
  pub after : List Event
  pub is_at : history_of (run_of given) ≡ before ++ after
  pub between : IsBetweenTurns after
  pub front_is : front ≡ journal_of before

-- where a turn is over: each side was fed what the turns that began feed it, up to the end of its stream, its
-- controller took all of that, and its host received what the calls on its controller give
pub record IsUpToDate (given : Given) (front : List Entry) : Type 0 where
  pub before : List Event
  pub of_run : IsHistoryBefore given front before
  pub fed_is : (side : Side) → fed_to_side side front
      ≡ take (feed_total (station_of side) (take (length (turns_of front)) given.plans))
      (given.station_of (station_of side)).stream
  pub taken_is : (side : Side) → octets_called (station_of side) before ≡ fed_to_side side front
  pub received_is : (side : Side) → packets_to_host side front
      ≡ packets_of (notes_of (setup_at given (station_of side)) (past_of (station_of side) before))
