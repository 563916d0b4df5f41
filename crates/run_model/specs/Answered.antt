-- What the host of a side has received where a turn is over (our choice).
use Rattle.std.specs.Prelude.{◌≡◌, ℕ, not, Bool, List, filter, flat_map, map}
use Rattle.ble_base.specs.declared.roles.Side.{Side}
use Rattle.journal.specs.declared.entries.Entry.{Entry}
use Rattle.h4_frames.specs.Frames.{frames}
use Rattle.controller_model.specs.Host.{HeardNothing, commands_of, opcodes_in, opcodes_of, with_answer}
use Rattle.controller_model.specs.Notes.{HadNoLink, answers_in, answers_of, as_two_octets, is_event, one_further}
use Rattle.run_model.specs.History.{Event, past_of}
use Rattle.run_model.specs.Entries.{IsHistoryBefore}
use Rattle.run_model.specs.Run.{Given, setup_at}
use Rattle.run_model.specs.Readers.{fed_to_side, packets_of, packets_to_host, station_of}

-- the packets to a host that are no LE events (Core 5.2, volume 4 part E, section 7.7.65)
abbrev pub without_le_packets : List (List ℕ) → List (List ℕ)
without_le_packets packets = filter (λ packet. not (is_event 0x3E packet)) packets

-- the answers to the packets in the octets that a side was fed, in order, as if no turn came between them
abbrev pub answers_to : Given → Side → List Entry → List (List ℕ)
answers_to given side journal =
    packets_of (answers_of (setup_at given (station_of side)) (frames (fed_to_side side journal)))

-- the commands that the controller of a side took, in order: their opcodes, and whether each has an answer
abbrev pub commands_at : Given → Side → List Event → List (ℕ × Bool)
commands_at given side history = commands_of (setup_at given (station_of side)) (past_of (station_of side) history)

-- by the events of the run up to there, the host of a side has received the answers to its packets, in order: nothing else while its side heard nothing, and
-- only LE events between them while it had no link. In any case its commands are those in the octets that it sent, and
-- each that has an answer has one, which names it, in their order
pub record IsAnswered (given : Given) (journal : List Entry) (side : Side) : Type 0 where
  pub history : List Event
  pub of_run : IsHistoryBefore given journal history
  pub alone : HeardNothing (past_of (station_of side) history)
      → packets_to_host side journal ≡ answers_to given side journal
  pub beside : HadNoLink (setup_at given (station_of side)) (past_of (station_of side) history)
      → without_le_packets (packets_to_host side journal) ≡ without_le_packets (answers_to given side journal)
  pub commands_are : opcodes_of (commands_at given side history) ≡ opcodes_in (frames (fed_to_side side journal))
  pub each_once : flat_map answers_in (packets_to_host side journal)
      ≡ map one_further (map as_two_octets (opcodes_of (with_answer (commands_at given side history))))
