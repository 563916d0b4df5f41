-- What the host of a side is answered: each of its commands once, in the turn in which it is complete (Core 5.2, volume 4
-- part E, sections 4.4, 7.7.14 and 7.7.15; that the answer comes in that turn is our choice).
use Rattle.std.specs.Prelude.{◌≡◌, ℕ, Bool, false, List, ◌∷◌, ◌++◌, flat_map, map, Option}
use Rattle.std.specs.List.{All}
use Rattle.ble_base.specs.declared.roles.Side.{Side}
use Rattle.h4_frames.specs.Frames.{frames}
use Rattle.journal.specs.declared.entries.Entry.{Entry}
use Rattle.journal.specs.declared.entries.Entry.TheVariants.{Turn}
use Rattle.journal_data.specs.controller_model.Host.{opcodes_in, opcodes_of, with_answer}
use Rattle.journal_data.specs.controller_model.Notes.{answers_in, as_two_octets, one_further}
use Rattle.run_model.specs.Readers.{fed_to_side, packets_to_host}

-- the commands in the octets that a side was fed, in order: the opcode of each, as two octets hold it
abbrev pub commands_fed : Side → List Entry → List ℕ
commands_fed side front = map as_two_octets (opcodes_in (frames (fed_to_side side front)))

-- the answers that its host received, in order: how many further commands it may send, and the opcode that each names
abbrev pub answers_received : Side → List Entry → List (ℕ × ℕ)
answers_received side front = flat_map answers_in (packets_to_host side front)

-- each command has one answer, which names it, in their order
pub record AreAnswered (commands : List ℕ) (answers : List (ℕ × ℕ)) : Type 0 where
  -- the commands, each with whether it has an answer
  pub marked : List (ℕ × Bool)
  pub commands_are : opcodes_of marked ≡ commands
  -- only Host Number Of Completed Packets may have none (section 7.3.40)
  pub unanswered : All (λ (one : ℕ × Bool). one.1 ≡ false → one.0 ≡ 0x0C35) marked
  pub answers_are : answers ≡ map one_further (opcodes_of (with_answer marked))

abbrev pub IsAnsweredBy : List Entry → Side → Type 0
IsAnsweredBy front side = AreAnswered (commands_fed side front) (answers_received side front)

-- so it is before each turn, and at the end
pub record AllAreAnswered (journal : List Entry) : Type 0 where
  pub each_turn : (front rest : List Entry) (slot : ℕ) (a_on : Bool) (b_on : Option Bool)
      → journal ≡ front ++ Turn slot a_on b_on ∷ rest → (side : Side) → IsAnsweredBy front side
  pub at_end : (side : Side) → IsAnsweredBy journal side
