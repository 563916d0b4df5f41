-- The statuses of the program, and the line that each writes to the error stream (our choice).
use Rattle.std.specs.Prelude.{ℕ, List, [], ◌∷◌, ◌++◌, codes, decimal}
use Rattle.journal.specs.Words.{hexadecimal}
use Rattle.program.specs.declared.faults.Fault.{Fault}
use Rattle.program.specs.declared.faults.Fault.TheVariants.{CannotRead, BadLine, CannotWrite, NoMemory, Unseen}
use Rattle.program.specs.declared.faults.Fault.TheVariants.{TooLong, TooManyTurns}
use Rattle.program.specs.Commands.{name_at, word_at}
use Rattle.program.specs.FileRow.{FileRow}

-- how a call of the program ends
pub data Outcome : Type 0 where
  -- a command did its work
  Done : Outcome
  -- the words are not a command
  NoCommand : Outcome
  -- a command did not do its work
  Failed : Fault → Outcome

-- the exit status of a fault
abbrev pub status_of : Fault → ℕ
status_of (CannotRead place) = 2
status_of (BadLine place line) = 3
status_of CannotWrite = 4
status_of NoMemory = 5
status_of (Unseen turn packet sent heard) = 6
status_of (TooLong place) = 7
status_of (TooManyTurns place line) = 7

-- the exit status of a call
abbrev pub exit_status : Outcome → ℕ
exit_status Done = 0
exit_status NoCommand = 1
exit_status (Failed fault) = status_of fault

-- the text on damage that would be judged good: the turn, the place of the packet in it, counted from 1, and its octets
abbrev pub unseen_text : ℕ → ℕ → List ℕ → List ℕ → List ℕ
unseen_text turn packet sent heard =
    (codes "unseen damage: turn " ++ decimal turn) ++ (codes " packet " ++ decimal packet)
    ++ (codes " sent " ++ hexadecimal sent) ++ (codes " heard " ++ hexadecimal heard)

-- the text on a line of a file
abbrev pub line_text : List ℕ → ℕ → List ℕ
line_text word line = word ++ codes " line " ++ decimal line

-- the text on a fault, where these are the files of the command
abbrev pub fault_text : List FileRow → Fault → List ℕ
fault_text files (CannotRead place) = codes "cannot read " ++ name_at files place
fault_text files (BadLine place line) = line_text (word_at files place) line
fault_text files CannotWrite = codes "cannot write"
fault_text files NoMemory = codes "no memory"
fault_text files (Unseen turn packet sent heard) = unseen_text turn packet sent heard
fault_text files (TooLong place) = codes "too long: " ++ name_at files place
fault_text files (TooManyTurns place line) = codes "too long: " ++ line_text (word_at files place) line

-- that text with its newline
abbrev pub fault_line : List FileRow → Fault → List ℕ
fault_line files fault = fault_text files fault ++ 10 ∷ []

-- the line where the words are not a command
abbrev pub usage_line : List ℕ
usage_line = codes "usage: ble pair A B SCHEDULE, ble make NUMBER, ble solo HOST AIR\n"

-- what a call writes to the error stream at its end: nothing, or one line
abbrev pub last_words : List FileRow → Outcome → List ℕ
last_words files Done = []
last_words files NoCommand = usage_line
last_words files (Failed fault) = fault_line files fault
