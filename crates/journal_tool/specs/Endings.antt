-- The statuses of a program that makes a file of a journal, and the line that it writes with each (our choice).
use Rattle.std.specs.Prelude.{◌≡◌, ℕ, List, [], ◌∷◌, ◌++◌, codes, decimal, Option, Some, None}
use Rattle.journal.specs.declared.entries.Entry.{Entry}
use Rattle.journal_tool.specs.declared.faults.Fault.{Fault}
use Rattle.journal_tool.specs.declared.faults.Fault.TheVariants.{CannotRead, BadLine, CannotWrite, NoMemory, TooLong}
use Rattle.journal_tool.specs.Causes.{Seen, IsDone, IsCause, HasWrittenNothing}

-- how a call of the program ends
pub data Outcome : Type 0 where
  -- the whole output was written
  Done : Outcome
  -- the words are not one word
  NoName : Outcome
  -- it was not written whole
  Failed : Fault → Outcome

-- the exit status of a fault
abbrev pub status_of : Fault → ℕ
status_of CannotRead = 2
status_of (BadLine line) = 3
status_of CannotWrite = 4
status_of NoMemory = 5
status_of TooLong = 7

-- the exit status of a call
abbrev pub exit_status : Outcome → ℕ
exit_status Done = 0
exit_status NoName = 1
exit_status (Failed fault) = status_of fault

-- the text on a fault, where the file has this name
abbrev pub fault_text : List ℕ → Fault → List ℕ
fault_text name CannotRead = codes "cannot read " ++ name
fault_text name (BadLine line) = codes "journal line " ++ decimal line
fault_text name CannotWrite = codes "cannot write"
fault_text name NoMemory = codes "no memory"
fault_text name TooLong = codes "too long: " ++ name

-- that text with its newline
abbrev pub fault_line : List ℕ → Fault → List ℕ
fault_line name fault = fault_text name fault ++ 10 ∷ []

-- the line where the words are not one word
abbrev pub usage_line : List ℕ → List ℕ
usage_line program = codes "usage: " ++ program ++ codes " JOURNAL\n"

-- the one word of the words after the program's name
abbrev pub only_word : List (List ℕ) → Option (List ℕ)
only_word (word ∷ []) = Some word
only_word words = None

-- the name of the file, or no octets where none is given
abbrev pub name_in : Option (List ℕ) → List ℕ
name_in (Some name) = name
name_in None = []

-- what is written to the error stream at the end: nothing, or one line
abbrev pub last_words : List ℕ → List ℕ → Outcome → List ℕ
last_words program name Done = []
last_words program name NoName = usage_line program
last_words program name (Failed fault) = fault_line name fault

-- what holds where a call that gives this name, or none, ends so
abbrev pub HasCause : (List Entry → List ℕ) → Option (List ℕ) → Seen → Outcome → Type 0
HasCause output (Some name) seen Done = IsDone output seen
HasCause output (Some name) seen (Failed fault) = IsCause output seen fault
HasCause output (Some name) seen NoName = ⊥
HasCause output None seen NoName = HasWrittenNothing seen
HasCause output None seen outcome = ⊥

-- the ending of a call of this program with this name, or none, which saw this, wrote this to the error stream and gave
-- this status
pub record IsEnding (output : List Entry → List ℕ) (program : List ℕ) (name : Option (List ℕ)) (seen : Seen)
    (says : List ℕ → Type 0) (status : ℕ) : Type 0 where
  pub outcome : Outcome
  pub is_status : status ≡ exit_status outcome
  -- out of memory alone has no cause in the words, the file and the output
  pub has_cause : HasCause output name seen outcome
  -- the line of the outcome was written, or a prefix of it
  pub is_said : says (last_words program (name_in name) outcome)
