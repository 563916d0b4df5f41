-- Why a program that makes a file of a journal fails, and what it has written then (our choice).
use Rattle.std.specs.Prelude.{◌≡◌, ℕ, ◌<◌, ◌≤◌, List, [], length, Option, ◌⊎◌}
use Rattle.journal.specs.declared.entries.Entry.{Entry}
use Rattle.journal.specs.declared.faults.JournalFault.{JournalFault}
use Rattle.journal.specs.declared.faults.JournalFault.TheVariants.{BadLine as OutsideGrammar, Memory as NoRoomForEntries}
use Rattle.journal.specs.Division.{AreLinesOf, IsFirstBadLine}
use Rattle.outside.specs.declared.files.FileFault.{FileFault}
use Rattle.outside.specs.declared.files.FileFault.TheVariants.{Failed as ReadFailed, TooLong as FileTooLong}
use Rattle.outside.specs.declared.files.FileFault.TheVariants.{Memory as NoRoomForFile}
use Rattle.outside.specs.declared.sink.SinkFault.{SinkFault}
use Rattle.outside.specs.declared.sink.SinkFault.TheVariants.{Failed as WriteFailed, Memory as NoRoomForOutput}
use Rattle.outside.specs.Growth.{HasGrownBy, HasGrownByPrefix}
use Rattle.outside.specs.Known.{WhereKnown}
use Rattle.journal_tool.specs.declared.faults.Fault.{Fault}
use Rattle.journal_tool.specs.declared.faults.Fault.TheVariants.{CannotRead, BadLine, CannotWrite, NoMemory, TooLong}
use Rattle.journal_tool.specs.Writing.{HasFailed}

-- ---- the fault of the program that a fault of one of its parts becomes

abbrev pub fault_of_file : FileFault → Fault
fault_of_file ReadFailed = CannotRead
fault_of_file FileTooLong = TooLong
fault_of_file NoRoomForFile = NoMemory

abbrev pub fault_of_journal : JournalFault → Fault
fault_of_journal (OutsideGrammar line) = BadLine line
fault_of_journal NoRoomForEntries = NoMemory

abbrev pub fault_of_sink : SinkFault → Fault
fault_of_sink WriteFailed = CannotWrite
fault_of_sink NoRoomForOutput = NoMemory

-- ---- the text of a journal

-- the most octets in the text of a journal: 128 MiB (our choice)
abbrev pub file_limit : ℕ
file_limit = 134217728

-- a text is within the limit, and is the lines of these entries
pub record IsTextOf (entries : List Entry) (content : List ℕ) : Type 0 where
  pub lines : AreLinesOf content entries []
  pub fits : length content ≤ file_limit

-- a text is within the limit, and this line of it is the first that is not the line of an entry
pub record HasBadLine (number : ℕ) (content : List ℕ) : Type 0 where
  pub bad : IsFirstBadLine number content
  pub fits : length content ≤ file_limit

-- a text is over the limit
abbrev pub IsOverLimit : List ℕ → Type 0
IsOverLimit content = file_limit < length content

-- ---- what a call sees

-- what is seen of the file and of the output, before the call and after it
pub record Seen : Type 1 where
  -- what the file holds, where it is known
  pub content : Option (List ℕ)
  -- reads of it have failed
  pub have_reads_failed : Type 0
  -- writes to the output have failed
  pub have_writes_failed : Type 0
  -- what was written to the output before the call, and what is written now, where it is known
  pub written_before : Option (List ℕ)
  pub written_now : Option (List ℕ)

-- what is seen of the file of this name and of the output, from the members of `Files` and `Sink`
abbrev pub seen_of : {Files Sink : Type 0} → (Files → List ℕ → Option (List ℕ)) → (Files → List ℕ → ℕ)
    → (Files → List ℕ → Type 0) → Files → Files → List ℕ
    → (Sink → Option (List ℕ)) → (Sink → ℕ) → (Sink → Type 0) → Sink → Sink → Seen
seen_of content read_faults is_safe files files_now name written write_faults is_reliable out out_now = record {
  content = content files name;
  have_reads_failed = HasFailed (is_safe files name) (read_faults files name) (read_faults files_now name);
  have_writes_failed = HasFailed (is_reliable out) (write_faults out) (write_faults out_now);
  written_before = written out;
  written_now = written out_now;
}

abbrev pub HasWritten : Seen → List ℕ → Type 0
HasWritten seen octets = HasGrownBy seen.written_before seen.written_now octets

abbrev pub HasWrittenPart : Seen → List ℕ → Type 0
HasWrittenPart seen octets = HasGrownByPrefix seen.written_before seen.written_now octets

abbrev pub HasWrittenNothing : Seen → Type 0
HasWrittenNothing seen = seen.written_now ≡ seen.written_before

-- ---- causes

-- a fact of what is made of the journal with this text
pub record OfOutput (output : List Entry → List ℕ) (fact : List ℕ → Type 0) (content : List ℕ) : Type 0 where
  pub entries : List Entry
  pub text : IsTextOf entries content
  pub holds : fact (output entries)

-- why a text is not that of a journal; an allocation may fail, of which no clause speaks
abbrev pub IsTextFault : List ℕ → Fault → Type 0
IsTextFault content (BadLine line) = HasBadLine line content
IsTextFault content NoMemory = Unit {0}
IsTextFault content _ = ⊥

-- why the journal was not read: reads of the file have failed; or it has a bad line or is over the limit, where its
-- content is known
abbrev pub IsReadFault : Option (List ℕ) → Type 0 → Fault → Type 0
IsReadFault content have_failed CannotRead = have_failed
IsReadFault content have_failed (BadLine line) = WhereKnown content (HasBadLine line)
IsReadFault content have_failed TooLong = WhereKnown content IsOverLimit
IsReadFault content have_failed NoMemory = Unit {0}
IsReadFault content have_failed CannotWrite = ⊥

-- the whole output was written
abbrev pub IsDone : (List Entry → List ℕ) → Seen → Type 0
IsDone output seen = WhereKnown seen.content (OfOutput output (HasWritten seen))

-- a prefix of the output was written
abbrev pub IsPartDone : (List Entry → List ℕ) → Seen → Type 0
IsPartDone output seen = WhereKnown seen.content (OfOutput output (HasWrittenPart seen))

-- what holds where the program fails
abbrev pub IsCause : (List Entry → List ℕ) → Seen → Fault → Type 0
IsCause output seen CannotWrite = seen.have_writes_failed × IsPartDone output seen
IsCause output seen NoMemory = HasWrittenNothing seen ⊎ IsPartDone output seen
IsCause output seen fault = IsReadFault seen.content seen.have_reads_failed fault × HasWrittenNothing seen
