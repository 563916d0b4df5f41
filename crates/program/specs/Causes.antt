-- What a command does, and what holds where it ends with which fault (our choice).
use Rattle.std.specs.Prelude.{◌≡◌, ℕ, List, [], slice_index_or, Option, Some, None, Result, Ok, Err, ◌⊎◌}
use Rattle.ble_base.specs.declared.Config.{Config}
use Rattle.journal.specs.declared.entries.Entry.{Entry}
use Rattle.journal.specs.Text.{text}
use Rattle.run_model.specs.Pair.{given_of, IsRun, EndsUnseen}
use Rattle.run_model.specs.Run.{Given}
use Rattle.radio_replay.specs.LoadSchedule.{load_schedule}
use Rattle.radio_replay.specs.LoadStreams.{stream_a, stream_b}
use Rattle.radio_replay.specs.Schedule.{Right, Wrong, TooMany, schedule_of, line_number}
use Rattle.radio_replay.specs.Script.{Script, Turn}
use Rattle.program.specs.declared.faults.Fault.{Fault}
use Rattle.program.specs.declared.faults.Fault.TheVariants.{BadLine, CannotWrite, NoMemory, Unseen}
use Rattle.program.specs.declared.faults.Fault.TheVariants.{TooManyTurns}
use Rattle.program.specs.declared.commands.Command.{Command}
use Rattle.program.specs.declared.commands.Command.TheVariants.{Make, Pair}
use Rattle.program.specs.Claims.{Claims, HaveSixOctets, Told}
use Rattle.program.specs.Commands.{files_of, schedule_place}
use Rattle.program.specs.Reading.{IsReadFault, OfRead}
use Rattle.program.specs.Status.{Outcome, Done, NoCommand, Failed}
use Rattle.program.specs.World.{Writes, World, HaveWritesFailed, HasWritten, HasWrittenPart, HasWrittenNothing}

-- ---- journals

abbrev pub journal_text : Told
journal_text script journal = text journal

-- a fact of what is written of some journal of this kind: a journal of these streams and of this schedule's text, which
-- has no line at fault, with what is claimed of each journal
pub record OfJournal (claims : Claims) (told : Told) (is_journal : Script → Given → List Entry → Type 0) (fact : List ℕ → Type 0)
    (a b schedule : List ℕ) : Type 0 where
  pub config_a : Config
  pub config_b : Config
  pub turns : List Turn
  pub journal : List Entry
  pub no_fault : schedule_of schedule ≡ Right config_a config_b turns
  pub is_of_kind : is_journal (record { a = config_a; b = config_b; turns = turns })
      (given_of a b (record { a = config_a; b = config_b; turns = turns })) journal
  pub claimed : claims.each a b (record { a = config_a; b = config_b; turns = turns }) journal
  pub holds : fact (told (record { a = config_a; b = config_b; turns = turns }) journal)

-- the journal of the whole run
pub record IsWholeRun (claims : Claims) (script : Script) (given : Given) (journal : List Entry) : Type 0 where
  pub is_run : IsRun given journal
  pub claimed : claims.whole script journal

-- a fact of the text of the journal of the whole run
abbrev pub OfRun : Claims → (List ℕ → Type 0) → List ℕ → List ℕ → List ℕ → Type 0
OfRun claims fact a b schedule = OfJournal claims journal_text (IsWholeRun claims) fact a b schedule

-- the journal of a run that ends because damage to this packet would be judged good
pub record IsUnseenRun (claims : Claims) (turn packet : ℕ) (sent heard : List ℕ) (script : Script) (given : Given)
    (journal : List Entry) : Type 0 where
  pub ends : EndsUnseen given turn packet sent heard journal
  pub claimed : claims.ended script turn packet sent heard journal

-- a fact of the text of the journal of such a run
abbrev pub OfUnseen : Claims → ℕ → ℕ → List ℕ → List ℕ → (List ℕ → Type 0) → List ℕ → List ℕ → List ℕ → Type 0
OfUnseen claims turn packet sent heard fact a b schedule =
    OfJournal claims journal_text (IsUnseenRun claims turn packet sent heard) fact a b schedule

-- the journal of a run, whole or ended by damage that would be judged good
abbrev pub IsEnded : Claims → Script → Given → List Entry → Type 0
IsEnded claims script given journal = IsRun given journal
    ⊎ ((turn : ℕ) × (packet : ℕ) × (sent : List ℕ) × (heard : List ℕ)
    × IsUnseenRun claims turn packet sent heard script given journal)

-- a fact of the text of the journal of either run
abbrev pub OfEnded : Claims → (List ℕ → Type 0) → List ℕ → List ℕ → List ℕ → Type 0
OfEnded claims fact a b schedule = OfJournal claims journal_text (IsEnded claims) fact a b schedule

-- a fact of the line on the whole run of the load of a number
abbrev pub OfLoad : Claims → (List ℕ → Type 0) → ℕ → Type 0
OfLoad claims fact number =
    OfJournal claims (claims.line_on number) (IsWholeRun claims) fact (stream_a number) (stream_b number)
    (load_schedule number)

-- ---- faults

-- the first line outside the grammar, as a fault carries its number
abbrev pub IsFirstBadLine : ℕ → List ℕ → Type 0
IsFirstBadLine number schedule = (line : ℕ) × (schedule_of schedule ≡ Wrong line) × (number ≡ line_number line)

-- the first line with which there are too many turns, as a fault carries its number
abbrev pub IsFirstLongLine : ℕ → List ℕ → Type 0
IsFirstLongLine number schedule = (line : ℕ) × (schedule_of schedule ≡ TooMany line) × (number ≡ line_number line)

-- what holds where a text was not written whole
abbrev pub IsWriteFault : Writes → List ℕ → Fault → Type 0
IsWriteFault writes octets CannotWrite = HaveWritesFailed writes × HasWrittenPart writes octets
IsWriteFault writes octets NoMemory = HasWrittenPart writes octets
IsWriteFault writes octets _ = ⊥

-- what holds where the text of the schedule at this place was not read
abbrev pub IsScheduleFault : ℕ → List ℕ → Fault → Type 0
IsScheduleFault place schedule (BadLine other number) = (other ≡ place) × IsFirstBadLine number schedule
IsScheduleFault place schedule (TooManyTurns other number) = (other ≡ place) × IsFirstLongLine number schedule
IsScheduleFault place schedule NoMemory = Unit {0}
IsScheduleFault place schedule _ = ⊥

-- a run left this journal, and this fault to report after it, if there is one
abbrev pub IsEndOf : Given → List Entry → Option Fault → Type 0
IsEndOf given journal None = IsRun given journal
IsEndOf given journal (Some (Unseen turn packet sent heard)) = EndsUnseen given turn packet sent heard journal
IsEndOf given journal (Some _) = ⊥

-- the outcome of writing this text, with this fault to report after it, if there is one
abbrev pub IsWrittenEnd : Writes → List ℕ → Option Fault → Result (Unit {0}) Fault → Type 0
IsWrittenEnd writes octets fault (Ok done) = (fault ≡ None) × HasWritten writes octets
IsWrittenEnd writes octets fault (Err cause) =
    ((fault ≡ Some cause) × HasWritten writes octets) ⊎ IsWriteFault writes octets cause

-- what holds where a run of these streams and of this schedule's text did not end well, or its journal was not
-- written whole
abbrev pub IsPairFault : Claims → Writes → Fault → List ℕ → List ℕ → List ℕ → Type 0
IsPairFault claims writes (BadLine place number) a b schedule =
    (place ≡ schedule_place) × IsFirstBadLine number schedule × HasWrittenNothing writes
IsPairFault claims writes (TooManyTurns place number) a b schedule =
    (place ≡ schedule_place) × IsFirstLongLine number schedule × HasWrittenNothing writes
IsPairFault claims writes CannotWrite a b schedule =
    HaveWritesFailed writes × OfEnded claims (HasWrittenPart writes) a b schedule
IsPairFault claims writes NoMemory a b schedule =
    HasWrittenNothing writes ⊎ OfEnded claims (HasWrittenPart writes) a b schedule
IsPairFault claims writes (Unseen turn packet sent heard) a b schedule =
    OfUnseen claims turn packet sent heard (HasWritten writes) a b schedule
IsPairFault claims writes _ a b schedule = ⊥

-- what holds where the load of a number was not run, or the line on its run was not written whole
abbrev pub IsMakeFault : Claims → Writes → ℕ → Fault → Type 0
IsMakeFault claims writes number CannotWrite =
    HaveWritesFailed writes × OfLoad claims (HasWrittenPart writes) number
IsMakeFault claims writes number NoMemory = HasWrittenNothing writes ⊎ OfLoad claims (HasWrittenPart writes) number
IsMakeFault claims writes number _ = ⊥

-- ---- the load of a number

-- the whole run of the load of a number, by the schedule that was read of it
pub record IsLoadRun (number : ℕ) (script : Script) (journal : List Entry) : Type 0 where
  pub read : schedule_of (load_schedule number) ≡ Right script.a script.b script.turns
  pub run : IsRun (given_of (stream_a number) (stream_b number) script) journal
  pub six : HaveSixOctets script

-- ---- commands

-- a fact of the octets of the three files of `pair`
abbrev pub OfPair : (List ℕ → List ℕ → List ℕ → Type 0) → List (List ℕ) → Type 0
OfPair fact contents = fact (slice_index_or contents 0 []) (slice_index_or contents 1 []) (slice_index_or contents 2 [])

-- the work of a command over the octets of its files is done
abbrev pub IsWorkDone : Claims → Command → Writes → List (List ℕ) → Type 0
IsWorkDone claims (Pair names) writes contents = OfPair (OfRun claims (HasWritten writes)) contents
IsWorkDone claims (Make number) writes contents = OfLoad claims (HasWritten writes) number

-- what holds where the work of a command over the octets of its files ends with a fault
abbrev pub IsWorkFault : Claims → Command → Writes → Fault → List (List ℕ) → Type 0
IsWorkFault claims (Pair names) writes fault contents = OfPair (IsPairFault claims writes fault) contents
IsWorkFault claims (Make number) writes fault contents = IsMakeFault claims writes number fault

-- a command has read its files and done its work
abbrev pub IsPerformed : Claims → Command → World → Type 0
IsPerformed claims command world = OfRead world.reads (files_of command) (IsWorkDone claims command world.writes)

-- what holds where a command ends with a fault: some of its files was not read, and nothing was written; or all were,
-- and its work over their octets ends with that fault
abbrev pub IsNotPerformed : Claims → Command → World → Fault → Type 0
IsNotPerformed claims command world fault =
    (IsReadFault world.reads (files_of command) fault × HasWrittenNothing world.writes)
    ⊎ OfRead world.reads (files_of command) (IsWorkFault claims command world.writes fault)

-- what holds where a call that gives this command, or none, ends so
abbrev pub HasCause : Claims → Option Command → World → Outcome → Type 0
HasCause claims (Some command) world Done = IsPerformed claims command world
HasCause claims (Some command) world (Failed fault) = IsNotPerformed claims command world fault
HasCause claims (Some command) world NoCommand = ⊥
HasCause claims None world Done = ⊥
HasCause claims None world (Failed fault) = ⊥
HasCause claims None world NoCommand = HasWrittenNothing world.writes
