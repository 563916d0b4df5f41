-- A fault of a part is a fault of the whole.
use Rattle.std.proofs.Common.{◌≡◌, ℕ, ◌≤◌, List, ◌++◌, Option, Some, None, Result, Ok, Err, refl, sym, subst, inl, inr}
use Rattle.std.specs.Prelude.{OnOk, IfOk, IfErr}
use Rattle.std.specs.Result.{IsErrAnd}
use Rattle.journal.specs.declared.entries.Entry.{Entry}
use Rattle.journal.specs.Text.{text}
use Rattle.pair_world.specs.Faults.{IsRunFault}
use Rattle.run_model.specs.Pair.{given_of, IsRun}
use Rattle.run_model.specs.Run.{Given}
use Rattle.pair_world.specs.declared.run.RunFault.{RunFault}
use Rattle.pair_world.specs.declared.run.RunFault.TheVariants.{Unseen as EndedUnseen, Memory as NoRoomForRun}
use Rattle.radio_replay.specs.declared.faults.ScheduleFault.{ScheduleFault}
use Rattle.radio_replay.specs.declared.faults.ScheduleFault.TheVariants.{BadLine as OutsideGrammar, TooLong as PastTurns, Memory as NoRoomForTurns}
use Rattle.radio_replay.specs.Schedule.{Right, Wrong, TooMany, schedule_of, IsFault}
use Rattle.radio_replay.specs.Script.{Script}
use Rattle.program.specs.declared.faults.Fault.{Fault}
use Rattle.program.specs.declared.faults.Fault.TheVariants.{CannotRead, BadLine, CannotWrite, NoMemory, Unseen, TooLong, TooManyTurns}
use Rattle.program.specs.Causes.{OfJournal, journal_text, OfRun, IsWholeRun, IsEnded, IsWriteFault, IsScheduleFault, IsEndOf, IsWrittenEnd, IsPairFault}
use Rattle.program.specs.Claims.{HaveSixOctets, Told, of_runs}
use Rattle.program.specs.Conversions.{fault_of_schedule, end_of}
use Rattle.program.specs.World.{Writes, writes_of, HasFailed, HasWritten, HasWrittenPart}
use Rattle.program.proofs.Growth.{grew_part, rose_since}

-- what holds of the fault that an `Err` hands on
pub handed_on : {X : Type 0} (result : Result X Fault) (fact : Fault → Type 0) (fault : Fault)
    → IsErrAnd result (λ other. other ≡ fault) → fact fault → IfErr result fact
handed_on (Ok value) fact fault is holds = tt
handed_on (Err other) fact fault is holds = subst fact (sym is) holds

-- calls that failed since some time failed since an earlier one
pub failed_since : (is_reliable is_reliable_now : Type 0) (first before now : ℕ) → (is_reliable → is_reliable_now) → first ≤ before
    → HasFailed is_reliable_now before now → HasFailed is_reliable first now
failed_since is_reliable is_reliable_now first before now stays le failed =
    (rose_since first before now le failed.0, λ reliable. failed.1 (stays reliable))

-- a part after what was written was not written whole
pub part_not_written : {Sink : Type 0} (written : Sink → Option (List ℕ)) (is_reliable : Sink → Type 0) (faults : Sink → ℕ)
    (first middle last : Sink) (front more rest whole : List ℕ) (fault : Fault)
    → HasWritten (writes_of written is_reliable faults first middle) front → (is_reliable first → is_reliable middle)
    → faults first ≤ faults middle → front ++ (more ++ rest) ≡ whole
    → IsWriteFault (writes_of written is_reliable faults middle last) more fault
    → IsWriteFault (writes_of written is_reliable faults first last) whole fault
part_not_written written is_reliable faults first middle last front more rest whole CannotWrite wrote stays le parts is = (
  failed_since (is_reliable first) (is_reliable middle) (faults first) (faults middle) (faults last) stays le is.0,
  grew_part (written first) (written middle) (written last) front more rest whole wrote is.1 parts,
)
part_not_written written is_reliable faults first middle last front more rest whole NoMemory wrote stays le parts is =
    grew_part (written first) (written middle) (written last) front more rest whole wrote is parts
part_not_written written is_reliable faults first middle last front more rest whole fault wrote stays le parts is = is

-- ---- schedules and runs

pub schedule_not_read : (place : ℕ) (schedule : List ℕ) (fault : ScheduleFault)
    → IsFault (λ line. schedule_of schedule ≡ Wrong line) (λ line. schedule_of schedule ≡ TooMany line) fault
    → IsScheduleFault place schedule (fault_of_schedule place fault)
schedule_not_read place schedule (OutsideGrammar line) is = (refl, is)
schedule_not_read place schedule (PastTurns line) is = (refl, is)
schedule_not_read place schedule NoRoomForTurns is = tt

pub run_ended : (given : Given) (run : Result (List Entry) RunFault) → IfOk run (IsRun given) → IfErr run (IsRunFault given)
    → IfOk (end_of run) (λ end. IsEndOf given end.0 end.1)
run_ended given (Ok journal) ok err = ok
run_ended given (Err (EndedUnseen turn packet sent heard journal)) ok err = err
run_ended given (Err NoRoomForRun) ok err = tt

pub run_not_ended : (run : Result (List Entry) RunFault) → IfErr (end_of run) (λ fault. fault ≡ NoMemory)
run_not_ended (Ok journal) = tt
run_not_ended (Err (EndedUnseen turn packet sent heard journal)) = tt
run_not_ended (Err NoRoomForRun) = refl

-- a fact of the text of a journal of a schedule that was read
pub of_journal : (told : Told) (is_journal : Script → Given → List Entry → Type 0) (fact : List ℕ → Type 0) (a b schedule : List ℕ) (script : Script)
    (journal : List Entry) → schedule_of schedule ≡ Right script.a script.b script.turns
    → is_journal script (given_of a b script) journal → HaveSixOctets script → fact (told script journal)
    → OfJournal of_runs told is_journal fact a b schedule
of_journal told is_journal fact a b schedule script journal read is six holds = record {
  config_a = script.a;
  config_b = script.b;
  turns = script.turns;
  journal = journal;
  no_fault = read;
  is_of_kind = is;
  claimed = six;
  holds = holds;
}

pub whole_run : (script : Script) (given : Given) (journal : List Entry) → IsRun given journal → IsWholeRun of_runs script given journal
whole_run script given journal is = record { is_run = is; claimed = tt }

is_ended : (script : Script) (given : Given) (journal : List Entry) (fault : Option Fault) → IsEndOf given journal fault
    → IsEnded of_runs script given journal
is_ended script given journal None end = inl end
is_ended script given journal (Some (Unseen turn packet sent heard)) end =
    inr (turn, packet, sent, heard, record { ends = end; claimed = tt })
is_ended script given journal (Some (BadLine place number)) end = absurd end
is_ended script given journal (Some (TooManyTurns place number)) end = absurd end
is_ended script given journal (Some NoMemory) end = absurd end
is_ended script given journal (Some CannotWrite) end = absurd end
is_ended script given journal (Some (CannotRead place)) end = absurd end
is_ended script given journal (Some (TooLong place)) end = absurd end

-- a fault that is reported after the journal that was written
reported : (writes : Writes) (a b schedule : List ℕ) (script : Script) (journal : List Entry) (fault : Fault)
    → schedule_of schedule ≡ Right script.a script.b script.turns → IsEndOf (given_of a b script) journal (Some fault)
    → HaveSixOctets script → HasWritten writes (text journal) → IsPairFault of_runs writes fault a b schedule
reported writes a b schedule script journal (Unseen turn packet sent heard) read end six wrote =
    of_journal journal_text _ (HasWritten writes) a b schedule script journal read (record { ends = end; claimed = tt }) six wrote
reported writes a b schedule script journal (BadLine place number) read end six wrote = absurd end
reported writes a b schedule script journal (TooManyTurns place number) read end six wrote = absurd end
reported writes a b schedule script journal NoMemory read end six wrote = absurd end
reported writes a b schedule script journal CannotWrite read end six wrote = absurd end
reported writes a b schedule script journal (CannotRead place) read end six wrote = absurd end
reported writes a b schedule script journal (TooLong place) read end six wrote = absurd end

-- a journal that was not written whole
not_written : (writes : Writes) (a b schedule : List ℕ) (script : Script) (journal : List Entry) (fault : Fault)
    → schedule_of schedule ≡ Right script.a script.b script.turns → IsEnded of_runs script (given_of a b script) journal
    → HaveSixOctets script → IsWriteFault writes (text journal) fault → IsPairFault of_runs writes fault a b schedule
not_written writes a b schedule script journal CannotWrite read end six is =
    (is.0, of_journal journal_text (IsEnded of_runs) (HasWrittenPart writes) a b schedule script journal read end six is.1)
not_written writes a b schedule script journal NoMemory read end six is =
    inr (of_journal journal_text (IsEnded of_runs) (HasWrittenPart writes) a b schedule script journal read end six is)
not_written writes a b schedule script journal (BadLine place number) read end six is = absurd is
not_written writes a b schedule script journal (TooManyTurns place number) read end six is = absurd is
not_written writes a b schedule script journal (Unseen turn packet sent heard) read end six is = absurd is
not_written writes a b schedule script journal (CannotRead place) read end six is = absurd is
not_written writes a b schedule script journal (TooLong place) read end six is = absurd is

-- the journal of a run was written, with what is reported after it
pub octets_done : (writes : Writes) (a b schedule : List ℕ) (script : Script) (journal : List Entry) (fault : Option Fault)
    (result : Result (Unit {0}) Fault) → schedule_of schedule ≡ Right script.a script.b script.turns
    → IsEndOf (given_of a b script) journal fault → HaveSixOctets script
    → IsWrittenEnd writes (text journal) fault result → OnOk result (OfRun of_runs (HasWritten writes) a b schedule)
octets_done writes a b schedule script journal fault (Err cause) read end six written = tt
octets_done writes a b schedule script journal fault (Ok done) read end six written =
    of_journal journal_text (IsWholeRun of_runs) (HasWritten writes) a b schedule script journal read
    (whole_run script (given_of a b script) journal (subst (IsEndOf (given_of a b script) journal) written.0 end)) six written.1

pub octets_not_done : (writes : Writes) (a b schedule : List ℕ) (script : Script) (journal : List Entry) (fault : Option Fault)
    (result : Result (Unit {0}) Fault) → schedule_of schedule ≡ Right script.a script.b script.turns
    → IsEndOf (given_of a b script) journal fault → HaveSixOctets script → IsWrittenEnd writes (text journal) fault result
    → IfErr result (λ cause. IsPairFault of_runs writes cause a b schedule)
octets_not_done writes a b schedule script journal fault (Ok done) read end six written = tt
octets_not_done writes a b schedule script journal fault (Err cause) read end six written =
    elim written [
      | inl is ↦ reported writes a b schedule script journal cause read (subst (IsEndOf (given_of a b script) journal) is.0 end) six is.1
      | inr is ↦ not_written writes a b schedule script journal cause read (is_ended script (given_of a b script) journal fault end) six is
    ]
