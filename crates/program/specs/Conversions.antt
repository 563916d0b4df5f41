-- The fault of the program that a fault of one of its parts becomes: each cause keeps its kind (our choice).
use Rattle.std.specs.Prelude.{ℕ, List, Option, Some, None, Result, Ok, Err}
use Rattle.outside.specs.declared.files.FileFault.{FileFault}
use Rattle.outside.specs.declared.files.FileFault.TheVariants.{Failed as ReadFailed, TooLong as FileTooLong}
use Rattle.outside.specs.declared.files.FileFault.TheVariants.{Memory as NoRoomForFile}
use Rattle.outside.specs.declared.sink.SinkFault.{SinkFault}
use Rattle.outside.specs.declared.sink.SinkFault.TheVariants.{Failed as WriteFailed, Memory as NoRoomForText}
use Rattle.radio_replay.specs.declared.faults.ScheduleFault.{ScheduleFault}
use Rattle.radio_replay.specs.declared.faults.ScheduleFault.TheVariants.{BadLine as OutsideGrammar}
use Rattle.radio_replay.specs.declared.faults.ScheduleFault.TheVariants.{TooLong as PastTurns}
use Rattle.radio_replay.specs.declared.faults.ScheduleFault.TheVariants.{Memory as NoRoomForTurns}
use Rattle.journal.specs.declared.entries.Entry.{Entry}
use Rattle.pair_world.specs.declared.run.RunFault.{RunFault}
use Rattle.pair_world.specs.declared.run.RunFault.TheVariants.{Unseen as EndedUnseen, Memory as NoRoomForRun}
use Rattle.program.specs.declared.faults.Fault.{Fault}
use Rattle.program.specs.declared.faults.Fault.TheVariants.{CannotRead, BadLine, CannotWrite, NoMemory, Unseen}
use Rattle.program.specs.declared.faults.Fault.TheVariants.{TooLong, TooManyTurns}

-- the fault of a read of the file at this place
abbrev pub fault_of_file : ℕ → FileFault → Fault
fault_of_file place ReadFailed = CannotRead place
fault_of_file place FileTooLong = TooLong place
fault_of_file place NoRoomForFile = NoMemory

-- the fault of a write to the output
abbrev pub fault_of_sink : SinkFault → Fault
fault_of_sink WriteFailed = CannotWrite
fault_of_sink NoRoomForText = NoMemory

-- the fault of the schedule at this place
abbrev pub fault_of_schedule : ℕ → ScheduleFault → Fault
fault_of_schedule place (OutsideGrammar line) = BadLine place line
fault_of_schedule place (PastTurns line) = TooManyTurns place line
fault_of_schedule place NoRoomForTurns = NoMemory

-- what a run leaves: the journal to write, and the fault to report once it is written, if there is one; or a fault,
-- and no journal
abbrev pub end_of : Result (List Entry) RunFault → Result (List Entry × Option Fault) Fault
end_of (Ok journal) = Ok (journal, None)
end_of (Err (EndedUnseen turn packet sent heard journal)) = Ok (journal, Some (Unseen turn packet sent heard))
end_of (Err NoRoomForRun) = Err NoMemory
