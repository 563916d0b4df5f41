-- Why a run has no whole journal (our choice).
use Rattle.std.specs.Prelude.{ℕ, List, ⊤}
use Rattle.journal.specs.declared.entries.Entry.{Entry}
use Rattle.run_model.specs.Pair.{EndsUnseen}
use Rattle.run_model.specs.Run.{Given}
use Rattle.pair_world.specs.declared.run.RunFault.{RunFault}
use Rattle.pair_world.specs.declared.run.RunFault.TheVariants.{Unseen as UnseenFault, Memory as OutOfMemory}
use Rattle.pair_world.specs.declared.stops.Stop.{Stop}
use Rattle.pair_world.specs.declared.stops.Stop.TheVariants.{Unseen, Memory}

-- unseen damage ends the run at this packet, or there is no memory
abbrev pub IsRunFault : Given → RunFault → Type 0
IsRunFault given OutOfMemory = ⊤
IsRunFault given (UnseenFault turn packet sent heard journal) = EndsUnseen given turn packet sent heard journal

-- the fault of a stop in the turn of this slot, with the journal so far
abbrev pub fault_of : Stop → ℕ → List Entry → RunFault
fault_of Memory turn journal = OutOfMemory
fault_of (Unseen unseen) turn journal =
    UnseenFault turn unseen.packet unseen.sent.items unseen.heard.items journal
