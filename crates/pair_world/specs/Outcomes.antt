-- Where a part of a run leads: on to a history, or to a stop (our choice).
use Rattle.std.specs.Prelude.{◌≡◌, ℕ, List, ⊤}
use Rattle.journal.specs.declared.entries.Entry.{Entry}
use Rattle.run_model.specs.History.{Event}
use Rattle.run_model.specs.Run.{Run, GoesOn, Stops, Stop as RunStop}
use Rattle.run_model.specs.Journal.{journal_of}
use Rattle.pair_world.specs.declared.stops.Stop.{Stop}
use Rattle.pair_world.specs.declared.stops.Stop.TheVariants.{Unseen, Memory}

-- it goes on to a history with this fact
pub record Reaches (run : Run) (fact : List Event → Type 0) : Type 0 where
  pub after : List Event
  pub goes_on : run ≡ GoesOn after
  pub holds : fact after

-- it stops at this packet of the turn in this slot, and these are the entries before it
pub record HasStopped (run : Run) (slot packet : ℕ) (sent heard : List ℕ) (entries : List Entry) : Type 0 where
  pub before : List Event
  pub stop : RunStop
  pub stops : run ≡ Stops before stop
  pub written : entries ≡ journal_of before
  pub slot_is : slot ≡ stop.slot
  pub packet_is : packet ≡ stop.place
  pub sent_is : sent ≡ stop.sent
  pub heard_is : heard ≡ stop.heard

-- it stops in this slot as the code says, or there is no memory
abbrev pub IsStopped : Run → ℕ → List Entry → Stop → Type 0
IsStopped run slot entries Memory = ⊤
IsStopped run slot entries (Unseen unseen) =
    HasStopped run slot unseen.packet unseen.sent.items unseen.heard.items entries
