-- What the table of procedures of one end knows (Core 5.2, volume 6 part B, section 5).
use Rattle.std.specs.Prelude.{List, Option, Bool, [], None, ℕ, false}
use Rattle.ble_base.specs.declared.counters.SlotNo.{SlotNo}
use Rattle.ble_base.specs.declared.roles.Role.{Role}
use Rattle.procedure_stages.specs.procedure_values.declared.asks.Ask.{Ask}
use Rattle.procedure_stages.specs.procedure_values.declared.drafts.Outgoing.{Outgoing}
use Rattle.procedure_stages.specs.procedure_values.declared.lengths.Lengths.{Lengths}
use Rattle.procedure_stages.specs.declared.stages.Progress.{Progress}
use Rattle.procedure_stages.specs.procedure_values.declared.drafts.Outgoing.TheVariants.{Nothing}
use Rattle.procedure_stages.specs.procedure_values.Limits.{first_lengths}
use Rattle.procedure_stages.specs.InProgress.{first_progress}
use Rattle.procedure_stages.specs.Queue.{QueueFacts, empty_queue}
use Rattle.procedure_stages.specs.declared.closing.Closing.{Closing}
use Rattle.procedure_stages.specs.declared.closing.Closing.TheVariants.{Open}

pub record TableFacts : Type 0 where
  -- what either end began
  pub progress : Progress
  -- what the host wants and was not begun, in order
  pub wanted : List Ask
  -- what waits to be sent
  pub queue : QueueFacts
  -- what was sent last and is not acknowledged
  pub out : Outgoing
  -- whether the link is to end
  pub closing : Closing
  -- the longest payloads
  pub lengths : Lengths
  -- the own LL_VERSION_IND was queued
  pub version_used : Bool
  -- the slot in which the last PDU of the own procedure was first sent or taken, once one was
  pub since : Option SlotNo

-- the table of a new link
abbrev pub first_facts : Role → ℕ → TableFacts
first_facts role max_rx =
    record {
      progress = first_progress role;
      wanted = [];
      queue = empty_queue;
      out = Nothing;
      closing = Open;
      lengths = first_lengths max_rx;
      version_used = false;
      since = None;
    }
