-- Which control PDU of a table is sent next (Core 5.2, volume 6 part B, sections 5.3 and 5.1.6; the order is our choice).
use Rattle.std.specs.Prelude.{ℕ, Bool, ◌&&◌}
use Rattle.procedure_stages.specs.procedure_values.declared.drafts.Outgoing.{Outgoing}
use Rattle.procedure_stages.specs.Closing.{is_disconnecting}
use Rattle.procedure_stages.specs.Queue.{next_after_rejections, next_by}
use Rattle.procedures.specs.Table.{TableFacts}

-- with no rejection: in phase Clear or Secure an end whose Disconnect was accepted sends LL_TERMINATE_IND and no other
-- PDU; outside those phases that waits, and the others go
abbrev pub next_other : TableFacts → ℕ → Bool → Outgoing
next_other f event quiet =
    next_after_rejections (is_disconnecting f.closing && quiet) f.progress event f.queue

-- what is sent next in an event, `quiet` being phase Clear or Secure
abbrev pub next_of : TableFacts → ℕ → Bool → Outgoing
next_of f event quiet = next_by f.queue.rejections (next_other f event quiet)
