-- What the calls that write octets to a sink amount to (our choice).
use Rattle.std.specs.Prelude.{ℕ, ◌≤◌, List, Option, Result, OnOk, OnErr, IsErrOf, ◌⊎◌}
use Rattle.outside.specs.declared.sink.SinkFault.{SinkFault}
use Rattle.outside.specs.declared.sink.SinkFault.TheVariants.{Failed, Memory}
use Rattle.outside.specs.Count.{HasRisen}
use Rattle.outside.specs.Growth.{HasGrownBy, HasGrownByPrefix}

-- calls have failed: their count of faults has risen, and they were not reliable
abbrev pub HasFailed : Type 0 → ℕ → ℕ → Type 0
HasFailed is_reliable before now = HasRisen before now × (¬ is_reliable)

-- a call that writes these octets to a sink, which is seen before and after, wrote all of them, or a prefix of them and
-- then failed or was out of memory
pub record IsWritten {Sink : Type 0} (written : Sink → Option (List ℕ)) (faults : Sink → ℕ) (is_reliable : Sink → Type 0)
    (wants_memory : Sink → Type 0) (old new : Sink) (result : Result (Unit {0}) SinkFault) (octets : List ℕ) : Type 0 where
  pub ok : OnOk result (HasGrownBy (written old) (written new) octets)
  pub err : OnErr result (HasGrownByPrefix (written old) (written new) octets)
  pub failed : IsErrOf result Failed → HasFailed (is_reliable old) (faults old) (faults new)
  pub memory : IsErrOf result Memory → wants_memory old
  -- no count falls, a reliable sink stays one, and a sink that needs no memory stays one
  pub counts : faults old ≤ faults new
  pub stays_reliable : is_reliable old → is_reliable new
  pub same_memory : wants_memory new → wants_memory old

-- a call may be out of memory whatever the sink
abbrev pub takes_memory : {Sink : Type 0} → Sink → Type 0
takes_memory sink = Unit {0}

-- a call that writes a line and goes on whether that failed or not: the sink has grown by all of it; or by a prefix, and
-- then the count of faults has risen, or the sink may need an allocation
abbrev pub Says : {Sink : Type 0} → (Sink → Option (List ℕ)) → (Sink → ℕ) → (Sink → Type 0) → Sink → Sink → List ℕ
    → Type 0
Says written faults wants_memory old new octets = HasGrownBy (written old) (written new) octets
    ⊎ (HasGrownByPrefix (written old) (written new) octets × (HasRisen (faults old) (faults new) ⊎ wants_memory old))
