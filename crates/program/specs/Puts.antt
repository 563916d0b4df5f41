-- The outcome of writing octets to a sink (our choice).
use Rattle.std.specs.Prelude.{ℕ, ◌≤◌, List, Option, Result, OnOk, OnErr, ◌⊎◌}
use Rattle.outside.specs.declared.sink.SinkFault.{SinkFault}
use Rattle.outside.specs.Count.{HasRisen}
use Rattle.outside.specs.Growth.{HasGrownBy, HasGrownByPrefix}

-- the outcome of a call that writes these octets to a sink, which is seen before and after: it wrote all of them; or
-- it failed, wrote a prefix, and either the count of faults has risen or the sink may need an allocation
pub record IsPut {Sink : Type 0} (written : Sink → Option (List ℕ)) (faults : Sink → ℕ) (wants_memory : Sink → Type 0)
    (old new : Sink) (result : Result (Unit {0}) SinkFault) (octets : List ℕ) : Type 0 where
  pub ok : OnOk result (HasGrownBy (written old) (written new) octets)
  pub err : OnErr result (HasGrownByPrefix (written old) (written new) octets)
  pub fault : OnErr result (HasRisen (faults old) (faults new) ⊎ wants_memory old)
  -- no count falls, and a sink that needs no allocation stays one
  pub counts : faults old ≤ faults new
  pub same_memory : wants_memory new → wants_memory old

-- the outcome of a call that writes these octets to a sink and goes on whether that failed or not: the sink has grown
-- by all of them; or by a prefix, and then either the count of faults has risen or the sink may need an allocation
abbrev pub Says : {Sink : Type 0} → (Sink → Option (List ℕ)) → (Sink → ℕ) → (Sink → Type 0) → Sink → Sink → List ℕ
    → Type 0
Says written faults wants_memory old new octets = HasGrownBy (written old) (written new) octets
    ⊎ (HasGrownByPrefix (written old) (written new) octets × (HasRisen (faults old) (faults new) ⊎ wants_memory old))
