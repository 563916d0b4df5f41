-- A sink in memory, as contracts see it (our choice).
use Rattle.std.specs.Prelude.{ℕ, List}
use Rattle.outside.specs.Calls.{Calls}

-- the octets that were written, how often a write failed, and the writes
pub record SinkStore : Type 0 where
  pub octets : List ℕ
  pub faults : ℕ
  pub writes : Calls
