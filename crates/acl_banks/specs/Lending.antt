-- What a queue is after a write through a reference to one of its values.
use Rattle.std.specs.Prelude.{ℕ, List, slice_set}
use Rattle.std.specs.Borrow.{Lends, Fml, RattleType, MutBor}
use Rattle.acl_banks.specs.contracts.queue.Queue.{the_row}

module _ (V N : RattleType) (queue : MutBor (List V.Denot)) where
  -- once the borrow ends, the place has the last value written through it
  abbrev pub lends_value : ℕ → MutBor V.Denot → Fml
  lends_value place lent = Lends (the_row V N) V queue lent (slice_set queue.now place)
