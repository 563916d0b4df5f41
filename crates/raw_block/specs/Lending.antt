-- What a block is after a write through a reference to one of its values.
use Rattle.std.specs.Prelude.{ℕ}
use Rattle.std.specs.Ordering.{nat_cmp}
use Rattle.std.specs.FinMap as map
use Rattle.std.specs.Borrow.{Lends, Fml, RattleType, MutBor}
use Rattle.raw_block.specs.contracts.block.RawBlock.{the_row}

module _ (T N : RattleType) (block : MutBor (map.FinMap nat_cmp T.Denot)) where
  -- once the borrow ends, the cell holds the last value written through it, and all else stays
  abbrev pub lends_value : ℕ → MutBor T.Denot → Fml
  lends_value cell lent = Lends (the_row T N) T block lent (map.insert block.now cell)
