-- The names of the files of `pair` (our choice).
use Rattle.std.specs.Prelude.{ℕ, List}

-- the octets of each name, in the order in which the files are named and read
pub record PairFiles : Type 0 where
  pub a : List ℕ
  pub b : List ℕ
  pub schedule : List ℕ
