-- A file of a command (our choice).
use Rattle.std.specs.Prelude.{ℕ, List}

-- the octets of its name, the most octets that it may have, and the word for it in a message on one of its lines
pub record FileRow : Type 0 where
  pub name : List ℕ
  pub limit : ℕ
  pub word : List ℕ
