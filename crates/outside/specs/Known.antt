-- Content that may be unknown: a claim on it holds where it is known (our choice).
use Rattle.std.specs.Prelude.{ℕ, List, Option, IfSome}

-- a fact of some content, where it is known
abbrev pub WhereKnown : Option (List ℕ) → (List ℕ → Type 0) → Type 0
WhereKnown content fact = IfSome content fact
