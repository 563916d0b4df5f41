-- What is said of the places of a region.
use Rattle.std.specs.Prelude.{◌≡◌, ℕ, ◌<◌, List, length, get_or, Option, Some, None}

module _ {X : Type 0} (held : List (Option X)) where
  -- the place holds a value
  abbrev pub IsTaken : ℕ → Type 0
  IsTaken place = (value : X) × (get_or held place None ≡ Some value)

  -- the place is empty
  abbrev pub IsVacant : ℕ → Type 0
  IsVacant place = (place < length held) × (get_or held place None ≡ None)

  -- every place holds a value
  abbrev pub AreTaken : Type 0
  AreTaken = (place : ℕ) → place < length held → IsTaken place
