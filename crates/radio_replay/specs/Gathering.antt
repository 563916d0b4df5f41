-- A list of which each element was read (our choice).
use Rattle.std.specs.Prelude.{List, ◌∷◌, Option, Some, None}

-- the list with this value before it; none unless both were read
abbrev pub with_first : {A : Type 0} → Option A → Option (List A) → Option (List A)
with_first None values = None
with_first (Some value) None = None
with_first (Some value) (Some values) = Some (value ∷ values)
