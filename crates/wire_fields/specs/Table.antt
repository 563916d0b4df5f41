-- A table from numbers, as the layouts of packets by their codes (our choice).
use Rattle.std.specs.Prelude.{ℕ, List, [], ◌∷◌, Option, Some, None, ◌==◌, if◌then◌else◌}

-- what the table has at the first place of this key, if it has the key
abbrev pub value_in : {A : Type 0} → List (ℕ × A) → ℕ → Option A
value_in [] key = None
value_in (row ∷ rows) key = if key == row.0 then Some row.1 else value_in rows key
