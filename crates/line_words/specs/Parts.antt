-- The parts of octets between separators (our choice).
use Rattle.std.specs.Prelude.{ℕ, ◌==◌, List, [], ◌∷◌, Option, Some, None}
use Rattle.std.specs.List.{slice_split}
use Rattle.std.specs.Option.{option_map}

-- the parts after a separator; none if there was no separator
abbrev pub parts_after : ℕ → Option (List ℕ) → List (List ℕ)
parts_after separator None = []
parts_after separator (Some octets) = slice_split (λ octet. octet == separator) octets

-- the part, if there is only one
abbrev pub only_part : List (List ℕ) → Option (List ℕ)
only_part [] = None
only_part (part ∷ []) = Some part
only_part (part ∷ next ∷ parts) = None

-- both parts, if there are only two
abbrev pub two_parts : List (List ℕ) → Option (List ℕ × List ℕ)
two_parts [] = None
two_parts (front ∷ parts) = option_map (λ back. (front, back)) (only_part parts)
