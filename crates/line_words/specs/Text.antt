-- The lines of a text and the words of a line (our choice).
use Rattle.std.specs.Prelude.{ℕ, ◌==◌, List, [], ◌∷◌, ◌++◌, length, if◌then◌else◌}
use Rattle.std.specs.List.{slice_split, join_with_byte}

-- the octets of a newline and of a space
abbrev pub newline : ℕ
newline = 10

abbrev pub space : ℕ
space = 32

-- the lines among the parts between newlines: an empty part after the last newline is not a line
abbrev pub lines_of_parts : List (List ℕ) → List (List ℕ)
lines_of_parts [] = []
lines_of_parts (part ∷ []) = if length part == 0 then [] else part ∷ []
lines_of_parts (part ∷ next ∷ parts) = part ∷ lines_of_parts (next ∷ parts)

-- the lines of a text: each ends with a newline, which the last may lack
abbrev pub lines_of : List ℕ → List (List ℕ)
lines_of text = lines_of_parts (slice_split (λ octet. octet == newline) text)

-- the words of a line: exactly one space is between two of them, so two spaces in a row have an empty word between them
abbrev pub words_of : List ℕ → List (List ℕ)
words_of line = slice_split (λ octet. octet == space) line

-- the line of these words, without its newline
abbrev pub line_of : List (List ℕ) → List ℕ
line_of words = join_with_byte space words

-- a line with its newline
abbrev pub with_newline : List ℕ → List ℕ
with_newline line = line ++ newline ∷ []
