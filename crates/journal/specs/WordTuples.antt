-- Words, if there are exactly this many (our choice).
use Rattle.std.specs.Prelude.{ℕ, List, [], ◌∷◌, Option, Some, None}
use Rattle.std.specs.Option.{option_map}

abbrev pub Two : Type 0
Two = List ℕ × List ℕ

abbrev pub Three : Type 0
Three = List ℕ × List ℕ × List ℕ

abbrev pub Four : Type 0
Four = List ℕ × List ℕ × List ℕ × List ℕ

abbrev pub Five : Type 0
Five = List ℕ × List ℕ × List ℕ × List ℕ × List ℕ

abbrev pub two_words : List (List ℕ) → Option Two
two_words (a ∷ b ∷ []) = Some (a, b)
two_words _ = None

-- a word, and two after it
abbrev pub three_words : List (List ℕ) → Option Three
three_words [] = None
three_words (first ∷ words) = option_map (λ w. (first, w.0, w.1)) (two_words words)

abbrev pub four_words : List (List ℕ) → Option Four
four_words [] = None
four_words (first ∷ words) = option_map (λ w. (first, w.0, w.1, w.2)) (three_words words)

abbrev pub five_words : List (List ℕ) → Option Five
five_words [] = None
five_words (first ∷ words) = option_map (λ w. (first, w.0, w.1, w.2, w.3)) (four_words words)
