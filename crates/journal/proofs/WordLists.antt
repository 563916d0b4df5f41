-- Words by their first, and by how many there are.
use Rattle.std.proofs.Common.{◌≡◌, ℕ, List, [], ◌∷◌, Some, refl, sym, ap, ◌∙◌}
use Rattle.std.specs.Prelude.{Option, drop, slice_get}
use Rattle.std.specs.Option.{option_map}
use Rattle.journal.specs.WordTuples.{Two, Three, Four, Five, two_words, three_words, four_words, five_words}

-- the first word of a list, and those after it
pub first_is : (words rest : List (List ℕ)) (word : List ℕ) → Some word ≡ slice_get words 0 → rest ≡ drop 1 words → words ≡ word ∷ rest
first_is [] rest word e same = absurd (cc)
first_is (first ∷ words) rest word e same =
    let is : word ≡ first = cc in
    rw (is, same) refl

pub three_are : (words rest : List (List ℕ)) (first : List ℕ) (more : Two) → words ≡ first ∷ rest → Some more ≡ two_words rest
    → ◌≡◌ {A = Option Three} (Some (first, more.0, more.1)) (three_words words)
three_are words rest first more is found =
    sym (ap three_words is ∙ ap (option_map {T = Two} {U = Three} (λ w. (first, w.0, w.1))) (sym found))

pub four_are : (words rest : List (List ℕ)) (first : List ℕ) (more : Three) → words ≡ first ∷ rest → Some more ≡ three_words rest
    → ◌≡◌ {A = Option Four} (Some (first, more.0, more.1, more.2)) (four_words words)
four_are words rest first more is found =
    sym (ap four_words is ∙ ap (option_map {T = Three} {U = Four} (λ w. (first, w.0, w.1, w.2))) (sym found))

pub five_are : (words rest : List (List ℕ)) (first : List ℕ) (more : Four) → words ≡ first ∷ rest → Some more ≡ four_words rest
    → ◌≡◌ {A = Option Five} (Some (first, more.0, more.1, more.2, more.3)) (five_words words)
five_are words rest first more is found =
    sym (ap five_words is ∙ ap (option_map {T = Four} {U = Five} (λ w. (first, w.0, w.1, w.2, w.3))) (sym found))
