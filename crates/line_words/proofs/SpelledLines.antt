-- Words without separators are the words of their line, and lines without newlines those of their text.
use Rattle.std.proofs.Common.{◌≡◌, ℕ, ◌<◌, ◌≤◌, Bool, true, false, List, [], ◌∷◌, ◌++◌, refl, ◌∙◌, ap, arith, append_assoc}
use Rattle.std.specs.Prelude.{◌==◌, nat_lt, map}
use Rattle.std.specs.List.{All, list_all, slice_split, concat}
use Rattle.std.proofs.lemmas.Bool.{and_parts, and_from, ltb-true, lt-ltb, ne_eqb}
use Rattle.std.proofs.lemmas.List.Elements.{All-nil, All-cons}
use Rattle.std.proofs.lemmas.List.Folds.{list_all-append}
use Rattle.std.proofs.lemmas.List.Splits.{slice_split_none, slice_split_at}
use Rattle.line_words.proofs.Separators.{more_parts, some_parts}
use Rattle.line_words.specs.Text.{newline, space, lines_of, words_of, line_of, with_newline}

-- each octet is above this one
abbrev pub is_above : ℕ → List ℕ → Bool
is_above low octets = list_all (λ octet. nat_lt low octet) octets

-- an octet above another one is not a separator up to that one
no_separator : (low separator : ℕ) (octets : List ℕ) → separator ≤ low → is_above low octets ≡ true → All (λ octet. (octet == separator) ≡ false) octets
no_separator low separator [] h e = All-nil (λ (octet : ℕ). (octet == separator) ≡ false)
no_separator low separator (octet ∷ octets) h e =
    let parts = and_parts (nat_lt low octet) (is_above low octets) e in
    let above : low < octet = ltb-true low octet parts.0 in
    All-cons (λ (octet : ℕ). (octet == separator) ≡ false) octet octets (ne_eqb octet separator (λ s. omega arith))
    (no_separator low separator octets h parts.1)

pub words_of-line_of : (word : List ℕ) (words : List (List ℕ)) → list_all (λ w. is_above 32 w) (word ∷ words) ≡ true → words_of (line_of (word ∷ words)) ≡ word ∷ words
words_of-line_of word [] e =
    let parts = and_parts (is_above 32 word) (list_all (λ w. is_above 32 w) []) e in
    slice_split_none (λ octet. octet == space) word (no_separator 32 space word (omega arith) parts.0)
words_of-line_of word (next ∷ words) e =
    let parts = and_parts (is_above 32 word) (list_all (λ w. is_above 32 w) (next ∷ words)) e in
    slice_split_at (λ octet. octet == space) word 32 (line_of (next ∷ words)) (no_separator 32 space word (omega arith) parts.0) refl
    ∙ ap (λ (ws : List (List ℕ)). word ∷ ws) (words_of-line_of next words parts.1)

above_newline : (octets : List ℕ) → is_above 32 octets ≡ true → is_above 10 octets ≡ true
above_newline [] e = refl
above_newline (octet ∷ octets) e =
    let parts = and_parts (nat_lt 32 octet) (is_above 32 octets) e in
    let above : 32 < octet = ltb-true 32 octet parts.0 in
    and_from (nat_lt 10 octet) (is_above 10 octets) (lt-ltb 10 octet (omega arith)) (above_newline octets parts.1)

pub above-line_of : (word : List ℕ) (words : List (List ℕ)) → list_all (λ w. is_above 32 w) (word ∷ words) ≡ true → is_above 10 (line_of (word ∷ words)) ≡ true
above-line_of word [] e =
    let parts = and_parts (is_above 32 word) (list_all (λ w. is_above 32 w) []) e in above_newline word parts.0
above-line_of word (next ∷ words) e =
    let parts = and_parts (is_above 32 word) (list_all (λ w. is_above 32 w) (next ∷ words)) e in
    list_all-append (λ octet. nat_lt 10 octet) word (space ∷ line_of (next ∷ words))
    ∙ and_from (is_above 10 word) (is_above 10 (line_of (next ∷ words))) (above_newline word parts.0) (above-line_of next words parts.1)

pub lines_of-with_newline : (lines : List (List ℕ)) → list_all (λ l. is_above 10 l) lines ≡ true → lines_of (concat (map with_newline lines)) ≡ lines
lines_of-with_newline [] e = refl
lines_of-with_newline (line ∷ lines) e =
    let parts = and_parts (is_above 10 line) (list_all (λ l. is_above 10 l) lines) e in
    let rest : List ℕ = concat (map with_newline lines) in
    let first : slice_split (λ octet. octet == newline) (line ++ newline ∷ rest) ≡ line ∷ slice_split (λ octet. octet == newline) rest
    = slice_split_at (λ octet. octet == newline) line newline rest (no_separator 10 newline line (omega arith) parts.0) refl in
    rw (append_assoc line (newline ∷ []) rest, first)
    (more_parts line (slice_split (λ octet. octet == newline) rest) (some_parts (λ octet. octet == newline) rest) ∙ ap (λ (ls : List (List ℕ)). line ∷ ls) (lines_of-with_newline lines parts.1))
