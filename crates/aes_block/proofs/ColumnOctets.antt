-- What four words say of the sixteen octets.
use Rattle.std.proofs.Common.{◌≡◌, ℕ, ◌<◌, ◌≤◌, List, [], ◌∷◌, map, length, slice_index, get_or, refl, ap, sym, arith}
use Rattle.std.proofs.Math.ListN.{set}
use Rattle.std.specs.List.{range_with_len, slice_index_or}
use Rattle.std.proofs.lemmas.List.{get_or-map, get_or-set_other}
use Rattle.std.proofs.lemmas.List.FromFn.{fill_by_all}
use Rattle.aes_block.specs.State.{octet_at, state_of, sub_byte}
use Rattle.aes_block.specs.Words.{word_octets, state_octets, octet_words}

-- the octets f 0 c, .., f 3 c of column c
abbrev pub column_of : (ℕ → ℕ → ℕ) → ℕ → List ℕ
column_of f c = map (λ r. f r c) (range_with_len 0 4)

pub state_octets-columns : (f : ℕ → ℕ → ℕ) (w0 w1 w2 w3 : ℕ)
    → word_octets w0 ≡ column_of f 0 → word_octets w1 ≡ column_of f 1 → word_octets w2 ≡ column_of f 2 → word_octets w3 ≡ column_of f 3
    → state_octets (w0 ∷ w1 ∷ w2 ∷ w3 ∷ []) ≡ state_of f
state_octets-columns f w0 w1 w2 w3 e0 e1 e2 e3 = λ i.
    slice_index (e0 i) 0 ∷ slice_index (e0 i) 1 ∷ slice_index (e0 i) 2 ∷ slice_index (e0 i) 3
    ∷ slice_index (e1 i) 0 ∷ slice_index (e1 i) 1 ∷ slice_index (e1 i) 2 ∷ slice_index (e1 i) 3
    ∷ slice_index (e2 i) 0 ∷ slice_index (e2 i) 1 ∷ slice_index (e2 i) 2 ∷ slice_index (e2 i) 3
    ∷ slice_index (e3 i) 0 ∷ slice_index (e3 i) 1 ∷ slice_index (e3 i) 2 ∷ slice_index (e3 i) 3 ∷ []

-- the S-box on each octet of a column
abbrev pub substituted_column : List ℕ → List ℕ
substituted_column o = map (λ r. sub_byte (slice_index o r)) (range_with_len 0 4)

-- a word of several, by its four octets
pub octets_at : (words : List ℕ) (k : ℕ) → k < length words
    → word_octets (get_or words k 0) ≡ map (slice_index (slice_index_or (octet_words words) k [])) (range_with_len 0 4)
octets_at words k lt = ap (λ o. map (slice_index o) (range_with_len 0 4)) (sym (get_or-map word_octets words k 0 [] lt))

-- a write after the first four words changes none of them
pub state_octets-set : (words : List ℕ) (i v : ℕ) → 4 ≤ i → state_octets (set words i v) ≡ state_octets words
state_octets-set words i v le =
    let same : (j : ℕ) → j < 4 → get_or (set words i v) j 0 ≡ get_or words j 0 = λ j lt. get_or-set_other words i j v 0 (omega arith) in
    λ k. state_octets (same 0 (omega arith) k ∷ same 1 (omega arith) k ∷ same 2 (omega arith) k ∷ same 3 (omega arith) k ∷ [])

-- a list of sixteen is a state
pub state_of-octet_at : (s : List ℕ) → length s ≡ 16 → state_of (octet_at s) ≡ s
state_of-octet_at s len = sym (fill_by_all (λ i. get_or s i 0) s 16 0 len (λ k lt. refl))
