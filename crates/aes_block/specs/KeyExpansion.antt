-- The key expansion of FIPS 197, section 5.2, for a key of four words (AES-128). A word is its four
-- octets, most significant first.
use Rattle.std.specs.Prelude.{ℕ, zero, suc, ◌+◌, ◌-◌, ◌*◌, ◌/◌, ◌%◌, ◌==◌, List, [], ◌∷◌, ◌++◌, bit_xor, map, take, drop, if◌then◌else◌, slice_index}
use Rattle.std.specs.List.{range_with_len, slice_index_or}
use Rattle.aes_block.specs.Field.{power}
use Rattle.aes_block.specs.State.{sub_byte}

-- the sum of two words, octet by octet
abbrev pub add_words : List ℕ → List ℕ → List ℕ
add_words a b = map (λ r. bit_xor (slice_index a r) (slice_index b r)) (range_with_len 0 4)

-- RotWord: [a0, a1, a2, a3] becomes [a1, a2, a3, a0]
abbrev pub rot_word : List ℕ → List ℕ
rot_word w = drop 1 w ++ take 1 w

-- SubWord: the S-box on each octet (section 5.2)
abbrev pub sub_word : List ℕ → List ℕ
sub_word w = map sub_byte w

-- Rcon[i], the word of x^(i - 1) in the field and three zeros, for i from 1 on
abbrev pub rcon : ℕ → List ℕ
rcon i = power 2 (i - 1) ∷ 0 ∷ 0 ∷ 0 ∷ []

-- the word that is added to w[i - 4], from the word before w[i]: that word itself, but where i is a multiple of four
-- the sum of SubWord of its rotation and a round constant (section 5.2)
abbrev pub addend : List ℕ → ℕ → List ℕ
addend last i = if i % 4 == 0 then add_words (sub_word (rot_word last)) (rcon (i / 4)) else last

-- w[i], from the words before it
abbrev pub next_word : List (List ℕ) → ℕ → List ℕ
next_word words i = add_words (slice_index_or words (i - 4) []) (addend (slice_index_or words (i - 1) []) i)

-- the words of the key itself, w[0] to w[3]
abbrev pub key_words : List ℕ → List (List ℕ)
key_words key = map (λ i. take 4 (drop (4 * i) key)) (range_with_len 0 4)

-- w[0], .., w[3 + n]
unfoldable pub words_up_to : List ℕ → ℕ → List (List ℕ)
words_up_to key zero = key_words key
words_up_to key (suc n) = words_up_to key n ++ next_word (words_up_to key n) (n + 4) ∷ []

-- KeyExpansion: the 44 words of the eleven round keys
abbrev pub key_expansion : List ℕ → List (List ℕ)
key_expansion key = words_up_to key 40
