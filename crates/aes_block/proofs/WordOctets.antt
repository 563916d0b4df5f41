-- The octets of a word under xor and rotation.
use Rattle.std.proofs.Common.{◌≡◌, ℕ, ◌+◌, ◌-◌, ◌*◌, ◌/◌, ◌%◌, ◌^◌, ◌<◌, List, [], ◌∷◌, bit_or, bit_xor, slice_index, ap, ◌∙◌, arith}
use Rattle.std.specs.Int.{rotate_left, rotate_right, w32}
use Rattle.std.proofs.lemmas.Nat.{or_comm, or_shifted, xor_mod, xor_shr}
use Rattle.aes_block.specs.KeyExpansion.{add_words, rot_word}
use Rattle.aes_block.specs.Words.{word_octets}

-- the octet from bit k on
octet-xor : (a b k : ℕ) → bit_xor a b / 2 ^ k % 2 ^ 8 ≡ bit_xor (a / 2 ^ k % 2 ^ 8) (b / 2 ^ k % 2 ^ 8)
octet-xor a b k = ap (λ n. n % 2 ^ 8) (xor_shr a b k) ∙ xor_mod (a / 2 ^ k) (b / 2 ^ k) 8

pub word_octets-xor : (a b : ℕ) → word_octets (bit_xor a b) ≡ add_words (word_octets a) (word_octets b)
word_octets-xor a b = λ i. octet-xor a b 24 i ∷ octet-xor a b 16 i ∷ octet-xor a b 8 i ∷ xor_mod a b 8 i ∷ []

-- the sum of four words, of which the octets are known
pub word_octets-xor_four : (a b c d : ℕ) (o p q r : List ℕ) → word_octets a ≡ o → word_octets b ≡ p → word_octets c ≡ q → word_octets d ≡ r
    → word_octets (bit_xor (bit_xor (bit_xor a b) c) d) ≡ add_words (add_words (add_words o p) q) r
word_octets-xor_four a b c d o p q r is_o is_p is_q is_r =
    word_octets-xor (bit_xor (bit_xor a b) c) d
    ∙ ap (λ s. add_words s (word_octets d)) (word_octets-xor (bit_xor a b) c ∙ ap (λ s. add_words s (word_octets c)) (word_octets-xor a b))
    ∙ (λ i. add_words (add_words (add_words (is_o i) (is_p i)) (is_q i)) (is_r i))

-- a rotation by k bits puts the lowest k above the other j
swapped : (n j k : ℕ) → n / 2 ^ k < 2 ^ j → n * 2 ^ j % 2 ^ 32 ≡ n % 2 ^ k * 2 ^ j
    → bit_or (n / 2 ^ k) (n * 2 ^ j % 2 ^ 32) ≡ n % 2 ^ k * 2 ^ j + n / 2 ^ k
swapped n j k high low = ap (bit_or (n / 2 ^ k)) low ∙ or_comm (n / 2 ^ k) (n % 2 ^ k * 2 ^ j) ∙ or_shifted (n % 2 ^ k) j (n / 2 ^ k) high

-- the octets, moved on by k places
abbrev pub moved : ℕ → List ℕ → List ℕ
moved k o = slice_index o ((4 - k) % 4) ∷ slice_index o ((5 - k) % 4) ∷ slice_index o ((6 - k) % 4) ∷ slice_index o ((7 - k) % 4) ∷ []

four_equal : (a b c d p q r s : ℕ) → a ≡ p → b ≡ q → c ≡ r → d ≡ s → ◌≡◌ {A = List ℕ} (a ∷ b ∷ c ∷ d ∷ []) (p ∷ q ∷ r ∷ s ∷ [])
four_equal a b c d p q r s e f g h = λ i. e i ∷ f i ∷ g i ∷ h i ∷ []

pub word_octets-rotate_right_8 : (n : ℕ) → n < 2 ^ 32 → word_octets (rotate_right w32 n 8) ≡ moved 1 (word_octets n)
word_octets-rotate_right_8 n lt =
    ap word_octets (swapped n 24 8 (omega arith) (omega arith))
    ∙ four_equal _ _ _ _ _ _ _ _ (omega arith) (omega arith) (omega arith) (omega arith)

pub word_octets-rotate_right_16 : (n : ℕ) → n < 2 ^ 32 → word_octets (rotate_right w32 n 16) ≡ moved 2 (word_octets n)
word_octets-rotate_right_16 n lt =
    ap word_octets (swapped n 16 16 (omega arith) (omega arith))
    ∙ four_equal _ _ _ _ _ _ _ _ (omega arith) (omega arith) (omega arith) (omega arith)

pub word_octets-rotate_right_24 : (n : ℕ) → n < 2 ^ 32 → word_octets (rotate_right w32 n 24) ≡ moved 3 (word_octets n)
word_octets-rotate_right_24 n lt =
    ap word_octets (swapped n 8 24 (omega arith) (omega arith))
    ∙ four_equal _ _ _ _ _ _ _ _ (omega arith) (omega arith) (omega arith) (omega arith)

-- a rotation to the left by one octet is one to the right by three
pub word_octets-rotate_left_8 : (n : ℕ) → n < 2 ^ 32 → word_octets (rotate_left w32 n 8) ≡ rot_word (word_octets n)
word_octets-rotate_left_8 n lt = ap word_octets (or_comm (n * 2 ^ 8 % 2 ^ 32) (n / 2 ^ 24)) ∙ word_octets-rotate_right_24 n lt
