-- The cipher with the S-box as its table, where each state is evaluated before the next one is made.
use Rattle.std.proofs.Common.{◌≡◌, ℕ, zero, suc, ◌+◌, ◌-◌, ◌/◌, ◌%◌, ◌==◌, List, [], ◌∷◌, ◌++◌, map, get_or, refl, ap, sym, ◌∙◌, arith}
use Rattle.std.specs.Prelude.{Bool, true, false, nat_lt, if◌then◌else◌}
use Rattle.std.specs.List.{slice_index_or}
use Rattle.aes_block.specs.Cipher.{after_rounds, cipher, cipher_of_words}
use Rattle.aes_block.specs.KeyExpansion.{add_words, key_expansion, key_words, next_word, rcon, rot_word, words_up_to}
use Rattle.aes_block.specs.State.{add_round_key, mix_columns, octet_at, shift_rows, state_of, sub_byte, sub_bytes}
use Rattle.aes_block.proofs.TableEntries.{sbox_at}
use Rattle.std.proofs.lemmas.Bool.Decides.{nat_tests}
use mathlib.Core.Path.{fun_ext}

-- ---- a value is evaluated, and then it is used

abbrev pub strict : {A : Type 0} → ℕ → (ℕ → A) → A
strict zero k = k zero
strict (suc n) k = k (suc n)

pub strict_is : {A : Type 0} (n : ℕ) (k : ℕ → A) → strict n k ≡ k n
strict_is zero k = refl
strict_is (suc n) k = refl

abbrev pub strict_list : {A : Type 0} → List ℕ → (List ℕ → A) → A
strict_list [] k = k []
strict_list (x ∷ xs) k = strict x (λ y. strict_list xs (λ ys. k (y ∷ ys)))

pub strict_list_is : {A : Type 0} (xs : List ℕ) (k : List ℕ → A) → strict_list xs k ≡ k xs
strict_list_is [] k = refl
strict_list_is (x ∷ xs) k =
    strict_is x (λ y. strict_list xs (λ ys. k (y ∷ ys))) ∙ strict_list_is xs (λ ys. k (x ∷ ys))

abbrev pub strict_words : {A : Type 0} → List (List ℕ) → (List (List ℕ) → A) → A
strict_words [] k = k []
strict_words (x ∷ xs) k = strict_list x (λ y. strict_words xs (λ ys. k (y ∷ ys)))

pub strict_words_is : {A : Type 0} (xs : List (List ℕ)) (k : List (List ℕ) → A) → strict_words xs k ≡ k xs
strict_words_is [] k = refl
strict_words_is (x ∷ xs) k =
    strict_list_is x (λ y. strict_words xs (λ ys. k (y ∷ ys))) ∙ strict_words_is xs (λ ys. k (x ∷ ys))

-- ---- the S-box

-- the S-box of each octet, from 0 on
abbrev pub sbox : List ℕ
sbox =
    0x63 ∷ 0x7C ∷ 0x77 ∷ 0x7B ∷ 0xF2 ∷ 0x6B ∷ 0x6F ∷ 0xC5 ∷ 0x30 ∷ 0x01 ∷ 0x67 ∷ 0x2B ∷ 0xFE ∷ 0xD7 ∷ 0xAB ∷ 0x76
    ∷ 0xCA ∷ 0x82 ∷ 0xC9 ∷ 0x7D ∷ 0xFA ∷ 0x59 ∷ 0x47 ∷ 0xF0 ∷ 0xAD ∷ 0xD4 ∷ 0xA2 ∷ 0xAF ∷ 0x9C ∷ 0xA4 ∷ 0x72 ∷ 0xC0
    ∷ 0xB7 ∷ 0xFD ∷ 0x93 ∷ 0x26 ∷ 0x36 ∷ 0x3F ∷ 0xF7 ∷ 0xCC ∷ 0x34 ∷ 0xA5 ∷ 0xE5 ∷ 0xF1 ∷ 0x71 ∷ 0xD8 ∷ 0x31 ∷ 0x15
    ∷ 0x04 ∷ 0xC7 ∷ 0x23 ∷ 0xC3 ∷ 0x18 ∷ 0x96 ∷ 0x05 ∷ 0x9A ∷ 0x07 ∷ 0x12 ∷ 0x80 ∷ 0xE2 ∷ 0xEB ∷ 0x27 ∷ 0xB2 ∷ 0x75
    ∷ 0x09 ∷ 0x83 ∷ 0x2C ∷ 0x1A ∷ 0x1B ∷ 0x6E ∷ 0x5A ∷ 0xA0 ∷ 0x52 ∷ 0x3B ∷ 0xD6 ∷ 0xB3 ∷ 0x29 ∷ 0xE3 ∷ 0x2F ∷ 0x84
    ∷ 0x53 ∷ 0xD1 ∷ 0x00 ∷ 0xED ∷ 0x20 ∷ 0xFC ∷ 0xB1 ∷ 0x5B ∷ 0x6A ∷ 0xCB ∷ 0xBE ∷ 0x39 ∷ 0x4A ∷ 0x4C ∷ 0x58 ∷ 0xCF
    ∷ 0xD0 ∷ 0xEF ∷ 0xAA ∷ 0xFB ∷ 0x43 ∷ 0x4D ∷ 0x33 ∷ 0x85 ∷ 0x45 ∷ 0xF9 ∷ 0x02 ∷ 0x7F ∷ 0x50 ∷ 0x3C ∷ 0x9F ∷ 0xA8
    ∷ 0x51 ∷ 0xA3 ∷ 0x40 ∷ 0x8F ∷ 0x92 ∷ 0x9D ∷ 0x38 ∷ 0xF5 ∷ 0xBC ∷ 0xB6 ∷ 0xDA ∷ 0x21 ∷ 0x10 ∷ 0xFF ∷ 0xF3 ∷ 0xD2
    ∷ 0xCD ∷ 0x0C ∷ 0x13 ∷ 0xEC ∷ 0x5F ∷ 0x97 ∷ 0x44 ∷ 0x17 ∷ 0xC4 ∷ 0xA7 ∷ 0x7E ∷ 0x3D ∷ 0x64 ∷ 0x5D ∷ 0x19 ∷ 0x73
    ∷ 0x60 ∷ 0x81 ∷ 0x4F ∷ 0xDC ∷ 0x22 ∷ 0x2A ∷ 0x90 ∷ 0x88 ∷ 0x46 ∷ 0xEE ∷ 0xB8 ∷ 0x14 ∷ 0xDE ∷ 0x5E ∷ 0x0B ∷ 0xDB
    ∷ 0xE0 ∷ 0x32 ∷ 0x3A ∷ 0x0A ∷ 0x49 ∷ 0x06 ∷ 0x24 ∷ 0x5C ∷ 0xC2 ∷ 0xD3 ∷ 0xAC ∷ 0x62 ∷ 0x91 ∷ 0x95 ∷ 0xE4 ∷ 0x79
    ∷ 0xE7 ∷ 0xC8 ∷ 0x37 ∷ 0x6D ∷ 0x8D ∷ 0xD5 ∷ 0x4E ∷ 0xA9 ∷ 0x6C ∷ 0x56 ∷ 0xF4 ∷ 0xEA ∷ 0x65 ∷ 0x7A ∷ 0xAE ∷ 0x08
    ∷ 0xBA ∷ 0x78 ∷ 0x25 ∷ 0x2E ∷ 0x1C ∷ 0xA6 ∷ 0xB4 ∷ 0xC6 ∷ 0xE8 ∷ 0xDD ∷ 0x74 ∷ 0x1F ∷ 0x4B ∷ 0xBD ∷ 0x8B ∷ 0x8A
    ∷ 0x70 ∷ 0x3E ∷ 0xB5 ∷ 0x66 ∷ 0x48 ∷ 0x03 ∷ 0xF6 ∷ 0x0E ∷ 0x61 ∷ 0x35 ∷ 0x57 ∷ 0xB9 ∷ 0x86 ∷ 0xC1 ∷ 0x1D ∷ 0x9E
    ∷ 0xE1 ∷ 0xF8 ∷ 0x98 ∷ 0x11 ∷ 0x69 ∷ 0xD9 ∷ 0x8E ∷ 0x94 ∷ 0x9B ∷ 0x1E ∷ 0x87 ∷ 0xE9 ∷ 0xCE ∷ 0x55 ∷ 0x28 ∷ 0xDF
    ∷ 0x8C ∷ 0xA1 ∷ 0x89 ∷ 0x0D ∷ 0xBF ∷ 0xE6 ∷ 0x42 ∷ 0x68 ∷ 0x41 ∷ 0x99 ∷ 0x2D ∷ 0x0F ∷ 0xB0 ∷ 0x54 ∷ 0xBB ∷ 0x16 ∷ []

abbrev pub sub_at : ℕ → ℕ
sub_at b = if nat_lt b 256 then get_or sbox b 0 else sub_byte b

sub_if : (b : ℕ) (low : Bool) → nat_lt b 256 ≡ low → (if low then get_or sbox b 0 else sub_byte b) ≡ sub_byte b
sub_if b true is = sbox_at b (grind (arith, nat_tests))
sub_if b false is = refl

pub sub_at_is : sub_byte ≡ sub_at
sub_at_is = fun_ext (λ b. sym (sub_if b (nat_lt b 256) refl))

-- ---- the words of the key

abbrev pub addend_by : (ℕ → ℕ) → List ℕ → ℕ → List ℕ
addend_by f last i = if i % 4 == 0 then add_words (map f (rot_word last)) (rcon (i / 4)) else last

abbrev pub word_by : (ℕ → ℕ) → List (List ℕ) → ℕ → List ℕ
word_by f words i = add_words (slice_index_or words (i - 4) []) (addend_by f (slice_index_or words (i - 1) []) i)

word_is : (words : List (List ℕ)) (i : ℕ) → word_by sub_at words i ≡ next_word words i
word_is words i = ap (λ f. word_by f words i) (sym sub_at_is)

abbrev pub words_then : {A : Type 0} → List ℕ → ℕ → (List (List ℕ) → A) → A
words_then key zero k = strict_words (key_words key) k
words_then key (suc n) k =
    words_then key n (λ words. strict_list (word_by sub_at words (n + 4)) (λ word. strict_words (words ++ word ∷ []) k))

pub words_then_is : {A : Type 0} (key : List ℕ) (n : ℕ) (k : List (List ℕ) → A)
    → words_then key n k ≡ k (words_up_to key n)
unfolding words_up_to
words_then_is key zero k = strict_words_is (key_words key) k
words_then_is key (suc n) k =
    let words : List (List ℕ) = words_up_to key n in
    words_then_is key n
    (λ words. strict_list (word_by sub_at words (n + 4)) (λ word. strict_words (words ++ word ∷ []) k))
    ∙ strict_list_is (word_by sub_at words (n + 4)) (λ word. strict_words (words ++ word ∷ []) k)
    ∙ strict_words_is (words ++ word_by sub_at words (n + 4) ∷ []) k
    ∙ ap (λ word. k (words ++ word ∷ [])) (word_is words (n + 4))

-- ---- the rounds

abbrev pub bytes_by : (ℕ → ℕ) → List ℕ → List ℕ
bytes_by f s = state_of (λ r c. f (octet_at s r c))

bytes_is : (s : List ℕ) → bytes_by sub_at s ≡ sub_bytes s
unfolding sub_bytes
bytes_is s = ap (λ f. bytes_by f s) (sym sub_at_is)

abbrev pub rounds_then : {A : Type 0} → List (List ℕ) → List ℕ → ℕ → (List ℕ → A) → A
rounds_then words input zero k = strict_list (add_round_key input words 0) k
rounds_then words input (suc n) k =
    rounds_then words input n
    (λ s. strict_list (bytes_by sub_at s)
    (λ t. strict_list (add_round_key (mix_columns (shift_rows t)) words (suc n)) k))

pub rounds_then_is : {A : Type 0} (words : List (List ℕ)) (input : List ℕ) (n : ℕ) (k : List ℕ → A)
    → rounds_then words input n k ≡ k (after_rounds words input n)
unfolding after_rounds
rounds_then_is words input zero k = strict_list_is (add_round_key input words 0) k
rounds_then_is words input (suc n) k =
    let s : List ℕ = after_rounds words input n in
    rounds_then_is words input n
    (λ s. strict_list (bytes_by sub_at s)
    (λ t. strict_list (add_round_key (mix_columns (shift_rows t)) words (suc n)) k))
    ∙ strict_list_is (bytes_by sub_at s) (λ t. strict_list (add_round_key (mix_columns (shift_rows t)) words (suc n)) k)
    ∙ strict_list_is (add_round_key (mix_columns (shift_rows (bytes_by sub_at s))) words (suc n)) k
    ∙ ap (λ t. k (add_round_key (mix_columns (shift_rows t)) words (suc n))) (bytes_is s)

abbrev pub block_then : {A : Type 0} → List (List ℕ) → List ℕ → (List ℕ → A) → A
block_then words input k =
    rounds_then words input 9
    (λ s. strict_list (bytes_by sub_at s) (λ t. strict_list (add_round_key (shift_rows t) words 10) k))

pub block_then_is : {A : Type 0} (words : List (List ℕ)) (input : List ℕ) (k : List ℕ → A)
    → block_then words input k ≡ k (cipher_of_words words input)
block_then_is words input k =
    let s : List ℕ = after_rounds words input 9 in
    rounds_then_is words input 9
    (λ s. strict_list (bytes_by sub_at s) (λ t. strict_list (add_round_key (shift_rows t) words 10) k))
    ∙ strict_list_is (bytes_by sub_at s) (λ t. strict_list (add_round_key (shift_rows t) words 10) k)
    ∙ strict_list_is (add_round_key (shift_rows (bytes_by sub_at s)) words 10) k
    ∙ ap (λ t. k (add_round_key (shift_rows t) words 10)) (bytes_is s)

-- ---- a block under a key of which the words are known

abbrev pub block_of : List (List ℕ) → List ℕ → List ℕ
block_of words input = strict_list input (λ block. block_then words block (λ s. s))

pub cipher_is : (key : List ℕ) (words : List (List ℕ)) → key_expansion key ≡ words → cipher key ≡ block_of words
unfolding cipher
cipher_is key words is =
    fun_ext (λ input. ap (λ ws. cipher_of_words ws input) is
    ∙ sym (strict_list_is input (λ block. block_then words block (λ s. s)) ∙ block_then_is words input (λ s. s)))
