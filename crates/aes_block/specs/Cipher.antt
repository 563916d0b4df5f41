-- AES-128 as FIPS 197, section 5.1, defines it.
use Rattle.std.specs.Prelude.{ℕ, zero, suc, List}
use Rattle.aes_block.specs.State.{sub_bytes, shift_rows, mix_columns, add_round_key}
use Rattle.aes_block.specs.KeyExpansion.{key_expansion}

-- the state after the first n rounds, each of which mixes columns (section 5.1)
unfoldable pub after_rounds : List (List ℕ) → List ℕ → ℕ → List ℕ
after_rounds words input zero = add_round_key input words 0
after_rounds words input (suc n) =
    add_round_key (mix_columns (shift_rows (sub_bytes (after_rounds words input n)))) words (suc n)

-- Cipher of an input, with the words of the expanded key: ten rounds, of which the last mixes no columns (section 5.1)
abbrev pub cipher_of_words : List (List ℕ) → List ℕ → List ℕ
cipher_of_words words input = add_round_key (shift_rows (sub_bytes (after_rounds words input 9))) words 10

-- the cipher text of a block under a key (sections 5.1 and 5.2)
unfoldable pub cipher : List ℕ → List ℕ → List ℕ
cipher key block = cipher_of_words (key_expansion key) block
