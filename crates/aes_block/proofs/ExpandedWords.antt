-- The loop over the words of the expanded key.
use Rattle.std.proofs.Common.{◌≡◌, ℕ, suc, ◌+◌, ◌-◌, ◌<◌, ◌≤◌, List, [], ◌∷◌, ◌++◌, length, take, get_or, bit_xor, ap, sym, ◌∙◌, arith, add-one}
use Rattle.std.proofs.Math.ListN.{set}
use Rattle.std.proofs.Math.Seq.{take-suc-set}
use Rattle.std.specs.List.{slice_index_or}
use Rattle.std.proofs.lemmas.List.{get_or-map, get_or-take, length-take, map-append}
use Rattle.aes_block.specs.KeyExpansion.{add_words, addend, next_word, words_up_to}
use Rattle.aes_block.specs.Words.{word_octets, octet_words}
use Rattle.aes_block.proofs.WordOctets.{word_octets-xor}

-- a word before place i, among those that are there
word_at : (w : List ℕ) (i j : ℕ) → j < i → i ≤ length w → word_octets (get_or w j 0) ≡ slice_index_or (octet_words (take i w)) j []
word_at w i j lt le =
    ap word_octets (sym (get_or-take i w j 0 lt)) ∙ sym (get_or-map word_octets (take i w) j 0 [] (omega (arith, length-take i w)))

words_up_to-next : (key : List ℕ) (i : ℕ) → 4 ≤ i
    → words_up_to key (i + 1 - 4) ≡ words_up_to key (i - 4) ++ next_word (words_up_to key (i - 4)) i ∷ []
unfolding words_up_to
words_up_to-next key i le =
    let before : i + 1 - 4 ≡ suc (i - 4) = omega arith in
    let back : i - 4 + 4 ≡ i = omega arith in
    ap (words_up_to key) before ∙ ap (λ j. words_up_to key (i - 4) ++ next_word (words_up_to key (i - 4)) j ∷ []) back

-- one more word, where a is what is added to the word four places before
pub words_up_to-more : (key w : List ℕ) (i a : ℕ) → 4 ≤ i → i < length w
    → octet_words (take i w) ≡ words_up_to key (i - 4) → word_octets a ≡ addend (word_octets (get_or w (i - 1) 0)) i
    → octet_words (take (i + 1) (set w i (bit_xor (get_or w (i - 4) 0) a))) ≡ words_up_to key (i + 1 - 4)
words_up_to-more key w i a low high known added =
    let v : ℕ = bit_xor (get_or w (i - 4) 0) a in
    let word : word_octets v ≡ next_word (octet_words (take i w)) i =
    word_octets-xor (get_or w (i - 4) 0) a
    ∙ (λ k. add_words (word_at w i (i - 4) (omega arith) (omega arith) k)
    ((added ∙ ap (λ o. addend o i) (word_at w i (i - 1) (omega arith) (omega arith))) k)) in
    ap (λ j. octet_words (take j (set w i v))) (add-one i) ∙ ap octet_words (take-suc-set w i v high)
    ∙ map-append word_octets (take i w) (v ∷ []) ∙ ap (λ o. octet_words (take i w) ++ o ∷ []) word
    ∙ ap (λ ws. ws ++ next_word ws i ∷ []) known ∙ sym (words_up_to-next key i low)
