-- Octets cut into blocks, from the front.
use Rattle.std.proofs.Common.{◌≡◌, ℕ, zero, suc, ◌+◌, ◌*◌, ◌<◌, ◌≤◌, min, List, [], ◌∷◌, ◌++◌, length, take, drop, map, bit_xor, refl, ap, sym, ◌∙◌, arith, length-append, append-nil}
use Rattle.std.specs.List.{flat_map, range_with_len}
use Rattle.std.proofs.lemmas.List.{drop-drop, drop_all, take_all}
use Rattle.std.proofs.Math.Seq.{drop-append_seam, take-append_seam}
use Rattle.aes_block.specs.Cipher.{cipher}
use Rattle.aes_block.specs.State.{add_states}
use Rattle.ccm_link.specs.Ccm.{block_count, blocks, counter_block, padded_block, key_block, xor_of}

-- a chunk of at most 16 octets is cut off
pub record IsCut (octets chunk rest : List ℕ) : Type 0 where
  pub parts : octets ≡ chunk ++ rest
  pub size : length chunk ≡ min 16 (length octets)
  pub some : 0 < length octets

take-cut : (chunk rest : List ℕ) → length chunk ≡ min 16 (length (chunk ++ rest)) → take 16 (chunk ++ rest) ≡ chunk
take-cut chunk [] size = take_all 16 (chunk ++ []) (omega (arith, size, length-append chunk [])) ∙ append-nil chunk
take-cut chunk (z ∷ zs) size =
    let whole : 16 ≡ length chunk = omega (arith, size, length-append chunk (z ∷ zs)) in
    ap (λ n. take n (chunk ++ z ∷ zs)) whole ∙ take-append_seam chunk (z ∷ zs)

drop-cut : (chunk rest : List ℕ) → length chunk ≡ min 16 (length (chunk ++ rest)) → drop 16 (chunk ++ rest) ≡ rest
drop-cut chunk [] size = drop_all 16 (chunk ++ []) (omega (arith, size, length-append chunk []))
drop-cut chunk (z ∷ zs) size =
    let whole : 16 ≡ length chunk = omega (arith, size, length-append chunk (z ∷ zs)) in
    ap (λ n. drop n (chunk ++ z ∷ zs)) whole ∙ drop-append_seam chunk (z ∷ zs)

pub block_count-cut : (octets chunk rest : List ℕ) → IsCut octets chunk rest → block_count octets ≡ suc (block_count rest)
block_count-cut octets chunk rest cut =
    let sum : length octets ≡ length chunk + length rest = ap length cut.parts ∙ length-append chunk rest in
    omega (arith, cut.size, cut.some)

shifted : {X : Type 0} (f g : ℕ → X) → ((i : ℕ) → f (i + 1) ≡ g i) → (a n : ℕ) → map f (range_with_len (a + 1) n) ≡ map g (range_with_len a n)
shifted f g same a zero = refl
shifted f g same a (suc n) = λ k. same a k ∷ shifted f g same (a + 1) n k

-- block i of these octets
abbrev block_at : List ℕ → ℕ → List ℕ
block_at octets i = padded_block (take 16 (drop (16 * i) octets))

pub blocks-cut : (octets chunk rest : List ℕ) → IsCut octets chunk rest → blocks octets ≡ padded_block chunk ∷ blocks rest
blocks-cut octets chunk rest cut =
    let size : length chunk ≡ min 16 (length (chunk ++ rest)) = cut.size ∙ ap (λ o. min 16 (length o)) cut.parts in
    let first : take 16 octets ≡ chunk = ap (take 16) cut.parts ∙ take-cut chunk rest size in
    let others : drop 16 octets ≡ rest = ap (drop 16) cut.parts ∙ drop-cut chunk rest size in
    let next : (i : ℕ) → block_at octets (i + 1) ≡ block_at rest i = λ i.
    let place : 16 * (i + 1) ≡ 16 + 16 * i = omega arith in
    ap (λ n. padded_block (take 16 (drop n octets))) place ∙ ap (λ o. padded_block (take 16 o)) (sym (drop-drop (16 * i) 16 octets))
    ∙ ap (λ o. block_at o i) others in
    ap (λ n. map (block_at octets) (range_with_len 0 n)) (block_count-cut octets chunk rest cut)
    ∙ (λ k. padded_block (first k) ∷ shifted (block_at octets) (block_at rest) next 0 (block_count rest) k)

pub length-cipher : (key block : List ℕ) → length (cipher key block) ≡ 16
unfolding cipher add_states
length-cipher key block = refl

pub length-key_block : (key nonce : List ℕ) (i : ℕ) → length (key_block key nonce i) ≡ 16
unfolding key_block
length-key_block key nonce i = length-cipher key (counter_block nonce i)

-- octets XORed with the key stream from block i on
abbrev pub ciphered : List ℕ → List ℕ → ℕ → List ℕ → List ℕ
ciphered key nonce i octets = xor_of octets (flat_map (key_block key nonce) (range_with_len i (block_count octets)))

-- the octets after a first part that is at least as long as the chunk do not matter
xor_of-short : (xs ys zs : List ℕ) → length xs ≤ length ys → xor_of xs (ys ++ zs) ≡ xor_of xs ys
xor_of-short [] ys zs le = refl
xor_of-short (x ∷ xs) [] zs le = absurd (omega arith)
xor_of-short (x ∷ xs) (y ∷ ys) zs le = ap (λ l. bit_xor x y ∷ l) (xor_of-short xs ys zs (omega arith))

xor_of-seam : (xs ys us vs : List ℕ) → length xs ≡ length us → xor_of (xs ++ ys) (us ++ vs) ≡ xor_of xs us ++ xor_of ys vs
xor_of-seam [] ys [] vs e = refl
xor_of-seam [] ys (u ∷ us) vs e = absurd (omega arith)
xor_of-seam (x ∷ xs) ys [] vs e = absurd (omega arith)
xor_of-seam (x ∷ xs) ys (u ∷ us) vs e = ap (λ l. bit_xor x u ∷ l) (xor_of-seam xs ys us vs (omega arith))

xor_of-cut : (chunk rest block others : List ℕ) → length chunk ≡ min 16 (length (chunk ++ rest)) → length block ≡ 16
    → xor_of (chunk ++ rest) (block ++ others) ≡ xor_of chunk block ++ xor_of rest others
xor_of-cut chunk [] block others size len =
    ap (λ o. xor_of o (block ++ others)) (append-nil chunk) ∙ xor_of-short chunk block others (omega (arith, size))
    ∙ sym (append-nil (xor_of chunk block))
xor_of-cut chunk (z ∷ zs) block others size len =
    xor_of-seam chunk (z ∷ zs) block others (omega (arith, size, length-append chunk (z ∷ zs)))

pub ciphered-cut : (key nonce octets chunk rest : List ℕ) (i : ℕ) → IsCut octets chunk rest
    → ciphered key nonce i octets ≡ xor_of chunk (key_block key nonce i) ++ ciphered key nonce (i + 1) rest
ciphered-cut key nonce octets chunk rest i cut =
    let size : length chunk ≡ min 16 (length (chunk ++ rest)) = cut.size ∙ ap (λ o. min 16 (length o)) cut.parts in
    (λ k. xor_of (cut.parts k) (flat_map (key_block key nonce) (range_with_len i (block_count-cut octets chunk rest cut k))))
    ∙ xor_of-cut chunk rest (key_block key nonce i) _ size (length-key_block key nonce i)

-- nothing is left
pub blocks-none : (octets : List ℕ) → length octets ≡ 0 → blocks octets ≡ []
blocks-none [] e = refl
blocks-none (x ∷ xs) e = absurd (omega arith)

pub ciphered-none : (key nonce : List ℕ) (i : ℕ) (octets : List ℕ) → length octets ≡ 0 → ciphered key nonce i octets ≡ []
ciphered-none key nonce i [] e = refl
ciphered-none key nonce i (x ∷ xs) e = absurd (omega arith)

pub length-xored_le : (xs ys : List ℕ) → length (xor_of xs ys) ≤ length xs
length-xored_le [] ys = omega arith
length-xored_le (x ∷ xs) [] = omega arith
length-xored_le (x ∷ xs) (y ∷ ys) = omega (arith, length-xored_le xs ys)
