-- What was sealed opens again, and only that.
use Rattle.std.proofs.Common.{◌≡◌, ℕ, zero, suc, ◌+◌, ◌-◌, ◌*◌, ◌/◌, ◌≤◌, List, [], ◌∷◌, ◌++◌, length, take, drop, fold, bit_xor, refl, ap, sym, ◌∙◌, arith, length-append}
use Rattle.std.specs.Int.Bits.{xor_assoc, xor_self, xor_zero_r}
use Rattle.std.specs.List.{flat_map, range_with_len}
use Rattle.std.proofs.lemmas.List.{length-take-le, take-append-drop}
use Rattle.std.proofs.Math.Seq.{drop-append_seam, take-append_seam}
use Rattle.aes_block.specs.Cipher.{cipher}
use Rattle.ccm_link.specs.Ccm.{HasMic, block_count, blocks, chain_step, mic, ciphertext, first_block, key_block, opened_payload, sealed_payload, authentication_field, two_octets, xor_of}
use Rattle.ccm_link.specs.Payload.{IsGenuine}
use Rattle.ccm_link.proofs.Cutting.{length-cipher, length-key_block}

length-xor_of : (xs ys : List ℕ) → length xs ≤ length ys → length (xor_of xs ys) ≡ length xs
length-xor_of [] ys le = refl
length-xor_of (x ∷ xs) [] le = absurd (omega arith)
length-xor_of (x ∷ xs) (y ∷ ys) le = omega (arith, length-xor_of xs ys (omega arith))

xor_of-xor_of : (xs ys : List ℕ) → length xs ≤ length ys → xor_of (xor_of xs ys) ys ≡ xs
xor_of-xor_of [] ys le = refl
xor_of-xor_of (x ∷ xs) [] le = absurd (omega arith)
xor_of-xor_of (x ∷ xs) (y ∷ ys) le =
    let back : bit_xor (bit_xor x y) y ≡ x = xor_assoc x y y ∙ ap (bit_xor x) (xor_self y) ∙ xor_zero_r x in
    λ i. back i ∷ xor_of-xor_of xs ys (omega arith) i

length-stream : (key nonce : List ℕ) (i n : ℕ) → length (flat_map (key_block key nonce) (range_with_len i n)) ≡ 16 * n
length-stream key nonce i zero = refl
length-stream key nonce i (suc n) =
    length-append (key_block key nonce i) _
    ∙ omega (arith, length-key_block key nonce i, length-stream key nonce (i + 1) n)

-- the key stream is as long as the octets, or longer
covers : (key nonce octets : List ℕ) → length octets ≤ length (flat_map (key_block key nonce) (range_with_len 1 (block_count octets)))
covers key nonce octets = omega (arith, length-stream key nonce 1 (block_count octets))

pub length-ciphertext : (key nonce octets : List ℕ) → length (ciphertext key nonce octets) ≡ length octets
unfolding ciphertext
length-ciphertext key nonce octets = length-xor_of octets _ (covers key nonce octets)

pub ciphertext-ciphertext : (key nonce octets : List ℕ) → ciphertext key nonce (ciphertext key nonce octets) ≡ octets
unfolding ciphertext
ciphertext-ciphertext key nonce octets =
    ap (λ n. xor_of (ciphertext key nonce octets) (flat_map (key_block key nonce) (range_with_len 1 ((n + 15) / 16))))
    (length-ciphertext key nonce octets)
    ∙ xor_of-xor_of octets _ (covers key nonce octets)

length-chain_step : (key x : List ℕ) (bs : List (List ℕ)) → length x ≡ 16 → length (fold (chain_step key) x bs) ≡ 16
length-chain_step key x [] e = e
length-chain_step key x (b ∷ bs) e = length-chain_step key (chain_step key x b) bs (length-cipher key (xor_of x b))

pub length-mic : (key nonce extra message : List ℕ) → length (mic key nonce extra message) ≡ 4
unfolding mic authentication_field
length-mic key nonce extra message =
    let bs : List (List ℕ) = blocks (two_octets (length extra) ++ extra) ++ blocks message in
    let start : List ℕ = first_block nonce (length message) in
    let four : length (authentication_field key nonce extra message) ≡ 4 =
    length-take-le 4 (fold (chain_step key) (cipher key start) bs)
    (omega (arith, length-chain_step key (cipher key start) bs (length-cipher key start))) in
    length-xor_of (authentication_field key nonce extra message) (key_block key nonce 0) (omega (arith, four, length-key_block key nonce 0))
    ∙ four

pub length-sealed_payload : (key nonce extra message : List ℕ) → length (sealed_payload key nonce extra message) ≡ length message + 4
unfolding sealed_payload
length-sealed_payload key nonce extra message =
    omega (arith, length-append (ciphertext key nonce message) (mic key nonce extra message), length-ciphertext key nonce message, length-mic key nonce extra message)

-- where the MIC begins
mic_place : (key nonce extra message : List ℕ) → length (sealed_payload key nonce extra message) - 4 ≡ length (ciphertext key nonce message)
mic_place key nonce extra message = omega (arith, length-sealed_payload key nonce extra message, length-ciphertext key nonce message)

pub opened_payload-sealed_payload : (key nonce extra message : List ℕ) → opened_payload key nonce (sealed_payload key nonce extra message) ≡ message
unfolding opened_payload sealed_payload
opened_payload-sealed_payload key nonce extra message =
    ap (λ n. ciphertext key nonce (take n (sealed_payload key nonce extra message))) (mic_place key nonce extra message)
    ∙ ap (ciphertext key nonce) (take-append_seam (ciphertext key nonce message) (mic key nonce extra message))
    ∙ ciphertext-ciphertext key nonce message

pub HasMic-sealed_payload : (key nonce extra message : List ℕ) → HasMic key nonce extra (sealed_payload key nonce extra message)
unfolding sealed_payload
HasMic-sealed_payload key nonce extra message =
    ap (λ n. drop n (sealed_payload key nonce extra message)) (mic_place key nonce extra message)
    ∙ drop-append_seam (ciphertext key nonce message) (mic key nonce extra message)
    ∙ ap (mic key nonce extra) (sym (opened_payload-sealed_payload key nonce extra message))

pub sealed_payload-opened_payload : (key nonce extra octets : List ℕ) → HasMic key nonce extra octets
    → sealed_payload key nonce extra (opened_payload key nonce octets) ≡ octets
unfolding sealed_payload opened_payload
sealed_payload-opened_payload key nonce extra octets mic =
    let front : ℕ = length octets - 4 in
    (λ i. ciphertext-ciphertext key nonce (take front octets) i ++ sym mic i)
    ∙ take-append-drop front octets

pub IsGenuine-sealed_payload : (key nonce extra message : List ℕ) → 1 ≤ length message → IsGenuine key nonce extra (sealed_payload key nonce extra message)
IsGenuine-sealed_payload key nonce extra message some = record {
  long = omega (arith, length-sealed_payload key nonce extra message);
  mic = HasMic-sealed_payload key nonce extra message;
}
