-- Sealed payloads under a key of which the cipher is known.
use Rattle.std.proofs.Common.{◌≡◌, ℕ, ◌-◌, List, ◌++◌, length, take, drop, fold, refl, ap, ◌∙◌}
use Rattle.std.specs.Prelude.{Bool, ◌&&◌, nat_le}
use Rattle.std.specs.List.{flat_map, range_with_len}
use Rattle.std.specs.Str.{bytes_eq}
use Rattle.aes_block.specs.Cipher.{cipher}
use Rattle.ccm_link.specs.Ccm.{authentication_field, block_count, blocks, ciphertext, counter_block, first_block, key_block, mic, opened_payload, sealed_payload, two_octets, xor_of}
use Rattle.ccm_link.specs.Payload.{is_genuine, session_key}
use Rattle.sealed_journals.specs.Sample.{central_skd, long_term_key, peripheral_skd, sample_key}
use Rattle.sealed_journals.proofs.Blocks.{block_of}
use Rattle.sealed_journals.proofs.Keys.{sample_cipher, sample_key_words, session_key_is}

abbrev pub ciphertext_by : (List ℕ → List ℕ) → List ℕ → List ℕ → List ℕ
ciphertext_by e nonce message =
    xor_of message (flat_map (λ i. e (counter_block nonce i)) (range_with_len 1 (block_count message)))

abbrev pub mic_by : (List ℕ → List ℕ) → List ℕ → List ℕ → List ℕ → List ℕ
mic_by e nonce extra message =
    xor_of
    (take 4 (fold (λ x block. e (xor_of x block)) (e (first_block nonce (length message)))
    (blocks (two_octets (length extra) ++ extra) ++ blocks message)))
    (e (counter_block nonce 0))

abbrev pub sealed_by : (List ℕ → List ℕ) → List ℕ → List ℕ → List ℕ → List ℕ
sealed_by e nonce extra message = ciphertext_by e nonce message ++ mic_by e nonce extra message

abbrev pub genuine_by : (List ℕ → List ℕ) → List ℕ → List ℕ → List ℕ → Bool
genuine_by e nonce extra octets =
    nat_le 5 (length octets)
    && bytes_eq (drop (length octets - 4) octets)
    (mic_by e nonce extra (ciphertext_by e nonce (take (length octets - 4) octets)))

sealed_is : (key nonce extra message : List ℕ)
    → sealed_payload key nonce extra message ≡ sealed_by (cipher key) nonce extra message
unfolding sealed_payload ciphertext mic authentication_field key_block
sealed_is key nonce extra message = refl

genuine_is : (key nonce extra octets : List ℕ)
    → is_genuine key nonce extra octets ≡ genuine_by (cipher key) nonce extra octets
unfolding opened_payload ciphertext mic authentication_field key_block
genuine_is key nonce extra octets = refl

pub session_sealed : (nonce extra message : List ℕ)
    → sealed_payload (session_key long_term_key central_skd peripheral_skd) nonce extra message
    ≡ sealed_by (block_of sample_key_words) nonce extra message
session_sealed nonce extra message =
    ap (λ key. sealed_payload key nonce extra message) session_key_is ∙ sealed_is sample_key nonce extra message
    ∙ ap (λ (e : List ℕ → List ℕ). sealed_by e nonce extra message) sample_cipher

pub session_genuine : (nonce extra octets : List ℕ)
    → is_genuine (session_key long_term_key central_skd peripheral_skd) nonce extra octets
    ≡ genuine_by (block_of sample_key_words) nonce extra octets
session_genuine nonce extra octets =
    ap (λ key. is_genuine key nonce extra octets) session_key_is ∙ genuine_is sample_key nonce extra octets
    ∙ ap (λ (e : List ℕ → List ℕ). genuine_by e nonce extra octets) sample_cipher
