-- CCM over AES-128 as RFC 3610 defines it, with an authentication value of four octets (M = 4), a length field
-- of two (L = 2) and additional data of 1 to 65279 octets. Section numbers are those of the RFC.
use Rattle.std.specs.Prelude.{◌≡◌, ℕ, ◌+◌, ◌-◌, ◌*◌, ◌/◌, List, [], ◌∷◌, ◌++◌, length, take, drop, map, fold, replicate, bit_xor}
use Rattle.std.specs.Int.{to_be_bytes, w16}
use Rattle.std.specs.List.{flat_map, range_with_len}
use Rattle.aes_block.specs.Cipher.{cipher}

-- XOR, octet by octet, up to the end of the shorter list
abbrev pub xor_of : List ℕ → List ℕ → List ℕ
xor_of [] ys = []
xor_of (x ∷ xs) [] = []
xor_of (x ∷ xs) (y ∷ ys) = bit_xor x y ∷ xor_of xs ys

-- a number below 2^16, most significant octet first
abbrev pub two_octets : ℕ → List ℕ
two_octets n = to_be_bytes w16 n

-- the number of blocks of 16 octets that these octets fill (section 2.2)
abbrev pub block_count : List ℕ → ℕ
block_count octets = (length octets + 15) / 16

-- a block of at most 16 octets, filled up with zeros (section 2.2)
abbrev pub padded_block : List ℕ → List ℕ
padded_block octets = octets ++ replicate (16 - length octets) 0

-- octets cut into blocks of 16, of which the last is filled up with zeros (section 2.2)
abbrev pub blocks : List ℕ → List (List ℕ)
blocks octets = map (λ i. padded_block (take 16 (drop (16 * i) octets))) (range_with_len 0 (block_count octets))

-- a block of flags, nonce and a number (sections 2.2 and 2.3)
abbrev pub block_with : ℕ → List ℕ → ℕ → List ℕ
block_with flags nonce number = flags ∷ nonce ++ two_octets number

-- B_0: flags (64 for additional data, 8 * (M - 2) / 2 and L - 1), nonce and length of the message (section 2.2)
abbrev pub first_block : List ℕ → ℕ → List ℕ
first_block nonce len = block_with 0x49 nonce len

-- X_(i + 1) of X_i and B_i (section 2.2)
abbrev pub chain_step : List ℕ → List ℕ → List ℕ → List ℕ
chain_step key x block = cipher key (xor_of x block)

-- T: the first four octets of the last X. The blocks after B_0 are those of the additional data, which its length
-- precedes, and then those of the message (section 2.2)
unfoldable pub authentication_field : List ℕ → List ℕ → List ℕ → List ℕ → List ℕ
authentication_field key nonce extra message =
    take 4 (fold (chain_step key) (cipher key (first_block nonce (length message)))
    (blocks (two_octets (length extra) ++ extra) ++ blocks message))

-- A_i: the flags L - 1, nonce and block counter (section 2.3)
abbrev pub counter_block : List ℕ → ℕ → List ℕ
counter_block nonce i = block_with 0x01 nonce i

-- S_i (section 2.3)
unfoldable pub key_block : List ℕ → List ℕ → ℕ → List ℕ
key_block key nonce i = cipher key (counter_block nonce i)

-- the message XOR the concatenation of S_1, S_2, .. (section 2.3); the same again decrypts (section 2.5)
unfoldable pub ciphertext : List ℕ → List ℕ → List ℕ → List ℕ
ciphertext key nonce message = xor_of message (flat_map (key_block key nonce) (range_with_len 1 (block_count message)))

-- U: T XOR the first four octets of S_0 (section 2.3); the link layer's message integrity check, MIC
unfoldable pub mic : List ℕ → List ℕ → List ℕ → List ℕ → List ℕ
mic key nonce extra message = xor_of (authentication_field key nonce extra message) (key_block key nonce 0)

-- the encrypted message, and after it U (section 2.4)
unfoldable pub sealed_payload : List ℕ → List ℕ → List ℕ → List ℕ → List ℕ
sealed_payload key nonce extra message = ciphertext key nonce message ++ mic key nonce extra message

-- the message in what was received: all but four octets, decrypted (section 2.5)
unfoldable pub opened_payload : List ℕ → List ℕ → List ℕ → List ℕ
opened_payload key nonce octets = ciphertext key nonce (take (length octets - 4) octets)

-- the last four octets are U of that message (section 2.5)
abbrev pub HasMic : List ℕ → List ℕ → List ℕ → List ℕ → Type 0
HasMic key nonce extra octets = drop (length octets - 4) octets ≡ mic key nonce extra (opened_payload key nonce octets)
