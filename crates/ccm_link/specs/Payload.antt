-- CCM on the payloads of one link: Core 5.2, volume 6 part E, section 2, and for the session key volume 6
-- part B, section 5.1.3.1.
use Rattle.std.specs.Prelude.{ℕ, ◌+◌, ◌^◌, ◌-◌, ◌≤◌, ◌&&◌, nat_le, Bool, List, [], ◌∷◌, ◌++◌, length, take, drop, bit_and, if◌then◌else◌}
use Rattle.std.specs.Str.{bytes_eq}
use Rattle.std.specs.Int.{to_be_bytes, to_le_bytes, w64}
use Rattle.aes_block.specs.Cipher.{cipher}
use Rattle.ccm_link.specs.Ccm.{HasMic, mic, opened_payload}

-- the session key: the session key diversifier is encrypted under the long term key; its upper half is the
-- peripheral's part and its lower half the central's
unfoldable pub session_key : List ℕ → ℕ → ℕ → List ℕ
session_key ltk skd_m skd_s = cipher ltk (to_be_bytes w64 skd_s ++ to_be_bytes w64 skd_m)

-- the nonce (section 2.1): 39 bits of packet counter and above them the direction, which is 1 from the central,
-- least significant octet first; then the eight octets of the IV
unfoldable pub nonce : ℕ → Bool → List ℕ → List ℕ
nonce counter from_central iv = take 5 (to_le_bytes w64 (counter + (if from_central then 2 ^ 39 else 0))) ++ iv

-- the additional data (section 2.2): the first header octet with NESN, SN and MD as 0
abbrev pub additional_data : ℕ → List ℕ
additional_data header = bit_and header 0xE3 ∷ []

-- a sealed payload: more than four octets, of which the last four are the MIC (section 2)
pub record IsGenuine (key nonce extra octets : List ℕ) : Type 0 where
  pub long : 5 ≤ length octets
  pub mic : HasMic key nonce extra octets

-- the same as a test: the integrity check of the payload is right
abbrev pub is_genuine : List ℕ → List ℕ → List ℕ → List ℕ → Bool
is_genuine key nonce extra octets =
    nat_le 5 (length octets)
    && bytes_eq (drop (length octets - 4) octets) (mic key nonce extra (opened_payload key nonce octets))
