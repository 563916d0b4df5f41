-- A number in hexadecimal digits is read as itself.
use Rattle.std.proofs.Common.{◌≡◌, ℕ, zero, suc, ◌-◌, ◌/◌, ◌^◌, ◌<◌, List, length, Some, refl, ◌∙◌, ap, arith, inl, inr}
use Rattle.std.specs.Prelude.{reverse}
use Rattle.std.specs.Int.{w32, w64, byte_at, bytes_high_first, to_be_bytes}
use Rattle.std.proofs.lemmas.Bool.{cases_lt}
use Rattle.std.proofs.lemmas.List.{get_or_past, get_or-reverse, length-reverse, reverse-reverse}
use Rattle.std.proofs.lemmas.Nat.{mod_below, from_be_bytes-to_be_bytes_4, from_be_bytes-to_be_bytes_8}
use Rattle.hex.specs.Hex.{IsBytes, encode_lower}
use Rattle.hex.proofs.HexLemmas.{decode_sized-encode_lower}
use Rattle.radio_replay.specs.Numbers.{address_of, cursor_of, octets_of, random_word_of}
use Rattle.radio_replay.specs.Spelling.{random_word_text}

octets_of-encode_lower : (octets : List ℕ) (count : ℕ) → length octets ≡ count → IsBytes octets → octets_of count (encode_lower octets) ≡ Some octets
octets_of-encode_lower octets count same h = rw (decode_sized-encode_lower octets count same h) refl

pub IsBytes-reverse : (octets : List ℕ) → IsBytes octets → IsBytes (reverse octets)
IsBytes-reverse octets h i =
    elim (cases_lt i (length octets)) [
      | inl lt ↦ rw (get_or-reverse octets i 0 lt) (h (length octets - 1 - i))
      | inr ge ↦ rw (get_or_past (reverse octets) i 0 (rw (length-reverse octets) ge)) (omega arith)
    ]

byte_at-below : (k n : ℕ) → byte_at k n < 256
byte_at-below zero n = mod_below n 256 (omega arith)
byte_at-below (suc k) n = mod_below (n / 256 ^ suc k) 256 (omega arith)

pub IsBytes-bytes_high_first : (k n : ℕ) → IsBytes (bytes_high_first k n)
IsBytes-bytes_high_first zero n i = omega arith
IsBytes-bytes_high_first (suc k) n zero = byte_at-below k n
IsBytes-bytes_high_first (suc k) n (suc i) = IsBytes-bytes_high_first k n i

pub address_of-text : (public : List ℕ) → length public ≡ 6 → IsBytes public → address_of (encode_lower (reverse public)) ≡ Some public
address_of-text public six h =
    rw (octets_of-encode_lower (reverse public) 6 (length-reverse public ∙ six) (IsBytes-reverse public h)) (ap Some (reverse-reverse public))

pub cursor_of-text : (cursor : ℕ) → cursor < 2 ^ 32 → cursor_of (encode_lower (to_be_bytes w32 cursor)) ≡ Some cursor
cursor_of-text cursor h =
    rw (octets_of-encode_lower (to_be_bytes w32 cursor) 4 refl (IsBytes-bytes_high_first 4 cursor)) (ap Some (from_be_bytes-to_be_bytes_4 cursor h))

pub random_word_of-text : (word : ℕ) → word < 2 ^ 64 → random_word_of (random_word_text word) ≡ Some word
random_word_of-text word h =
    rw (octets_of-encode_lower (to_be_bytes w64 word) 8 refl (IsBytes-bytes_high_first 8 word)) (ap Some (from_be_bytes-to_be_bytes_8 word h))
