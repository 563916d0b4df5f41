-- The numbers that words of hexadecimal digits spell (our choice).
use Rattle.std.specs.Prelude.{ℕ, List, Option, reverse}
use Rattle.std.specs.Int.{w32, w64, from_be_bytes}
use Rattle.std.specs.Option.{option_map}
use Rattle.std.specs.Result.{result_ok}
use Rattle.hex.specs.Hex.{decode_sized}

-- the octets that a word of two hexadecimal digits for each of them spells, in either case
abbrev pub octets_of : ℕ → List ℕ → Option (List ℕ)
octets_of count word = result_ok (decode_sized word count)

-- the public device address of 12 digits, least significant octet first; the most significant octet is written first
abbrev pub address_of : List ℕ → Option (List ℕ)
address_of word = option_map reverse (octets_of 6 word)

-- the number of 8 digits
abbrev pub cursor_of : List ℕ → Option ℕ
cursor_of word = option_map (from_be_bytes w32) (octets_of 4 word)

-- the number of 16 digits
abbrev pub random_word_of : List ℕ → Option ℕ
random_word_of word = option_map (from_be_bytes w64) (octets_of 8 word)
