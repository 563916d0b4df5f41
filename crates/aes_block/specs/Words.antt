-- Octets in words of 32 bits, four in each, most significant first (our choice).
use Rattle.std.specs.Prelude.{ℕ, List, map, slice_index}
use Rattle.std.specs.Int.{to_be_bytes, w32}
use Rattle.aes_block.specs.State.{state_of}

-- the four octets of a word
abbrev pub word_octets : ℕ → List ℕ
word_octets word = to_be_bytes w32 word

-- the sixteen octets of a state of four words, a column in each
abbrev pub state_octets : List ℕ → List ℕ
state_octets words = state_of (λ r c. slice_index (word_octets (slice_index words c)) r)

-- words, each as the list of its four octets
abbrev pub octet_words : List ℕ → List (List ℕ)
octet_words words = map word_octets words
