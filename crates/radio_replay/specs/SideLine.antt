-- The settings of a controller in the line of its side (our choice).
use Rattle.std.specs.Prelude.{ℕ, ◌&&◌, nat_le, List, [], ◌∷◌, length, Option, Some, None, if◌then◌else◌, codes}
use Rattle.std.specs.Str.{bytes_eq}
use Rattle.ble_base.specs.declared.Config.{Config}
use Rattle.ble_base.specs.declared.Side.{Side}
use Rattle.ble_base.specs.declared.Side.TheVariants.{A, B}
use Rattle.radio_replay.specs.Numbers.{address_of, cursor_of, random_word_of}
use Rattle.radio_replay.specs.Gathering.{with_first}
use Rattle.line_words.specs.Text.{words_of}
use Rattle.ble_base.specs.Limits.{most_random_words}

-- the letter that names a side
abbrev pub letter_of : Side → ℕ
letter_of A = 97
letter_of B = 98

-- the random words that all these words spell
abbrev pub all_random_words : List (List ℕ) → Option (List ℕ)
all_random_words [] = Some []
all_random_words (word ∷ words) = with_first (random_word_of word) (all_random_words words)

-- the random words that one to 64 words spell
abbrev pub random_words_in : List (List ℕ) → Option (List ℕ)
random_words_in words =
    if nat_le 1 (length words) && nat_le (length words) most_random_words then all_random_words words else None

-- the settings, if each part was read
abbrev pub settings : Option (List ℕ) → Option ℕ → Option (List ℕ) → Option Config
settings None cursor words = None
settings (Some address) None words = None
settings (Some address) (Some cursor) None = None
settings (Some address) (Some cursor) (Some words) =
    Some (record { public = address; cursor = cursor; words = record { items = words } })

-- `side`, the letter of the side, the public address, the cursor, and the random words
abbrev pub config_in_words : Side → List (List ℕ) → Option Config
config_in_words side (head ∷ letter ∷ address ∷ cursor ∷ words) =
    if bytes_eq head (codes "side") && bytes_eq letter (letter_of side ∷ [])
    then settings (address_of address) (cursor_of cursor) (random_words_in words) else None
config_in_words side _ = None

-- the settings of a side in its line, if there is that line
abbrev pub config_in_line : Side → Option (List ℕ) → Option Config
config_in_line side None = None
config_in_line side (Some line) = config_in_words side (words_of line)
