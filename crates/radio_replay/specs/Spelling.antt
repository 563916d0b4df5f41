-- The text of a schedule in the plainest form (our choice).
use Rattle.std.specs.Prelude.{ℕ, zero, suc, ◌<◌, ◌≤◌, ◌≡◌, ◌^◌, List, [], ◌∷◌, ◌++◌, length, map, reverse, slice_index, codes, decimal}
use Rattle.std.specs.Int.{w32, w64, to_be_bytes}
use Rattle.std.specs.Bool.{⊤}
use Rattle.std.specs.List.{All, concat}
use Rattle.ble_base.specs.declared.Config.{Config}
use Rattle.ble_base.specs.declared.Side.{Side}
use Rattle.ble_base.specs.declared.Side.TheVariants.{A, B}
use Rattle.hex.specs.Hex.{IsBytes, encode_lower}
use Rattle.radio_replay.specs.declared.fates.Fate.{Fate}
use Rattle.radio_replay.specs.declared.fates.Fate.TheVariants.{Pass, Lost, Damage}
use Rattle.radio_replay.specs.Script.{CanBeFed, Turn}
use Rattle.radio_replay.specs.SideLine.{letter_of}
use Rattle.line_words.specs.Signs.{sign_of}
use Rattle.line_words.specs.Text.{line_of, with_newline}
use Rattle.ble_base.specs.Limits.{air_packet_octets, most_random_words}
use Rattle.radio_replay.specs.Limits.{last_place}

-- a random word in 16 hexadecimal digits
abbrev pub random_word_text : ℕ → List ℕ
random_word_text word = encode_lower (to_be_bytes w64 word)

-- the words of a side's line
abbrev pub side_words : Side → Config → List (List ℕ)
side_words side config =
    codes "side" ∷ (letter_of side ∷ []) ∷ encode_lower (reverse config.public)
    ∷ encode_lower (to_be_bytes w32 config.cursor) ∷ map random_word_text config.words.items

-- the word for what is fed to the side of a letter; none if it is fed nothing
abbrev pub feed_words : ℕ → ℕ → List (List ℕ)
feed_words letter zero = []
feed_words letter (suc count) = (letter ∷ decimal (suc count)) ∷ []

-- the word for a fate
abbrev pub fate_word : Fate → List ℕ
fate_word Pass = codes "."
fate_word Lost = codes "x"
fate_word (Damage at pattern) = codes "e" ++ (decimal at ++ (codes ":" ++ encode_lower pattern.items))

-- the words of a turn line
abbrev pub turn_words : Turn → List (List ℕ)
turn_words turn =
    codes "t" ∷ (sign_of turn.a_on ∷ sign_of turn.b_on ∷ [])
    ∷ (feed_words 97 turn.feed_a ++ (feed_words 98 turn.feed_b ++ map fate_word turn.fates))

-- the line of a run of turns
abbrev pub run_line : ℕ → List ℕ
run_line count = line_of (codes "run" ∷ decimal count ∷ [])

-- the lines of a schedule with these settings and turns
abbrev pub schedule_lines : Config → Config → List Turn → List (List ℕ)
schedule_lines a b turns =
    codes "ble-schedule 1" ∷ line_of (side_words A a) ∷ line_of (side_words B b)
    ∷ map (λ turn. line_of (turn_words turn)) turns

-- its text
abbrev pub schedule_text : Config → Config → List Turn → List ℕ
schedule_text a b turns = concat (map with_newline (schedule_lines a b turns))

-- the settings that a schedule can give: each number fits its type, and there are one to 64 random words
pub record CanBeSet (config : Config) : Type 0 where
  pub six : length config.public ≡ 6
  pub octets : (k : ℕ) → slice_index config.public k < 256
  pub cursor : config.cursor < 2 ^ 32
  pub words : (k : ℕ) → slice_index config.words.items k < 2 ^ 64
  pub some : 1 ≤ length config.words.items
  pub at_most : length config.words.items ≤ most_random_words

-- a fate that a schedule can give: a damage begins at a place from 0 to 263 and has 1 to 264 octets
abbrev pub CanBeDone : Fate → Type 0
CanBeDone Pass = ⊤
CanBeDone Lost = ⊤
CanBeDone (Damage at pattern) =
    (at ≤ last_place) × (1 ≤ length pattern.items) × (length pattern.items ≤ air_packet_octets) × IsBytes pattern.items

-- a turn that a schedule can give
abbrev pub CanBeTaken : Turn → Type 0
CanBeTaken turn = CanBeFed turn × All CanBeDone turn.fates
