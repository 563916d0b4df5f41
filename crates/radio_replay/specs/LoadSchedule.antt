-- The schedule of a load, in the plainest form (our choice): A and B connect, and then come blocks of 24 turns, each with
-- one event of the link.
use Rattle.std.specs.Prelude.{◌≡◌, ℕ, zero, suc, ◌+◌, ◌%◌, ◌==◌, nat_lt, Bool, List, [], ◌∷◌, ◌++◌, if◌then◌else◌, codes, map, replicate}
use Rattle.std.specs.List.{concat}
use Rattle.ble_base.specs.declared.Config.{Config}
use Rattle.ble_base.specs.declared.Side.TheVariants.{A, B}
use Rattle.line_words.specs.Text.{line_of, with_newline}
use Rattle.radio_replay.specs.declared.fates.Fate.TheVariants.{Lost}
use Rattle.radio_replay.specs.Damage.{damaged_packet}
use Rattle.radio_replay.specs.LoadStreams.{load_packets, size_of}
use Rattle.radio_replay.specs.Script.{Turn, fate_of}
use Rattle.radio_replay.specs.Spelling.{run_line, side_words, turn_words}
use Rattle.radio_replay.specs.TurnLine.{plain_turn}

-- ---- turns

-- both radios are on, the hosts are fed so many octets, and all packets pass
abbrev pub turn_fed : ℕ → ℕ → Turn
turn_fed a b = record plain_turn { feed_a = a; feed_b = b }

-- in the first blocks both hosts are fed a packet, which is five octets longer than its data
abbrev pub has_packet : ℕ → Bool
has_packet block = nat_lt block load_packets

abbrev pub fed_in : ℕ → ℕ
fed_in block = 5 + size_of block

abbrev pub feeding_turn : ℕ → Turn
feeding_turn block = if has_packet block then turn_fed (fed_in block) (fed_in block) else plain_turn

-- the turn of an event: its first packet is lost in every third block, and which these are is by the number
abbrev pub is_lost_in : ℕ → ℕ → Bool
is_lost_in number block = block % 3 == number % 3

abbrev pub event_turn : ℕ → ℕ → Turn
event_turn number block = if is_lost_in number block then record plain_turn { fates = Lost ∷ [] } else plain_turn

-- how many plain turns end a block
abbrev pub turns_between : ℕ
turns_between = 22

abbrev pub block_turns : ℕ → ℕ → List Turn
block_turns number block = feeding_turn block ∷ event_turn number block ∷ replicate turns_between plain_turn

-- the turns of the blocks before this one
unfoldable pub turns_before : ℕ → ℕ → List Turn
turns_before number zero = []
turns_before number (suc block) = turns_before number block ++ block_turns number block

-- how many blocks there are
abbrev pub load_blocks : ℕ
load_blocks = 220

-- the turn in which A is to connect and B is to advertise
abbrev pub first_turn : Turn
first_turn = turn_fed 29 5

abbrev pub load_turns : ℕ → List Turn
load_turns number = first_turn ∷ turns_before number load_blocks

-- the fates of a turn change no packet
abbrev pub ChangesNone : Turn → Type 0
ChangesNone turn = (packet : ℕ) (octets : List ℕ) → damaged_packet (fate_of turn packet) octets ≡ octets

-- ---- settings

abbrev pub load_settings_a : Config
load_settings_a = record {
  public = 0x0A ∷ 0x00 ∷ 0x00 ∷ 0xEE ∷ 0xFF ∷ 0xC0 ∷ [];
  cursor = 0x71764129;
  words = record { items = 1 ∷ [] };
}

abbrev pub load_settings_b : Config
load_settings_b = record {
  public = 0x0B ∷ 0x00 ∷ 0x00 ∷ 0xEE ∷ 0xFF ∷ 0xC0 ∷ [];
  cursor = 0x71764129;
  words = record { items = 2 ∷ [] };
}

-- ---- the text

abbrev pub turn_line : Turn → List ℕ
turn_line turn = line_of (turn_words turn)

abbrev pub block_lines : ℕ → ℕ → List (List ℕ)
block_lines number block =
    turn_line (feeding_turn block) ∷ turn_line (event_turn number block) ∷ run_line turns_between ∷ []

-- the lines of the blocks before this one
unfoldable pub lines_before : ℕ → ℕ → List (List ℕ)
lines_before number zero = []
lines_before number (suc block) = lines_before number block ++ block_lines number block

abbrev pub first_lines : List (List ℕ)
first_lines = codes "ble-schedule 1" ∷ line_of (side_words A load_settings_a) ∷ line_of (side_words B load_settings_b)
    ∷ turn_line first_turn ∷ []

abbrev pub text_of_lines : List (List ℕ) → List ℕ
text_of_lines lines = concat (map with_newline lines)

abbrev pub load_schedule : ℕ → List ℕ
load_schedule number = text_of_lines (first_lines ++ lines_before number load_blocks)
