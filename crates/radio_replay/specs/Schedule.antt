-- The schedule of a text, and the faults of reading one (our choice).
use Rattle.std.specs.Prelude.{◌≡◌, ℕ, ◌+◌, ◌-◌, ◌^◌, nat_le, min, Bool, true, false, List, [], ◌∷◌, ◌++◌, length, drop, Option, Some, None, Result, Ok, Err, slice_get, if◌then◌else◌, codes}
use Rattle.std.specs.Bool.{⊤}
use Rattle.std.specs.Option.{option_map}
use Rattle.std.specs.Str.{bytes_eq}
use Rattle.ble_base.specs.declared.Config.{Config}
use Rattle.ble_base.specs.declared.Side.TheVariants.{A, B}
use Rattle.radio_replay.specs.declared.faults.ScheduleFault.{ScheduleFault}
use Rattle.radio_replay.specs.declared.faults.ScheduleFault.TheVariants.{BadLine, TooLong, Memory}
use Rattle.radio_replay.specs.Script.{Turn}
use Rattle.radio_replay.specs.SideLine.{config_in_line}
use Rattle.line_words.specs.Text.{lines_of, words_of}
use Rattle.radio_replay.specs.declared.lines.Line.{Line}
use Rattle.radio_replay.specs.TurnLine.{line_in, line_turns}
use Rattle.radio_replay.specs.Limits.{most_turns}

-- a text is right, with these settings and turns; or it has a first line at fault, counted from 1: a line outside the
-- grammar, or one with which there are too many turns
pub data Reading : Type 0 where
  Right : Config → Config → List Turn → Reading
  Wrong : ℕ → Reading
  TooMany : ℕ → Reading

-- why a line is at fault: it is outside the grammar, or there are too many turns with it
pub data LineFault : Type 0 where
  Outside : LineFault
  PastLimit : LineFault

-- whether there is a first line and it is `ble-schedule 1`
abbrev pub is_heading : Option (List ℕ) → Bool
is_heading None = false
is_heading (Some line) = bytes_eq line (codes "ble-schedule 1")

-- the turns before a line and then those of the line: at most 100,000
abbrev pub with_line : List Turn → Option (List Turn) → Result (List Turn) LineFault
with_line turns None = Err Outside
with_line turns (Some more) =
    if nat_le (length turns + length more) most_turns then Ok (turns ++ more) else Err PastLimit

-- the turns after a line of this number, if it is not at fault
abbrev pub turns_then : ℕ → Result (List Turn) LineFault → (List Turn → Result (List Turn) (LineFault × ℕ))
    → Result (List Turn) (LineFault × ℕ)
turns_then number (Err fault) later = Err (fault, number)
turns_then number (Ok turns) later = later turns

-- these turns and then those of these lines, of which the first has this number; or why and where a line is first at
-- fault
abbrev pub turns_from : ℕ → List Turn → List (List ℕ) → Result (List Turn) (LineFault × ℕ)
turns_from number turns [] = Ok turns
turns_from number turns (line ∷ lines) =
    turns_then number (with_line turns (option_map line_turns (line_in (words_of line))))
    (λ longer. turns_from (number + 1) longer lines)

-- the reading of a text by its heading, its settings and its turns: the first of them that is at fault decides
abbrev pub reading : Bool → Option Config → Option Config → Result (List Turn) (LineFault × ℕ) → Reading
reading false a b turns = Wrong 1
reading true None b turns = Wrong 2
reading true (Some a) None turns = Wrong 3
reading true (Some a) (Some b) (Err (Outside, line)) = Wrong line
reading true (Some a) (Some b) (Err (PastLimit, line)) = TooMany line
reading true (Some a) (Some b) (Ok turns) = Right a b turns

-- line 1 is the heading, line 2 that of side A, line 3 that of side B, and the further lines are turns; a missing line
-- of the first three is at fault
abbrev pub schedule_of : List ℕ → Reading
schedule_of text =
    reading (is_heading (slice_get (lines_of text) 0)) (config_in_line A (slice_get (lines_of text) 1))
    (config_in_line B (slice_get (lines_of text) 2)) (turns_from 4 [] (drop 3 (lines_of text)))

-- the number of a line in a fault, at most 2 ^ 32 - 1
abbrev pub line_number : ℕ → ℕ
line_number number = min number (2 ^ 32 - 1)

-- a fault names a line that is outside the grammar or one that has too many turns; out of memory names none
abbrev pub IsFault : (ℕ → Type 0) → (ℕ → Type 0) → ScheduleFault → Type 0
IsFault is_wrong is_past Memory = ⊤
IsFault is_wrong is_past (BadLine number) = (line : ℕ) × is_wrong line × (number ≡ line_number line)
IsFault is_wrong is_past (TooLong number) = (line : ℕ) × is_past line × (number ≡ line_number line)

-- a fault of the line of this number, of which this was read
abbrev pub IsLineFault : ℕ → Result (List Turn) LineFault → ScheduleFault → Type 0
IsLineFault number read Memory = ⊤
IsLineFault number read (BadLine line) = (read ≡ Err Outside) × (line ≡ number)
IsLineFault number read (TooLong line) = (read ≡ Err PastLimit) × (line ≡ number)

-- a line that was read, or its fault by its number: it is outside the grammar, or there are too many turns with it
abbrev pub checked_line : Option Line → ℕ → ℕ → Result Line ScheduleFault
checked_line None turns number = Err (BadLine number)
checked_line (Some line) turns number =
    if nat_le (turns + length (line_turns line)) most_turns then Ok line else Err (TooLong number)

-- the settings that were read of lines 2 and 3, or the fault of the first of the three lines that is at fault
abbrev pub settings_read : Bool → Option Config → Option Config → Result (Config × Config) ScheduleFault
settings_read false a b = Err (BadLine 1)
settings_read true None b = Err (BadLine 2)
settings_read true (Some a) None = Err (BadLine 3)
settings_read true (Some a) (Some b) = Ok (a, b)

-- the settings in the first three of these lines
abbrev pub read_settings : List (List ℕ) → Result (Config × Config) ScheduleFault
read_settings lines =
    settings_read (is_heading (slice_get lines 0)) (config_in_line A (slice_get lines 1))
    (config_in_line B (slice_get lines 2))
