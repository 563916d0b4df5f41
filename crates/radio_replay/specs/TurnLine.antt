-- The turns of a line after the first three (our choice).
use Rattle.std.specs.Prelude.{ℕ, ◌==◌, Bool, true, List, [], ◌∷◌, Option, Some, None, if◌then◌else◌, codes, replicate}
use Rattle.std.specs.Option.{option_map}
use Rattle.std.specs.Str.{bytes_eq}
use Rattle.radio_replay.specs.declared.fates.Fate.{Fate}
use Rattle.radio_replay.specs.declared.lines.Line.{Line}
use Rattle.radio_replay.specs.declared.lines.Line.TheVariants.{Run, Single}
use Rattle.radio_replay.specs.FateWord.{fate_in}
use Rattle.line_words.specs.Numbers.{number_in, in_range}
use Rattle.line_words.specs.Signs.{sign_value}
use Rattle.radio_replay.specs.Gathering.{with_first}
use Rattle.radio_replay.specs.Script.{Turn}
use Rattle.radio_replay.specs.Limits.{most_fed, most_repeated}

-- the two radios, if both were read
abbrev pub both_radios : Option Bool → Option Bool → Option (Bool × Bool)
both_radios None b = None
both_radios (Some a) None = None
both_radios (Some a) (Some b) = Some (a, b)

-- the radios of A and of B in a word of two characters
abbrev pub radios_of : List ℕ → Option (Bool × Bool)
radios_of [] = None
radios_of (a ∷ []) = None
radios_of (a ∷ b ∷ []) = both_radios (sign_value a) (sign_value b)
radios_of (a ∷ b ∷ c ∷ more) = None

-- the number of octets that a turn feeds to a side, and the words of its line after that
pub record Feed : Type 0 where
  pub count : ℕ
  pub words : List (List ℕ)

-- a feed of this number of octets, with these words after it
abbrev pub feed_of_count : Option ℕ → List (List ℕ) → Option Feed
feed_of_count None words = None
feed_of_count (Some count) words = Some (record { count = count; words = words })

-- `aN` or `bN` for a letter, N from 1 to 1048576; nothing is fed if the next word does not begin with the letter
abbrev pub feed_in : ℕ → List (List ℕ) → Option Feed
feed_in letter [] = feed_of_count (Some 0) []
feed_in letter ([] ∷ words) = feed_of_count (Some 0) ([] ∷ words)
feed_in letter ((octet ∷ digits) ∷ words) =
    if octet == letter then feed_of_count (in_range 1 most_fed (number_in digits)) words
    else feed_of_count (Some 0) ((octet ∷ digits) ∷ words)

-- the fates that all these words spell
abbrev pub fates_in : List (List ℕ) → Option (List Fate)
fates_in [] = Some []
fates_in (word ∷ words) = with_first (fate_in word) (fates_in words)

-- the turn with these radios and feeds; fates are in the words after the feed of B
abbrev pub turn_after_feeds : Bool × Bool → ℕ → Option Feed → Option Turn
turn_after_feeds radios feed_a None = None
turn_after_feeds radios feed_a (Some b) =
    option_map (λ fates. record {
      a_on = radios.0;
      b_on = radios.1;
      feed_a = feed_a;
      feed_b = b.count;
      fates = fates;
    }) (fates_in b.words)

-- the turn with these radios after the feed of A
abbrev pub turn_after_feed_a : Bool × Bool → Option Feed → Option Turn
turn_after_feed_a radios None = None
turn_after_feed_a radios (Some a) = turn_after_feeds radios a.count (feed_in 98 a.words)

-- the turn after its radios
abbrev pub turn_after_radios : Option (Bool × Bool) → List (List ℕ) → Option Turn
turn_after_radios None words = None
turn_after_radios (Some radios) words = turn_after_feed_a radios (feed_in 97 words)

-- the radios, the feed of A, the feed of B, and the fates
abbrev pub turn_in : List (List ℕ) → Option Turn
turn_in [] = None
turn_in (radios ∷ words) = turn_after_radios (radios_of radios) words

-- one number from 1, of at most six digits
abbrev pub count_in : List (List ℕ) → Option ℕ
count_in (word ∷ []) = in_range 1 most_repeated (number_in word)
count_in _ = None

-- `run` and a number, or `t` and a turn
abbrev pub line_in : List (List ℕ) → Option Line
line_in [] = None
line_in (head ∷ words) =
    if bytes_eq head (codes "run") then option_map Run (count_in words)
    else if bytes_eq head (codes "t") then option_map Single (turn_in words)
    else None

-- a turn with both radios on, in which nothing is fed and all packets pass
abbrev pub plain_turn : Turn
plain_turn = record { a_on = true; b_on = true; feed_a = 0; feed_b = 0; fates = [] }

-- the turns of a line: a run of plain turns, or one turn
abbrev pub line_turns : Line → List Turn
line_turns (Run count) = replicate count plain_turn
line_turns (Single turn) = turn ∷ []
