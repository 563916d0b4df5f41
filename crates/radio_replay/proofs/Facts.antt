-- Bounds that hold of every schedule.
use Rattle.std.proofs.Common.{◌≡◌, ℕ, ◌+◌, ◌≤◌, Bool, true, false, List, [], ◌∷◌, ◌++◌, length, Some, None, Ok, Err, refl, arith}
use Rattle.std.specs.Prelude.{IfSome, if◌then◌else◌, Option, Result, ◌&&◌, ◌==◌, nat_le, drop, slice_get, codes}
use Rattle.std.specs.List.{All}
use Rattle.std.specs.Option.{option_map}
use Rattle.std.specs.Str.{bytes_eq}
use Rattle.std.proofs.lemmas.Bool.{leb-true}
use Rattle.std.proofs.lemmas.Bool.Decides.{nat_tests}
use Rattle.std.proofs.lemmas.List.{length-append}
use Rattle.std.proofs.lemmas.List.Elements.{All-nil, All-cons, All-append, All-replicate}
use Rattle.ble_base.specs.declared.Config.{Config}
use Rattle.ble_base.specs.declared.Side.{Side}
use Rattle.ble_base.specs.declared.Side.TheVariants.{A, B}
use Rattle.radio_replay.specs.declared.fates.Fate.{Fate}
use Rattle.radio_replay.specs.declared.lines.Line.TheVariants.{Run, Single}
use Rattle.line_words.specs.Numbers.{number_in, in_range}
use Rattle.radio_replay.specs.Numbers.{address_of, cursor_of, random_word_of}
use Rattle.radio_replay.specs.Gathering.{with_first}
use Rattle.radio_replay.specs.Schedule.{LineFault, Outside, PastLimit, Right, turns_then, is_heading, reading, schedule_of, turns_from, with_line}
use Rattle.radio_replay.specs.Script.{CanBeFed, Turn}
use Rattle.radio_replay.specs.SideLine.{config_in_line, config_in_words, random_words_in, letter_of, all_random_words, settings}
use Rattle.line_words.specs.Text.{lines_of, words_of}
use Rattle.radio_replay.specs.TurnLine.{Feed, count_in, fates_in, feed_of_count, feed_in, line_in, plain_turn, radios_of, turn_after_feed_a, turn_in, turn_after_radios, turn_after_feeds, line_turns}
use Rattle.ble_base.specs.declared.limits.TheConstants.{RANDOM_WORDS}
use Rattle.radio_replay.specs.declared.limits.TheConstants.{MOST_FED, MOST_TURNS}

-- ---- what a turn line feeds

small_within : (fits : Bool) (number : ℕ) (words : List (List ℕ)) → (nat_le 1 number && nat_le number MOST_FED) ≡ fits
    → IfSome (feed_of_count (if fits then Some number else None) words) (λ fed. fed.count ≤ MOST_FED)
small_within true number words is = grind (arith, nat_tests)
small_within false number words is = tt

small_count : (number : Option ℕ) (words : List (List ℕ)) → IfSome (feed_of_count (in_range 1 MOST_FED number) words) (λ fed. fed.count ≤ MOST_FED)
small_count None words = tt
small_count (Some number) words = small_within (nat_le 1 number && nat_le number MOST_FED) number words refl

small_or_none : (ours : Bool) (number : Option ℕ) (words all : List (List ℕ))
    → IfSome (if ours then feed_of_count (in_range 1 MOST_FED number) words else feed_of_count (Some 0) all) (λ fed. fed.count ≤ MOST_FED)
small_or_none true number words all = small_count number words
small_or_none false number words all = omega arith

small_feed : (letter : ℕ) (words : List (List ℕ)) → IfSome (feed_in letter words) (λ fed. fed.count ≤ MOST_FED)
small_feed letter [] = omega arith
small_feed letter ([] ∷ words) = omega arith
small_feed letter ((octet ∷ digits) ∷ words) = small_or_none (octet == letter) (number_in digits) words ((octet ∷ digits) ∷ words)

made_fed : (radios : Bool × Bool) (feed_a feed_b : ℕ) (fates : Option (List Fate)) (turn : Turn) → feed_a ≤ MOST_FED → feed_b ≤ MOST_FED
    → option_map (λ fates. record { a_on = radios.0; b_on = radios.1; feed_a = feed_a; feed_b = feed_b; fates = fates }) fates ≡ Some turn → CanBeFed turn
made_fed radios feed_a feed_b None turn small_a small_b e = absurd (cc)
made_fed radios feed_a feed_b (Some fates) turn small_a small_b e =
    let same : ◌≡◌ {A = Turn} (record { a_on = radios.0; b_on = radios.1; feed_a = feed_a; feed_b = feed_b; fates = fates }) turn = cc in
    rw (← same) (small_a, small_b)

with_fed : (radios : Bool × Bool) (feed_a : ℕ) (b : Option Feed) (turn : Turn) → feed_a ≤ MOST_FED → IfSome b (λ fed. fed.count ≤ MOST_FED) → turn_after_feeds radios feed_a b ≡ Some turn → CanBeFed turn
with_fed radios feed_a None turn small_a small_b e = absurd (cc)
with_fed radios feed_a (Some b) turn small_a small_b e = made_fed radios feed_a b.count (fates_in b.words) turn small_a small_b e

feeding_fed : (radios : Bool × Bool) (a : Option Feed) (turn : Turn) → IfSome a (λ fed. fed.count ≤ MOST_FED) → turn_after_feed_a radios a ≡ Some turn → CanBeFed turn
feeding_fed radios None turn small e = absurd (cc)
feeding_fed radios (Some a) turn small e = with_fed radios a.count (feed_in 98 a.words) turn small (small_feed 98 a.words) e

on_fed : (radios : Option (Bool × Bool)) (words : List (List ℕ)) (turn : Turn) → turn_after_radios radios words ≡ Some turn → CanBeFed turn
on_fed None words turn e = absurd (cc)
on_fed (Some radios) words turn e = feeding_fed radios (feed_in 97 words) turn (small_feed 97 words) e

turn_fed : (words : List (List ℕ)) (turn : Turn) → turn_in words ≡ Some turn → CanBeFed turn
turn_fed [] turn e = absurd (cc)
turn_fed (radios ∷ words) turn e = on_fed (radios_of radios) words turn e

single_fed : (read : Option Turn) (more : List Turn) → ((turn : Turn) → read ≡ Some turn → CanBeFed turn) → option_map line_turns (option_map Single read) ≡ Some more → All CanBeFed more
single_fed None more fed e = absurd (cc)
single_fed (Some turn) more fed e =
    let same : turn ∷ [] ≡ more = cc in rw (← same) (All-cons CanBeFed turn [] (fed turn refl) (All-nil CanBeFed))

run_fed : (count : Option ℕ) (more : List Turn) → option_map line_turns (option_map Run count) ≡ Some more → All CanBeFed more
run_fed None more e = absurd (cc)
run_fed (Some count) more e =
    let same : line_turns (Run count) ≡ more = cc in rw (← same) (All-replicate CanBeFed count plain_turn (omega arith, omega arith))

said_fed : (run single : Bool) (words : List (List ℕ)) (more : List Turn)
    → option_map line_turns (if run then option_map Run (count_in words) else if single then option_map Single (turn_in words) else None) ≡ Some more → All CanBeFed more
said_fed true single words more e = run_fed (count_in words) more e
said_fed false true words more e = single_fed (turn_in words) more (turn_fed words) e
said_fed false false words more e = absurd (cc)

line_fed : (words : List (List ℕ)) (more : List Turn) → option_map line_turns (line_in words) ≡ Some more → All CanBeFed more
line_fed [] more e = absurd (cc)
line_fed (head ∷ words) more e = said_fed (bytes_eq head (codes "run")) (bytes_eq head (codes "t")) words more e

-- ---- the turns

went_on : (number : ℕ) (read : Result (List Turn) LineFault) (later : List Turn → Result (List Turn) (LineFault × ℕ)) (all : List Turn) → turns_then number read later ≡ Ok all
    → (longer : List Turn) × (read ≡ Ok longer) × (later longer ≡ Ok all)
went_on number (Err fault) later all e = absurd (cc)
went_on number (Ok longer) later all e = (longer, refl, e)

fitted : (turns more longer : List Turn) (fits : Bool) → nat_le (length turns + length more) MOST_TURNS ≡ fits
    → (if fits then Ok (turns ++ more) else Err PastLimit) ≡ Ok longer → (longer ≡ turns ++ more) × (length turns + length more ≤ MOST_TURNS)
fitted turns more longer true is e = (cc, leb-true (length turns + length more) MOST_TURNS is)
fitted turns more longer false is e = absurd (cc)

line_adds : (turns : List Turn) (said : Option (List Turn)) (longer : List Turn) → All CanBeFed turns → ((more : List Turn) → said ≡ Some more → All CanBeFed more)
    → with_line turns said ≡ Ok longer → (length longer ≤ MOST_TURNS) × All CanBeFed longer
line_adds turns None longer fed more_fed e = absurd (cc)
line_adds turns (Some more) longer fed more_fed e =
    let both = fitted turns more longer (nat_le (length turns + length more) MOST_TURNS) refl e in
    rw both.0 (omega (arith, both.1, length-append turns more), All-append CanBeFed turns more fed (more_fed more refl))

pub held : (number : ℕ) (turns : List Turn) (lines : List (List ℕ)) (all : List Turn) → length turns ≤ MOST_TURNS → All CanBeFed turns
    → turns_from number turns lines ≡ Ok all → (length all ≤ MOST_TURNS) × All CanBeFed all
held number turns [] all short fed e = let same : turns ≡ all = cc in rw (← same) (short, fed)
held number turns (line ∷ lines) all short fed e =
    let said = option_map line_turns (line_in (words_of line)) in
    let on = went_on number (with_line turns said) (λ longer. turns_from (number + 1) longer lines) all e in
    let longer = line_adds turns said on.0 fed (line_fed (words_of line)) on.1 in
    held (number + 1) on.0 lines all longer.0 longer.1 on.2

-- ---- the settings

first_there : (b : Bool) (value : Option ℕ) (values : Option (List ℕ)) → IfSome (if b then with_first value values else None) (λ words. 1 ≤ length words)
first_there false value values = tt
first_there true None values = tt
first_there true (Some value) None = tt
first_there true (Some value) (Some values) = omega arith

drawn_there : (words : List (List ℕ)) → IfSome (random_words_in words) (λ drawn. 1 ≤ length drawn)
drawn_there [] = tt
drawn_there (word ∷ words) =
    first_there (nat_le 1 (length (word ∷ words)) && nat_le (length (word ∷ words)) RANDOM_WORDS) (random_word_of word) (all_random_words words)

set_words : (address : Option (List ℕ)) (cursor : Option ℕ) (words : Option (List ℕ)) (config : Config) → IfSome words (λ drawn. 1 ≤ length drawn)
    → settings address cursor words ≡ Some config → 1 ≤ length config.words.items
set_words None cursor words config there e = absurd (cc)
set_words (Some address) None words config there e = absurd (cc)
set_words (Some address) (Some cursor) None config there e = absurd (cc)
set_words (Some address) (Some cursor) (Some words) config there e =
    let same : ◌≡◌ {A = Config} (record { public = address; cursor = cursor; words = record { items = words } }) config = cc in rw (← same) there

if_words : (b : Bool) (address : Option (List ℕ)) (cursor : Option ℕ) (words : List (List ℕ)) (config : Config)
    → (if b then settings address cursor (random_words_in words) else None) ≡ Some config → 1 ≤ length config.words.items
if_words false address cursor words config e = absurd (cc)
if_words true address cursor words config e = set_words address cursor (random_words_in words) config (drawn_there words) e

config_words : (side : Side) (line : List (List ℕ)) (config : Config) → config_in_words side line ≡ Some config → 1 ≤ length config.words.items
config_words side [] config e = absurd (cc)
config_words side (head ∷ []) config e = absurd (cc)
config_words side (head ∷ letter ∷ []) config e = absurd (cc)
config_words side (head ∷ letter ∷ address ∷ []) config e = absurd (cc)
config_words side (head ∷ letter ∷ address ∷ cursor ∷ words) config e =
    if_words (bytes_eq head (codes "side") && bytes_eq letter (letter_of side ∷ [])) (address_of address) (cursor_of cursor) words config e

has_words : (side : Side) (line : Option (List ℕ)) (config : Config) → config_in_line side line ≡ Some config → 1 ≤ length config.words.items
has_words side None config e = absurd (cc)
has_words side (Some line) config e = config_words side (words_of line) config e

-- ---- the whole

read_of : (heading : Bool) (a_read b_read : Option Config) (read : Result (List Turn) (LineFault × ℕ)) (a b : Config) (turns : List Turn)
    → reading heading a_read b_read read ≡ Right a b turns → (a_read ≡ Some a) × (b_read ≡ Some b) × (read ≡ Ok turns)
read_of false a_read b_read read a b turns e = absurd (cc)
read_of true None b_read read a b turns e = absurd (cc)
read_of true (Some c) None read a b turns e = absurd (cc)
read_of true (Some c) (Some d) (Err (Outside, line)) a b turns e = absurd (cc)
read_of true (Some c) (Some d) (Err (PastLimit, line)) a b turns e = absurd (cc)
read_of true (Some c) (Some d) (Ok all) a b turns e = (cc, cc, cc)

pub facts : (text : List ℕ) (a b : Config) (turns : List Turn) → schedule_of text ≡ Right a b turns
    → (length turns ≤ MOST_TURNS) × All CanBeFed turns × (1 ≤ length a.words.items) × (1 ≤ length b.words.items)
facts text a b turns e =
    let lines = lines_of text in
    let parts = read_of (is_heading (slice_get lines 0)) (config_in_line A (slice_get lines 1)) (config_in_line B (slice_get lines 2)) (turns_from 4 [] (drop 3 lines)) a b turns e in
    let all = held 4 [] (drop 3 lines) turns (omega arith) (All-nil CanBeFed) parts.2 in
    (all.0, all.1, has_words A (slice_get lines 1) a parts.0, has_words B (slice_get lines 2) b parts.1)
