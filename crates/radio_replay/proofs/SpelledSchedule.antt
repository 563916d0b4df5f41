-- A schedule that is spelled in the plainest form is read as itself.
use Rattle.std.proofs.Common.{◌≡◌, ℕ, zero, suc, ◌+◌, ◌^◌, ◌<◌, ◌≤◌, Bool, true, false, List, [], ◌∷◌, ◌++◌, length, Some, Ok, refl, ◌∙◌, ap, sym, arith, append_assoc}
use Rattle.std.specs.Prelude.{◌==◌, ◌&&◌, nat_lt, map, reverse, slice_index, codes, replicate, decimal}
use Rattle.std.specs.Option.{option_map}
use Rattle.std.specs.List.{All, concat, list_all, slice_split}
use Rattle.std.proofs.lemmas.Bool.{and_from, le-leb}
use Rattle.std.specs.Int.{w32, bytes_high_first, to_be_bytes}
use Rattle.hex.specs.Hex.{IsBytes, encode_lower}
use Rattle.hex.proofs.HexLemmas.{decode_of-encode_lower}
use Rattle.std.specs.Str.{bytes_eq}
use Rattle.std.proofs.lemmas.List.{append-nil, length-append, length-map}
use Rattle.std.proofs.lemmas.List.Folds.{list_all-append}
use Rattle.std.proofs.lemmas.List.Elements.{All-head, All-tail}
use Rattle.std.proofs.lemmas.List.Splits.{slice_split_none, slice_split_at}
use Rattle.ble_base.specs.declared.Config.{Config}
use Rattle.ble_base.specs.declared.Side.{Side}
use Rattle.ble_base.specs.declared.Side.TheVariants.{A, B}
use Rattle.radio_replay.specs.declared.fates.Fate.{Fate}
use Rattle.radio_replay.specs.declared.fates.Fate.TheVariants.{Pass, Lost, Damage}
use Rattle.radio_replay.specs.declared.lines.Line.TheVariants.{Single}
use Rattle.line_words.proofs.SpelledLines.{is_above, words_of-line_of, above-line_of, lines_of-with_newline}
use Rattle.line_words.proofs.SpelledNumbers.{number_in-decimal, above-decimal, no_colon-decimal, above-encode_lower, no_colon-encode_lower}
use Rattle.radio_replay.proofs.SpelledNumbers.{IsBytes-reverse, IsBytes-bytes_high_first, address_of-text, cursor_of-text, random_word_of-text}
use Rattle.radio_replay.specs.FateWord.{damage_in, fate_in, pattern_in}
use Rattle.line_words.specs.Numbers.{number_in, in_range}
use Rattle.radio_replay.specs.Schedule.{Right, schedule_of, turns_from, with_line}
use Rattle.radio_replay.specs.Script.{Turn}
use Rattle.radio_replay.specs.SideLine.{config_in_words, config_in_line, random_words_in, letter_of, all_random_words}
use Rattle.radio_replay.specs.Spelling.{CanBeDone, CanBeSet, CanBeTaken, fate_word, feed_words, random_word_text, run_line, schedule_text, side_words, turn_words}
use Rattle.line_words.specs.Signs.{sign_of}
use Rattle.line_words.specs.Text.{words_of, line_of, with_newline}
use Rattle.radio_replay.specs.TurnLine.{fates_in, feed_in, line_in, plain_turn, radios_of, turn_after_feed_a, line_turns}
use Rattle.ble_base.specs.declared.limits.TheConstants.{AIR_PACKET_OCTETS, RANDOM_WORDS}
use Rattle.radio_replay.specs.declared.limits.TheConstants.{LAST_PLACE, MOST_FED, MOST_REPEATED, MOST_TURNS}

-- ---- fates

damage_word : (octets : List ℕ) → (octets ≡ [] → ⊥) → fate_in (101 ∷ octets) ≡ damage_in octets
damage_word [] some = absurd (some refl)
damage_word (octet ∷ octets) some = refl

not_empty : (front : List ℕ) (octet : ℕ) (back : List ℕ) → front ++ octet ∷ back ≡ [] → ⊥
not_empty [] octet back e = absurd (cc)
not_empty (x ∷ front) octet back e = absurd (cc)

place_is : (at : ℕ) → at ≤ LAST_PLACE → in_range 0 LAST_PLACE (number_in (decimal at)) ≡ Some at
place_is at small = rw (number_in-decimal at (omega arith), le-leb 0 at (omega arith), le-leb at LAST_PLACE small) refl

pattern_is : (octets : List ℕ) → 1 ≤ length octets → length octets ≤ AIR_PACKET_OCTETS → IsBytes octets → pattern_in (encode_lower octets) ≡ Some octets
pattern_is octets some most bytes =
    rw (decode_of-encode_lower octets bytes, le-leb 1 (length octets) some, le-leb (length octets) AIR_PACKET_OCTETS most) refl

colon_parts : (at : ℕ) (octets : List ℕ) → at ≤ LAST_PLACE → IsBytes octets
    → slice_split (λ octet. octet == 58) (decimal at ++ 58 ∷ encode_lower octets) ≡ decimal at ∷ encode_lower octets ∷ []
colon_parts at octets small bytes =
    slice_split_at (λ octet. octet == 58) (decimal at) 58 (encode_lower octets) (no_colon-decimal at (omega arith)) refl
    ∙ ap (λ (parts : List (List ℕ)). decimal at ∷ parts) (slice_split_none (λ octet. octet == 58) (encode_lower octets) (no_colon-encode_lower octets bytes))

fate_in-word : (fate : Fate) → CanBeDone fate → fate_in (fate_word fate) ≡ Some fate
fate_in-word Pass h = refl
fate_in-word Lost h = refl
fate_in-word (Damage at pattern) h =
    damage_word (decimal at ++ 58 ∷ encode_lower pattern.items) (not_empty (decimal at) 58 (encode_lower pattern.items))
    ∙ rw (colon_parts at pattern.items h.0 h.3, place_is at h.0, pattern_is pattern.items h.1 h.2 h.3) refl

fates_in-words : (fates : List Fate) → All CanBeDone fates → fates_in (map fate_word fates) ≡ Some fates
fates_in-words [] h = refl
fates_in-words (fate ∷ fates) h =
    rw (fate_in-word fate (All-head CanBeDone fate fates h), fates_in-words fates (All-tail CanBeDone fate fates h)) refl

above-fate : (fate : Fate) → CanBeDone fate → is_above 32 (fate_word fate) ≡ true
above-fate Pass h = refl
above-fate Lost h = refl
above-fate (Damage at pattern) h =
    let small : at ≤ LAST_PLACE = h.0 in
    rw (list_all-append (λ octet. nat_lt 32 octet) (decimal at) (58 ∷ encode_lower pattern.items), above-decimal at (omega arith)) (above-encode_lower pattern.items h.3)

above-fates : (fates : List Fate) → All CanBeDone fates → list_all (λ w. is_above 32 w) (map fate_word fates) ≡ true
above-fates [] h = refl
above-fates (fate ∷ fates) h =
    rw (above-fate fate (All-head CanBeDone fate fates h), above-fates fates (All-tail CanBeDone fate fates h)) refl

-- a word of a fate is not a feed
fed_nothing : (side : Side) (fates : List Fate) → feed_in (letter_of side) (map fate_word fates) ≡ Some (record { count = 0; words = map fate_word fates })
fed_nothing A [] = refl
fed_nothing A (Pass ∷ fates) = refl
fed_nothing A (Lost ∷ fates) = refl
fed_nothing A (Damage at pattern ∷ fates) = refl
fed_nothing B [] = refl
fed_nothing B (Pass ∷ fates) = refl
fed_nothing B (Lost ∷ fates) = refl
fed_nothing B (Damage at pattern ∷ fates) = refl

-- ---- turn lines

in_range-all : (count : ℕ) → 0 < count → count ≤ MOST_FED → in_range 1 MOST_FED (Some count) ≡ Some count
in_range-all count p h = rw (le-leb 1 count (omega arith), le-leb count MOST_FED h) refl

fed_a : (count : ℕ) (words : List (List ℕ)) → count < MOST_FED → feed_in 97 ((97 ∷ decimal (suc count)) ∷ words) ≡ Some (record { count = suc count; words = words })
fed_a count words h = rw (number_in-decimal (suc count) (omega arith), in_range-all (suc count) (omega arith) (omega arith)) refl

fed_b : (count : ℕ) (words : List (List ℕ)) → count < MOST_FED → feed_in 98 ((98 ∷ decimal (suc count)) ∷ words) ≡ Some (record { count = suc count; words = words })
fed_b count words h = rw (number_in-decimal (suc count) (omega arith), in_range-all (suc count) (omega arith) (omega arith)) refl

feeding : (a_on b_on : Bool) (a b : ℕ) (fates : List Fate) → a ≤ MOST_FED → b ≤ MOST_FED → All CanBeDone fates
    → turn_after_feed_a (a_on, b_on) (feed_in 97 (feed_words 97 a ++ (feed_words 98 b ++ map fate_word fates))) ≡ Some (record { a_on = a_on; b_on = b_on; feed_a = a; feed_b = b; fates = fates })
feeding a_on b_on zero zero fates ha hb hf = rw (fed_nothing A fates, fed_nothing B fates, fates_in-words fates hf) refl
feeding a_on b_on zero (suc b) fates ha hb hf = rw (fed_b b (map fate_word fates) (omega arith), fates_in-words fates hf) refl
feeding a_on b_on (suc a) zero fates ha hb hf = rw (fed_a a (map fate_word fates) (omega arith), fed_nothing B fates, fates_in-words fates hf) refl
feeding a_on b_on (suc a) (suc b) fates ha hb hf =
    rw (fed_a a (feed_words 98 (suc b) ++ map fate_word fates) (omega arith), fed_b b (map fate_word fates) (omega arith), fates_in-words fates hf) refl

radios_of-octets : (a b : Bool) → radios_of (sign_of a ∷ sign_of b ∷ []) ≡ Some (a, b)
radios_of-octets true true = refl
radios_of-octets true false = refl
radios_of-octets false true = refl
radios_of-octets false false = refl

line_in-words : (turn : Turn) → CanBeTaken turn → line_in (turn_words turn) ≡ Some (Single turn)
line_in-words turn h =
    rw (radios_of-octets turn.a_on turn.b_on, feeding turn.a_on turn.b_on turn.feed_a turn.feed_b turn.fates h.0.0 h.0.1 h.1) refl

above-radio : (on : Bool) → nat_lt 32 (sign_of on) ≡ true
above-radio true = refl
above-radio false = refl

above-feed : (letter count : ℕ) → nat_lt 32 letter ≡ true → count ≤ MOST_FED → list_all (λ w. is_above 32 w) (feed_words letter count) ≡ true
above-feed letter zero h most = refl
above-feed letter (suc count) h most = rw (h, above-decimal (suc count) (omega arith)) refl

above-turn_words : (turn : Turn) → CanBeTaken turn → list_all (λ w. is_above 32 w) (turn_words turn) ≡ true
above-turn_words turn h =
    let fates = map fate_word turn.fates in
    rw (
      above-radio turn.a_on,
      above-radio turn.b_on,
      list_all-append (λ w. is_above 32 w) (feed_words 97 turn.feed_a) (feed_words 98 turn.feed_b ++ fates),
      list_all-append (λ w. is_above 32 w) (feed_words 98 turn.feed_b) fates,
      above-feed 97 turn.feed_a refl h.0.0,
      above-feed 98 turn.feed_b refl h.0.1,
    ) (above-fates turn.fates h.1)

-- the words of a turn after its first
more_words : Turn → List (List ℕ)
more_words turn = (sign_of turn.a_on ∷ sign_of turn.b_on ∷ []) ∷ (feed_words 97 turn.feed_a ++ (feed_words 98 turn.feed_b ++ map fate_word turn.fates))

pub line_in-line : (turn : Turn) → CanBeTaken turn → line_in (words_of (line_of (turn_words turn))) ≡ Some (Single turn)
unfolding more_words
line_in-line turn h =
    ap line_in (words_of-line_of (codes "t") (more_words turn) (above-turn_words turn h)) ∙ line_in-words turn h

one_more : (before : List Turn) (turn : Turn) → length before < MOST_TURNS → with_line before (Some (turn ∷ [])) ≡ Ok (before ++ turn ∷ [])
one_more before turn short = rw (le-leb (length before + 1) MOST_TURNS (omega arith)) refl

turns_from-lines : (number : ℕ) (before turns : List Turn) → All CanBeTaken turns → length before + length turns ≤ MOST_TURNS
    → turns_from number before (map (λ turn. line_of (turn_words turn)) turns) ≡ Ok (before ++ turns)
turns_from-lines number before [] h short = ap Ok (sym (append-nil before))
turns_from-lines number before (turn ∷ turns) h short =
    rw (line_in-line turn (All-head CanBeTaken turn turns h), one_more before turn (omega arith))
    (turns_from-lines (number + 1) (before ++ turn ∷ []) turns (All-tail CanBeTaken turn turns h) (omega (arith, length-append before (turn ∷ [])))
    ∙ ap Ok (append_assoc before (turn ∷ []) turns))

pub above-turn_line : (turn : Turn) → CanBeTaken turn → is_above 10 (line_of (turn_words turn)) ≡ true
unfolding more_words
above-turn_line turn h = above-line_of (codes "t") (more_words turn) (above-turn_words turn h)

above-turns : (turns : List Turn) → All CanBeTaken turns → list_all (λ l. is_above 10 l) (map (λ turn. line_of (turn_words turn)) turns) ≡ true
above-turns [] h = refl
above-turns (turn ∷ turns) h =
    and_from (is_above 10 (line_of (turn_words turn))) (list_all (λ l. is_above 10 l) (map (λ turn. line_of (turn_words turn)) turns))
    (above-turn_line turn (All-head CanBeTaken turn turns h))
    (above-turns turns (All-tail CanBeTaken turn turns h))

-- ---- runs

above-run : (count : ℕ) → count ≤ MOST_REPEATED → list_all (λ w. is_above 32 w) (codes "run" ∷ decimal count ∷ []) ≡ true
above-run count most = rw (above-decimal count (omega arith)) refl

pub above-run_line : (count : ℕ) → count ≤ MOST_REPEATED → is_above 10 (run_line count) ≡ true
above-run_line count most = above-line_of (codes "run") (decimal count ∷ []) (above-run count most)

pub line_turns-run : (count : ℕ) → 1 ≤ count → count ≤ MOST_REPEATED → option_map line_turns (line_in (words_of (run_line count))) ≡ Some (replicate count plain_turn)
line_turns-run count some most =
    ap (λ (words : List (List ℕ)). option_map line_turns (line_in words)) (words_of-line_of (codes "run") (decimal count ∷ []) (above-run count most))
    ∙ rw (number_in-decimal count (omega arith), le-leb 1 count some, le-leb count MOST_REPEATED most) refl

-- ---- side lines

all_random_words-texts : (words : List ℕ) → ((k : ℕ) → slice_index words k < 2 ^ 64) → all_random_words (map random_word_text words) ≡ Some words
all_random_words-texts [] h = refl
all_random_words-texts (word ∷ words) h = rw (random_word_of-text word (h 0), all_random_words-texts words (λ k. h (suc k))) refl

random_words_in-texts : (words : List ℕ) → ((k : ℕ) → slice_index words k < 2 ^ 64) → 1 ≤ length words → length words ≤ RANDOM_WORDS → random_words_in (map random_word_text words) ≡ Some words
random_words_in-texts words h some most =
    rw (length-map words random_word_text, le-leb 1 (length words) some, le-leb (length words) RANDOM_WORDS most) (all_random_words-texts words h)

above-texts : (words : List ℕ) → list_all (λ w. is_above 32 w) (map random_word_text words) ≡ true
above-texts [] = refl
above-texts (word ∷ words) = rw (above-encode_lower (bytes_high_first 8 word) (IsBytes-bytes_high_first 8 word), above-texts words) refl

letters_match : (side : Side) → bytes_eq (letter_of side ∷ []) (letter_of side ∷ []) ≡ true
letters_match A = refl
letters_match B = refl

above-letter : (side : Side) → nat_lt 32 (letter_of side) ≡ true
above-letter A = refl
above-letter B = refl

config_in_words-spelled : (side : Side) (config : Config) → CanBeSet config → config_in_words side (side_words side config) ≡ Some config
config_in_words-spelled side config h =
    rw (letters_match side, address_of-text config.public h.six h.octets, cursor_of-text config.cursor h.cursor, random_words_in-texts config.words.items h.words h.some h.at_most) refl

above-side_words : (side : Side) (config : Config) → CanBeSet config → list_all (λ w. is_above 32 w) (side_words side config) ≡ true
above-side_words side config h =
    rw (above-letter side, above-encode_lower (reverse config.public) (IsBytes-reverse config.public h.octets), above-encode_lower (bytes_high_first 4 config.cursor) (IsBytes-bytes_high_first 4 config.cursor), above-texts config.words.items) refl

config_in_line-spelled : (side : Side) (config : Config) → CanBeSet config → config_in_line side (Some (line_of (side_words side config))) ≡ Some config
config_in_line-spelled side config h =
    ap (config_in_words side) (words_of-line_of (codes "side")
    ((letter_of side ∷ []) ∷ encode_lower (reverse config.public) ∷ encode_lower (to_be_bytes w32 config.cursor) ∷ map random_word_text config.words.items)
    (above-side_words side config h))
    ∙ config_in_words-spelled side config h

-- ---- the whole

above-side_line : (side : Side) (config : Config) → CanBeSet config → is_above 10 (line_of (side_words side config)) ≡ true
above-side_line side config h =
    above-line_of (codes "side")
    ((letter_of side ∷ []) ∷ encode_lower (reverse config.public) ∷ encode_lower (to_be_bytes w32 config.cursor) ∷ map random_word_text config.words.items)
    (above-side_words side config h)

above-lines : (a b : Config) (lines : List (List ℕ)) → CanBeSet a → CanBeSet b → list_all (λ l. is_above 10 l) lines ≡ true
    → list_all (λ l. is_above 10 l) (codes "ble-schedule 1" ∷ line_of (side_words A a) ∷ line_of (side_words B b) ∷ lines) ≡ true
above-lines a b lines ha hb above =
    and_from (is_above 10 (line_of (side_words A a))) (is_above 10 (line_of (side_words B b)) && list_all (λ l. is_above 10 l) lines)
    (above-side_line A a ha)
    (and_from (is_above 10 (line_of (side_words B b))) (list_all (λ l. is_above 10 l) lines) (above-side_line B b hb) above)

-- the settings in the plainest form, and lines of turns
pub schedule_of-lines : (a b : Config) (lines : List (List ℕ)) (turns : List Turn) → CanBeSet a → CanBeSet b → list_all (λ l. is_above 10 l) lines ≡ true
    → turns_from 4 [] lines ≡ Ok turns
    → schedule_of (concat (map with_newline (codes "ble-schedule 1" ∷ line_of (side_words A a) ∷ line_of (side_words B b) ∷ lines))) ≡ Right a b turns
schedule_of-lines a b lines turns ha hb above read =
    rw (
      lines_of-with_newline (codes "ble-schedule 1" ∷ line_of (side_words A a) ∷ line_of (side_words B b) ∷ lines) (above-lines a b lines ha hb above),
      config_in_line-spelled A a ha,
      config_in_line-spelled B b hb,
      read,
    ) refl

pub schedule_of-schedule_text : (a b : Config) (turns : List Turn) → CanBeSet a → CanBeSet b → All CanBeTaken turns → length turns ≤ MOST_TURNS → schedule_of (schedule_text a b turns) ≡ Right a b turns
schedule_of-schedule_text a b turns ha hb ht short =
    schedule_of-lines a b (map (λ turn. line_of (turn_words turn)) turns) turns ha hb (above-turns turns ht) (turns_from-lines 4 [] turns ht (omega arith))
