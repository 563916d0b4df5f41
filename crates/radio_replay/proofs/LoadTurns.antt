-- The schedule of a load is read as its turns.
use Rattle.std.proofs.Common.{◌≡◌, ℕ, zero, suc, ◌+◌, ◌*◌, ◌^◌, ◌<◌, ◌≤◌, Bool, true, false, List, [], ◌∷◌, ◌++◌, length, Some, Ok, refl, sym, ◌∙◌, ap, arith, append-nil, append_assoc}
use Rattle.std.specs.Prelude.{slice_index, replicate, if◌then◌else◌}
use Rattle.std.specs.Option.{option_map}
use Rattle.std.specs.List.{All, list_all}
use Rattle.std.proofs.lemmas.Bool.{and_from, le-leb}
use Rattle.std.proofs.lemmas.List.{length-append}
use Rattle.std.proofs.lemmas.List.Elements.{All-nil, All-cons, All-append, All-replicate}
use Rattle.std.proofs.lemmas.List.Folds.{list_all-append}
use Rattle.line_words.proofs.SpelledLines.{is_above}
use Rattle.line_words.specs.Text.{words_of}
use Rattle.radio_replay.specs.declared.fates.Fate.TheVariants.{Lost}
use Rattle.radio_replay.specs.declared.limits.TheConstants.{MOST_TURNS}
use Rattle.radio_replay.specs.Limits.{most_fed}
use Rattle.radio_replay.specs.LoadSchedule.{block_lines, block_turns, event_turn, fed_in, feeding_turn, first_turn, has_packet, is_lost_in, lines_before, load_blocks, load_schedule, load_settings_a, load_settings_b, load_turns, turn_fed, turn_line, turns_before, turns_between, ChangesNone}
use Rattle.radio_replay.specs.Schedule.{Right, schedule_of, turns_from}
use Rattle.radio_replay.specs.Script.{Turn}
use Rattle.radio_replay.specs.Spelling.{CanBeDone, CanBeSet, CanBeTaken, run_line}
use Rattle.radio_replay.specs.TurnLine.{line_in, line_turns, plain_turn}
use Rattle.radio_replay.proofs.SpelledSchedule.{above-run_line, above-turn_line, line_in-line, line_turns-run, schedule_of-lines}

-- ---- lines that are read

-- these lines are read as these turns, whatever comes before and after them
abbrev AreRead : List (List ℕ) → List Turn → Type 0
AreRead lines turns = (number : ℕ) (before : List Turn) (more : List (List ℕ)) → length before + length turns ≤ MOST_TURNS
    → (next : ℕ) × (turns_from number before (lines ++ more) ≡ turns_from next (before ++ turns) more)

read_one : (line : List ℕ) (turns : List Turn) → option_map line_turns (line_in (words_of line)) ≡ Some turns → AreRead (line ∷ []) turns
read_one line turns is =
    λ number before more short. (number + 1, rw (is, le-leb (length before + length turns) MOST_TURNS short) refl)

read_both : (lines others : List (List ℕ)) (turns later : List Turn) → AreRead lines turns → AreRead others later
    → AreRead (lines ++ others) (turns ++ later)
read_both lines others turns later first second =
    λ number before more short.
    let lengths = length-append turns later in
    let one = first number before (others ++ more) (omega (arith, short, lengths)) in
    let two = second one.0 (before ++ turns) more (omega (arith, short, lengths, length-append before turns)) in (
      two.0,
      ap (turns_from number before) (append_assoc lines others more) ∙ one.1 ∙ two.1
          ∙ ap (λ all. turns_from two.0 all more) (append_assoc before turns later),
    )

read_turn : (turn : Turn) → CanBeTaken turn → AreRead (turn_line turn ∷ []) (turn ∷ [])
read_turn turn can = read_one (turn_line turn) (turn ∷ []) (ap (option_map line_turns) (line_in-line turn can))

read_run : AreRead (run_line turns_between ∷ []) (replicate turns_between plain_turn)
read_run = read_one (run_line turns_between) (replicate turns_between plain_turn) (line_turns-run turns_between (omega arith) (omega arith))

-- ---- turns

can_feed : (on : Bool) (count : ℕ) → count ≤ most_fed → CanBeTaken (if on then turn_fed count count else plain_turn)
can_feed true count small = ((small, small), All-nil CanBeDone)
can_feed false count small = ((omega arith, omega arith), All-nil CanBeDone)

can_lose : (on : Bool) → CanBeTaken (if on then record plain_turn { fates = Lost ∷ [] } else plain_turn)
can_lose true = ((omega arith, omega arith), All-cons CanBeDone Lost [] tt (All-nil CanBeDone))
can_lose false = ((omega arith, omega arith), All-nil CanBeDone)

feeding_can : (block : ℕ) → CanBeTaken (feeding_turn block)
feeding_can block = can_feed (has_packet block) (fed_in block) (omega arith)

event_can : (number block : ℕ) → CanBeTaken (event_turn number block)
event_can number block = can_lose (is_lost_in number block)

first_can : CanBeTaken first_turn
first_can = ((omega arith, omega arith), All-nil CanBeDone)

-- ---- blocks

read_block : (number block : ℕ) → AreRead (block_lines number block) (block_turns number block)
read_block number block =
    let plain = replicate turns_between plain_turn in
    read_both (turn_line (feeding_turn block) ∷ []) (turn_line (event_turn number block) ∷ run_line turns_between ∷ [])
    (feeding_turn block ∷ []) (event_turn number block ∷ plain)
    (read_turn (feeding_turn block) (feeding_can block))
    (read_both (turn_line (event_turn number block) ∷ []) (run_line turns_between ∷ []) (event_turn number block ∷ []) plain
    (read_turn (event_turn number block) (event_can number block)) read_run)

read_blocks : (number blocks : ℕ) → AreRead (lines_before number blocks) (turns_before number blocks)
unfolding lines_before turns_before
read_blocks number zero = λ place before more short. (place, ap (λ turns. turns_from place turns more) (sym (append-nil before)))
read_blocks number (suc block) =
    read_both (lines_before number block) (block_lines number block) (turns_before number block) (block_turns number block)
    (read_blocks number block) (read_block number block)

above_block : (number block : ℕ) → list_all (λ l. is_above 10 l) (block_lines number block) ≡ true
above_block number block =
    and_from (is_above 10 (turn_line (feeding_turn block))) _ (above-turn_line (feeding_turn block) (feeding_can block))
    (and_from (is_above 10 (turn_line (event_turn number block))) _ (above-turn_line (event_turn number block) (event_can number block))
    (and_from (is_above 10 (run_line turns_between)) true (above-run_line turns_between (omega arith)) refl))

above_blocks : (number blocks : ℕ) → list_all (λ l. is_above 10 l) (lines_before number blocks) ≡ true
unfolding lines_before
above_blocks number zero = refl
above_blocks number (suc block) =
    list_all-append (λ l. is_above 10 l) (lines_before number block) (block_lines number block)
    ∙ and_from (list_all (λ l. is_above 10 l) (lines_before number block)) (list_all (λ l. is_above 10 l) (block_lines number block))
    (above_blocks number block) (above_block number block)

length-turns_before : (number blocks : ℕ) → length (turns_before number blocks) ≡ 24 * blocks
unfolding turns_before
length-turns_before number zero = refl
length-turns_before number (suc block) =
    let one : length (block_turns number block) ≡ 24 = refl in
    length-append (turns_before number block) (block_turns number block) ∙ omega (arith, one, length-turns_before number block)

-- ---- the whole

pub load_turns_count : (number : ℕ) → length (load_turns number) ≡ 5281
load_turns_count number = ap suc (length-turns_before number load_blocks)

load_lines_read : (number : ℕ) → turns_from 4 [] (turn_line first_turn ∷ lines_before number load_blocks) ≡ Ok (load_turns number)
load_lines_read number =
    let lines : List (List ℕ) = turn_line first_turn ∷ lines_before number load_blocks in
    let read : AreRead lines (load_turns number) =
    read_both (turn_line first_turn ∷ []) (lines_before number load_blocks) (first_turn ∷ []) (turns_before number load_blocks)
    (read_turn first_turn first_can) (read_blocks number load_blocks) in
    ap (turns_from 4 []) (sym (append-nil lines)) ∙ (read 4 [] [] (omega (arith, load_turns_count number))).1

public_octets : (first : ℕ) → first < 256 → (k : ℕ) → slice_index (first ∷ 0x00 ∷ 0x00 ∷ 0xEE ∷ 0xFF ∷ 0xC0 ∷ []) k < 256
public_octets first small zero = small
public_octets first small (suc zero) = omega arith
public_octets first small (suc (suc zero)) = omega arith
public_octets first small (suc (suc (suc zero))) = omega arith
public_octets first small (suc (suc (suc (suc zero)))) = omega arith
public_octets first small (suc (suc (suc (suc (suc zero))))) = omega arith
public_octets first small (suc (suc (suc (suc (suc (suc k)))))) = omega arith

one_word : (word : ℕ) → word < 2 ^ 64 → (k : ℕ) → slice_index (word ∷ []) k < 2 ^ 64
one_word word small zero = small
one_word word small (suc k) = omega arith

can_set_a : CanBeSet load_settings_a
can_set_a = record {
  six = refl;
  octets = public_octets 0x0A (omega arith);
  cursor = omega arith;
  words = one_word 1 (omega arith);
  some = omega arith;
  at_most = omega arith;
}

can_set_b : CanBeSet load_settings_b
can_set_b = record {
  six = refl;
  octets = public_octets 0x0B (omega arith);
  cursor = omega arith;
  words = one_word 2 (omega arith);
  some = omega arith;
  at_most = omega arith;
}

pub load_read : (number : ℕ) → schedule_of (load_schedule number) ≡ Right load_settings_a load_settings_b (load_turns number)
load_read number =
    schedule_of-lines load_settings_a load_settings_b (turn_line first_turn ∷ lines_before number load_blocks) (load_turns number) can_set_a can_set_b
    (and_from (is_above 10 (turn_line first_turn)) (list_all (λ l. is_above 10 l) (lines_before number load_blocks))
    (above-turn_line first_turn first_can) (above_blocks number load_blocks))
    (load_lines_read number)

-- ---- no damage

plain_changes : ChangesNone plain_turn
plain_changes zero octets = refl
plain_changes (suc packet) octets = refl

fed_changes : (a b : ℕ) → ChangesNone (turn_fed a b)
fed_changes a b zero octets = refl
fed_changes a b (suc packet) octets = refl

feeding_changes : (on : Bool) (count : ℕ) → ChangesNone (if on then turn_fed count count else plain_turn)
feeding_changes true count = fed_changes count count
feeding_changes false count = plain_changes

lost_changes : (on : Bool) → ChangesNone (if on then record plain_turn { fates = Lost ∷ [] } else plain_turn)
lost_changes true zero octets = refl
lost_changes true (suc packet) octets = refl
lost_changes false packet octets = plain_changes packet octets

block_changes : (number block : ℕ) → All ChangesNone (block_turns number block)
block_changes number block =
    All-cons ChangesNone (feeding_turn block) (event_turn number block ∷ replicate turns_between plain_turn)
    (feeding_changes (has_packet block) (fed_in block))
    (All-cons ChangesNone (event_turn number block) (replicate turns_between plain_turn) (lost_changes (is_lost_in number block))
    (All-replicate ChangesNone turns_between plain_turn plain_changes))

blocks_change : (number blocks : ℕ) → All ChangesNone (turns_before number blocks)
unfolding turns_before
blocks_change number zero = All-nil ChangesNone
blocks_change number (suc block) =
    All-append ChangesNone (turns_before number block) (block_turns number block) (blocks_change number block) (block_changes number block)

pub load_changes : (number : ℕ) → All ChangesNone (load_turns number)
load_changes number =
    All-cons ChangesNone first_turn (turns_before number load_blocks) (fed_changes 29 5) (blocks_change number load_blocks)
