-- Invariants of `side_lines::read_random_words`.
use Rattle.std.proofs.Common.{◌≡◌, ◌≤◌, ◌+◌, length}
use Rattle.radio_replay.specs.SideLine.{all_random_words}
use Rattle.radio_replay.proofs.Gathered.{values_then}
use Rattle.radio_replay.proofs.side_lines.read_random_words.Given as goal
use Rattle.ble_base.specs.declared.limits.TheConstants.{RANDOM_WORDS}

abbrev pub invariant-loop-word : goal.invariant-loop-word
invariant-loop-word l = record {
  room : length l.values.items ≤ RANDOM_WORDS;
  counted : length l.values.items + length l.words ≡ length l.initial.words;
  rest : values_then l.values.items (all_random_words l.words) ≡ all_random_words l.initial.words;
}

abbrev pub decreases-loop-word : goal.decreases-loop-word
decreases-loop-word l = length l.words
