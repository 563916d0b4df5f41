-- Invariants of `turns::read_fates`.
use Rattle.std.proofs.Common.{◌≡◌, length}
use Rattle.radio_replay.specs.TurnLine.{fates_in}
use Rattle.radio_replay.proofs.Gathered.{values_then}
use Rattle.radio_replay.proofs.turns.read_fates.Given as goal

abbrev pub invariant-loop-word : goal.invariant-loop-word
invariant-loop-word l = values_then l.fates.items (fates_in l.words) ≡ fates_in l.initial.words

abbrev pub decreases-loop-word : goal.decreases-loop-word
decreases-loop-word l = length l.words
