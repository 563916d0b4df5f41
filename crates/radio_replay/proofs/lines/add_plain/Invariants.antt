-- Invariants of `lines::add_plain`.
use Rattle.std.proofs.Common.{◌≡◌, ◌++◌}
use Rattle.std.specs.Prelude.{replicate}
use Rattle.radio_replay.specs.TurnLine.{plain_turn}
use Rattle.radio_replay.proofs.lines.add_plain.Given as goal

abbrev pub invariant-loop-place : goal.invariant-loop-place
invariant-loop-place l = l.turns.items ≡ l.fn.turns.items ++ replicate l.place plain_turn
