-- Invariants of `schedules::read_turns`.
use Rattle.std.proofs.Common.{◌≡◌, ◌≤◌, ◌+◌, ◌-◌, [], length}
use Rattle.radio_replay.specs.Schedule.{line_number, turns_from}
use Rattle.radio_replay.proofs.schedules.read_turns.Given as goal

abbrev pub invariant-loop-line : goal.invariant-loop-line
invariant-loop-line l = record {
  within : length l.lines ≤ length l.initial.lines;
  place : l.number ≡ line_number (4 + (length l.initial.lines - length l.lines));
  rest : turns_from (4 + (length l.initial.lines - length l.lines)) l.turns.items l.lines ≡ turns_from 4 [] l.initial.lines;
}

abbrev pub decreases-loop-line : goal.decreases-loop-line
decreases-loop-line l = length l.lines
