-- The invariant of `rooms::crowded`.
use Rattle.std.proofs.Common.{◌≤◌}
use Rattle.phased_end.specs.Reached.{IsReached}
use Rattle.keyed_tests.proofs.rooms.crowded.Given as goal

abbrev pub invariant-loop : goal.invariant-loop
invariant-loop l = IsReached l.peripheral × (1 ≤ l.peripheral.control.track.entered)
