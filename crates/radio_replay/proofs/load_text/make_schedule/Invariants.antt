-- Invariants of `load_text::make_schedule`.
use Rattle.std.proofs.Common.{◌≡◌, ◌++◌}
use Rattle.radio_replay.specs.LoadSchedule.{first_lines, lines_before, text_of_lines}
use Rattle.radio_replay.proofs.load_text.make_schedule.Given as goal

abbrev pub invariant-loop-block : goal.invariant-loop-block
invariant-loop-block l = l.text.items ≡ text_of_lines (first_lines ++ lines_before l.number l.block)
