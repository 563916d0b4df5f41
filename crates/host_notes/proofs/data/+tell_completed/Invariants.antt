-- Measure of `data::tell_completed`.
use Rattle.std.proofs.Common.{length}
use Rattle.host_notes.proofs.data.+tell_completed.Given as goal

abbrev pub decreases-tell_completed : goal.decreases-tell_completed
decreases-tell_completed l = length l.completed.now
