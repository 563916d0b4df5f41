-- Measure of `links::tell_ends`.
use Rattle.std.proofs.Common.{length}
use Rattle.host_notes.proofs.links.+tell_ends.Given as goal

abbrev pub decreases-tell_ends : goal.decreases-tell_ends
decreases-tell_ends l = length l.ended.now
