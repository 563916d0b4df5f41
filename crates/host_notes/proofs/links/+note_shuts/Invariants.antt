-- Measure of `links::note_shuts`.
use Rattle.std.proofs.Common.{length}
use Rattle.host_notes.proofs.links.+note_shuts.Given as goal

abbrev pub decreases-note_shuts : goal.decreases-note_shuts
decreases-note_shuts l = length l.handles.now
