-- Measure of `entering::enter_from`.
use Rattle.std.proofs.Common.{◌-◌}
use Rattle.host_notes.proofs.entering.+enter_from.Given as goal

abbrev pub decreases-enter_from : goal.decreases-enter_from
decreases-enter_from g l = g.row.L - l.handle
