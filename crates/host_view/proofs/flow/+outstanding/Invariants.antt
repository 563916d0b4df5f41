-- Measure of `flow::outstanding`.
use Rattle.std.proofs.Common.{length}
use Rattle.host_view.proofs.flow.+outstanding.Given as goal

abbrev pub decreases-outstanding : goal.decreases-outstanding
decreases-outstanding l = length l.links.now
