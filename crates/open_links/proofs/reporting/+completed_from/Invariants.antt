-- The measure of `reporting::completed_from`.
use Rattle.std.proofs.Common.{◌-◌, length}
use Rattle.open_links.proofs.reporting.+completed_from.Given as goal

-- the places that are left
abbrev pub decreases-completed_from : goal.decreases-completed_from
decreases-completed_from g l = length l.places.now - l.handle
