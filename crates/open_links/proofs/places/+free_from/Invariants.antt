-- The measure of `places::free_from`.
use Rattle.std.proofs.Common.{◌-◌, length}
use Rattle.open_links.proofs.places.+free_from.Given as goal

-- the places that are left
abbrev pub decreases-free_from : goal.decreases-free_from
decreases-free_from g l = length l.places.now - l.handle
