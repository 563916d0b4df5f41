-- The measure of `places::has_any_ending`.
use Rattle.std.proofs.Common.{◌-◌, length}
use Rattle.open_links.proofs.places.+has_any_ending.Given as goal

-- the places that are left
abbrev pub decreases-has_any_ending : goal.decreases-has_any_ending
decreases-has_any_ending g l = length l.places.now - l.handle
