-- The measure of `places::is_any_between`.
use Rattle.std.proofs.Common.{◌-◌, length}
use Rattle.open_links.proofs.places.+is_any_between.Given as goal

-- the places that are left
abbrev pub decreases-is_any_between : goal.decreases-is_any_between
decreases-is_any_between g l = length l.places.now - l.handle
