-- The measure of `ending::shut_from`.
use Rattle.std.proofs.Common.{◌-◌, length}
use Rattle.open_links.proofs.ending.+shut_from.Given as goal

-- the places that are left
abbrev pub decreases-shut_from : goal.decreases-shut_from
decreases-shut_from g l = length l.places.now - l.handle
