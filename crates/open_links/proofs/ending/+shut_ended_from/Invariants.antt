-- The measure of `ending::shut_ended_from`.
use Rattle.std.proofs.Common.{◌-◌, length}
use Rattle.open_links.proofs.ending.+shut_ended_from.Given as goal

-- the places that are left
abbrev pub decreases-shut_ended_from : goal.decreases-shut_ended_from
decreases-shut_ended_from g l = length l.places.now - l.handle
