-- The measure of `hosting::ask_map_all`.
use Rattle.std.proofs.Common.{◌-◌, length}
use Rattle.open_links.proofs.hosting.+ask_map_all.Given as goal

-- the places that are left
abbrev pub decreases-ask_map_all : goal.decreases-ask_map_all
decreases-ask_map_all g l = length l.places.now - l.handle
