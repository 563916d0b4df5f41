-- The measure of `ending::shut_due_from`.
use Rattle.std.proofs.Common.{◌-◌, length}
use Rattle.open_links.proofs.ending.+shut_due_from.Given as goal

-- the places that are left
abbrev pub decreases-shut_due_from : goal.decreases-shut_due_from
decreases-shut_due_from g l = length l.places.now - l.handle
