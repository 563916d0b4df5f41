-- The measure of `ending::drop_each`.
use Rattle.std.proofs.Common.{length}
use Rattle.open_links.proofs.ending.+drop_each.Given as goal

-- the links that are left
abbrev pub decreases-drop_each : goal.decreases-drop_each
decreases-drop_each g l = length l.ended.now
