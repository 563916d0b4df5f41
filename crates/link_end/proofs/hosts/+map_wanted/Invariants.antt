-- The measure of `hosts::map_wanted`.
use Rattle.std.proofs.Common.{length}
use Rattle.link_end.proofs.hosts.+map_wanted.Given as goal

-- those that are left
abbrev pub decreases-map_wanted : goal.decreases-map_wanted
decreases-map_wanted l = length l.asks.now
