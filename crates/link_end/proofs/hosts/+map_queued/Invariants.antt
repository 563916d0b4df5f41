-- The measure of `hosts::map_queued`.
use Rattle.std.proofs.Common.{length}
use Rattle.link_end.proofs.hosts.+map_queued.Given as goal

-- those that are left
abbrev pub decreases-map_queued : goal.decreases-map_queued
decreases-map_queued l = length l.drafts.now
