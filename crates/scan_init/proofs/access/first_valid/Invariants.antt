-- The invariant and the measure of `access::first_valid`.
use Rattle.std.proofs.Common.{◌≡◌, ◌-◌, ◌^◌}
use Rattle.scan_init.specs.Access.{next_access_of}
use Rattle.scan_init.proofs.access.first_valid.Given as goal

-- to search from here is to search from the start
abbrev pub invariant-loop-travel : goal.invariant-loop-travel
invariant-loop-travel l = next_access_of l.cursor l.travel ≡ next_access_of l.fn.cursor l.fn.travelled

-- the distances that are left
abbrev pub decreases-loop-travel : goal.decreases-loop-travel
decreases-loop-travel l = 2 ^ 32 - l.travel
