-- Invariants of `accept_list::without_address`.
use Rattle.std.proofs.Common.{◌≡◌, ◌≤◌, ◌++◌, drop, length}
use Rattle.scan_init.specs.Addresses.{without_address}
use Rattle.scan_init.proofs.accept_list.without_address.Given as goal

-- what was kept, and what is to be kept of the others
abbrev pub invariant-loop-other : goal.invariant-loop-other
invariant-loop-other l = record {
  kept : l.kept.items ++ without_address (drop l.other-index l.addresses) l.address ≡ without_address l.addresses l.address;
  room : length l.kept.items ≤ l.other-index;
}
