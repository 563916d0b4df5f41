-- Proof of `ranges::what_hosts_ask_is_in_range`.
use Rattle.run_laws.proofs.InRange.{run_ranges}
use Rattle.run_laws.proofs.ranges.what_hosts_ask_is_in_range.Goals as goal

pub returns : goal.returns
returns c = run_ranges
