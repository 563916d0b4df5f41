-- Invariants of `counts::octets_up`.
use Rattle.std.proofs.Common.{◌≡◌, ◌≤◌, ◌*◌, ◌^◌, take}
use Rattle.program.specs.Counts.{octets_up}
use Rattle.program.proofs.counts.octets_up.Given as goal

abbrev pub invariant-loop-entry : goal.invariant-loop-entry
invariant-loop-entry l = record {
  sum : l.sum ≡ octets_up l.side (take l.entry-index l.entries);
  limit : l.sum ≤ l.entry-index * 2 ^ 63;
}
