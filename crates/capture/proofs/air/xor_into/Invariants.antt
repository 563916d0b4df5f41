-- Invariants of `air::xor_into`.
use Rattle.std.proofs.Common.{◌≡◌, ◌≤◌, length}
use Rattle.radio_replay.proofs.Strikes.{changing}
use Rattle.capture.proofs.air.xor_into.Given as goal

abbrev pub invariant-loop-place : goal.invariant-loop-place
invariant-loop-place l = record {
  within : l.place ≤ length l.pattern;
  rest : changing l.first l.place l.pattern l.octets ≡ changing l.first 0 l.pattern l.fn.octets;
}
