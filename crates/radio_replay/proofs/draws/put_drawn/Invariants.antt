-- Invariants of `draws::put_drawn`.
use Rattle.std.proofs.Common.{◌≡◌, ◌++◌}
use Rattle.radio_replay.specs.RandomOctets.{octets_from, state_after}
use Rattle.radio_replay.proofs.draws.put_drawn.Given as goal

abbrev pub invariant-loop-drawn : goal.invariant-loop-drawn
invariant-loop-drawn l = record {
  octets : l.octets.items ≡ l.fn.octets.items ++ octets_from l.fn.state l.drawn;
  state : l.state ≡ state_after l.fn.state l.drawn;
}
