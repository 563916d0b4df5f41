-- Invariants of `streams::put_packets`.
use Rattle.std.proofs.Common.{◌≡◌, ◌++◌}
use Rattle.radio_replay.specs.LoadStreams.{packets_before, sizes_before}
use Rattle.radio_replay.specs.RandomOctets.{state_after}
use Rattle.radio_replay.proofs.streams.put_packets.Given as goal

abbrev pub invariant-loop-place : goal.invariant-loop-place
invariant-loop-place l = record {
  octets : l.octets.items ≡ l.fn.octets.items ++ packets_before l.fn.state l.place;
  state : l.state ≡ state_after l.fn.state (sizes_before l.place);
}
