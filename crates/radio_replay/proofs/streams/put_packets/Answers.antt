-- Proof of `streams::put_packets`.
use Rattle.std.proofs.Common.{refl, sym, append-nil}
use Rattle.radio_replay.specs.LoadStreams.{packets_before, sizes_before}
use Rattle.radio_replay.specs.RandomOctets.{state_after}
use Rattle.radio_replay.proofs.Drawn.{packet_next, states_next}
use Rattle.radio_replay.proofs.streams.put_packets.Goals as goal

pub loop-place-init : goal.loop-place-init
unfolding packets_before sizes_before state_after
loop-place-init c = record { octets = sym (append-nil _); state = refl }

pub loop-place-preserved : goal.loop-place-preserved
loop-place-preserved c =
    let at = c.loop-place.invariant in record {
      octets = packet_next c.args.state.now c.loop-place.place _ _ _ _ at.state at.octets c.in_ok-put_packet.ensures.octets;
      state = states_next c.args.state.now c.loop-place.place _ _ at.state c.in_ok-put_packet.ensures.state;
    }
