-- Proof of `draws::put_drawn`.
use Rattle.std.proofs.Common.{refl, sym, append-nil}
use Rattle.radio_replay.specs.RandomOctets.{octets_from, state_after}
use Rattle.radio_replay.proofs.Drawn.{octet_next, state_next}
use Rattle.radio_replay.proofs.draws.put_drawn.Goals as goal

pub loop-drawn-init : goal.loop-drawn-init
unfolding octets_from state_after
loop-drawn-init c = record { octets = sym (append-nil _); state = refl }

pub loop-drawn-preserved : goal.loop-drawn-preserved
loop-drawn-preserved c =
    let at = c.loop-drawn.invariant in
    let state = state_next c.args.state.now c.loop-drawn.drawn _ _ at.state c.draw.ensures.state in record {
      octets = octet_next c.args.state.now c.loop-drawn.drawn _ _ _ _ _ state c.draw.ensures.octet at.octets c.in_ok-push.ensures.items;
      state = state;
    }
