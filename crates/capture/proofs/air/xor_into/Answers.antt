-- Proof of `air::xor_into`.
use Rattle.std.proofs.Common.{◌+◌, sym, ◌∙◌, arith}
use Rattle.radio_replay.proofs.Strikes.{change_more, change_past}
use Rattle.capture.proofs.air.xor_into.Goals as goal
use Rattle.capture.proofs.air.xor_into.Goals.{then-first-place, else-first-place}

pub loop-place-preserved : goal.loop-place-preserved
loop-place-preserved c =
    let at = c.from-first.result in
    let place = c.loop-place.place in
    let pattern = c.args.pattern.now in
    elim c.if-first-place.branch [
      | then-first-place w ↦ record {
        within = omega arith;
        rest = rw w.octets-is (change_more at place pattern c.loop-place.octets (omega arith) (omega arith) ∙ c.loop-place.invariant.rest);
      }
      | else-first-place w ↦ record {
        within = omega arith;
        rest = rw w.octets-is (change_past at (place + 1) pattern c.loop-place.octets (omega arith) ∙ sym (change_past at place pattern c.loop-place.octets (omega arith)) ∙ c.loop-place.invariant.rest);
      }
    ]
