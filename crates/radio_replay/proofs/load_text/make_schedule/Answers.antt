-- Proof of `load_text::make_schedule`.
use Rattle.std.proofs.Common.{◌∙◌}
use Rattle.radio_replay.proofs.LoadLines.{block_next, first_text}
use Rattle.radio_replay.proofs.load_text.make_schedule.Goals as goal

pub loop-block-init : goal.loop-block-init
loop-block-init c = c.in_ok-text.ensures.items ∙ first_text c.args.number

pub loop-block-preserved : goal.loop-block-preserved
loop-block-preserved c =
    block_next c.args.number c.loop-block.block _ _ c.loop-block.invariant c.in_ok-put_block.ensures
