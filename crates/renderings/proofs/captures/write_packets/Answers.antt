-- Proof of `captures::write_packets`.
use Rattle.journal_tool.proofs.Growth.{written_handed_on}
use Rattle.renderings.proofs.PacketsLeft.{all_packets_left, fewer_packets_left, no_packets_left, packets_not_written}
use Rattle.renderings.proofs.captures.write_packets.Goals as goal

pub loop-block-init : goal.loop-block-init
loop-block-init g c =
    all_packets_left g.O.Sink.written g.O.Sink.faults g.O.Sink.is_reliable _ _ c.args.entries.now c.new-recorder.ensures

pub returns-in_err-write_block : goal.returns-in_err-write_block
returns-in_err-write_block g c =
    let at = c.loop-block.invariant in
    written_handed_on c.from_residual.ensures.1
    (packets_not_written g.O.Sink.written g.O.Sink.faults g.O.Sink.is_reliable _ _ _ _ _ c.in-Some.block.now c.in-Some.later.now _ _ at
    c.in-Some.ensures.parts
    (c.in_err-write_block.ensures.packets at.done at.knows))

pub loop-block-preserved : goal.loop-block-preserved
loop-block-preserved g c =
    let at = c.loop-block.invariant in
    fewer_packets_left g.O.Sink.written g.O.Sink.faults g.O.Sink.is_reliable _ _ _ _ _ _ _ _ _ at c.in-Some.ensures.parts
    (c.in_ok-write_block.ensures.knows at.done at.knows) (c.in_ok-write_block.ensures.packets at.done at.knows)

pub returns : goal.returns
returns g c =
    no_packets_left g.O.Sink.written g.O.Sink.faults g.O.Sink.is_reliable _ _ _ _ _ c.loop-block.invariant c.in_default.ensures.parts
