-- Proof of `charts::write_rows`.
use Rattle.journal_tool.proofs.Growth.{written_handed_on}
use Rattle.renderings.proofs.RowsLeft.{all_rows_left, block_fits, fewer_rows_left, no_rows_left, rows_not_written}
use Rattle.renderings.proofs.charts.write_rows.Goals as goal

pub loop-block-init : goal.loop-block-init
loop-block-init g c =
    all_rows_left g.O.Sink.written g.O.Sink.faults g.O.Sink.is_reliable _ _ c.args.entries.now c.first-place.ensures c.requires

pub write_block-requires : goal.write_block-requires
write_block-requires g c = block_fits c.loop-block.place c.in-Some.block.now c.in-Some.later.now c.loop-block.rest.now c.in-Some.ensures.parts c.loop-block.invariant.fits

pub returns-in_err-write_block : goal.returns-in_err-write_block
returns-in_err-write_block g c =
    written_handed_on c.from_residual.ensures.1
    (rows_not_written g.O.Sink.written g.O.Sink.faults g.O.Sink.is_reliable _ _ _ _ _ c.in-Some.block.now c.in-Some.later.now _ _
    c.loop-block.invariant c.in-Some.ensures.parts c.in_err-write_block.ensures.rows)

pub loop-block-preserved : goal.loop-block-preserved
loop-block-preserved g c =
    fewer_rows_left g.O.Sink.written g.O.Sink.faults g.O.Sink.is_reliable _ _ _ _ _ _ _ _ _ c.loop-block.invariant
    c.in-Some.ensures.parts c.in_ok-write_block.ensures.place c.in_ok-write_block.ensures.rows

pub returns : goal.returns
returns g c =
    no_rows_left g.O.Sink.written g.O.Sink.faults g.O.Sink.is_reliable _ _ _ _ _ c.loop-block.invariant c.in_default.ensures.parts
