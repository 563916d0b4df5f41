-- Proof of `charts::write_chart`.
use Rattle.chart.specs.Chart.{end_text, first_place, rows_text}
use Rattle.journal_tool.proofs.Growth.{written_handed_on, written_no_more, written_then}
use Rattle.renderings.proofs.Rows.{chart_written}
use Rattle.renderings.proofs.charts.write_chart.Goals as goal

pub returns-in_err-write_start : goal.returns-in_err-write_start
returns-in_err-write_start g c =
    chart_written g.O.Sink.written g.O.Sink.faults g.O.Sink.is_reliable _ _ _ c.args.entries.now c.last_place-last.result
    c.last_place-last.ensures.place
    (written_handed_on c.from_residual.ensures.1
    (written_no_more (end_text c.last_place-last.result)
    (written_no_more (rows_text first_place c.args.entries.now) c.in_err-write_start.ensures)))

pub returns-in_err-write_rows : goal.returns-in_err-write_rows
returns-in_err-write_rows g c =
    chart_written g.O.Sink.written g.O.Sink.faults g.O.Sink.is_reliable _ _ _ c.args.entries.now c.last_place-last.result
    c.last_place-last.ensures.place
    (written_handed_on c.from_residual-in_err-write_rows.ensures.1
    (written_no_more (end_text c.last_place-last.result) (written_then c.in_ok-write_start.ensures c.in_err-write_rows.ensures)))

pub returns : goal.returns
returns g c =
    chart_written g.O.Sink.written g.O.Sink.faults g.O.Sink.is_reliable _ _ _ c.args.entries.now c.last_place-last.result
    c.last_place-last.ensures.place
    (written_then (written_then c.in_ok-write_start.ensures c.in_ok-write_rows.ensures) c.write_end.ensures)
