-- Proof of `charts::put_undamaged`.
use Rattle.chart.specs.Chart.{undamaged}
use Rattle.chart.proofs.Spelling.{put_both, put_both_on}
use Rattle.chart.proofs.charts.put_undamaged.Goals as goal

pub returns : goal.returns
unfolding undamaged
returns c =
    put_both_on c.put_sample-3.result c.args.svg.now.items c.put_sample-2.new.svg.items c.put_sample-3.new.svg.items _ _
    (put_both c.args.svg.now.items c.put_sample.new.svg.items c.put_sample-2.new.svg.items _ _
    c.in_ok-put_sample.ensures c.in_ok-put_sample-2.ensures)
    c.put_sample-3.ensures
