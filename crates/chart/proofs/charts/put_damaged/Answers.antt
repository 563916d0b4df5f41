-- Proof of `charts::put_damaged`.
use Rattle.chart.specs.Chart.{damaged}
use Rattle.chart.proofs.Spelling.{put_both_on}
use Rattle.chart.proofs.charts.put_damaged.Goals as goal

pub returns : goal.returns
unfolding damaged
returns c =
    put_both_on c.put_sample-2.result c.args.svg.now.items c.put_sample.new.svg.items c.put_sample-2.new.svg.items _ _
    c.in_ok-put_sample.ensures c.put_sample-2.ensures
