-- Proof of `charts::put_event_sample`.
use Rattle.chart.specs.Chart.{event_sample}
use Rattle.chart.proofs.Spelling.{put_pair_on}
use Rattle.chart.proofs.charts.put_event_sample.Goals as goal

pub returns : goal.returns
unfolding event_sample
returns c =
    put_pair_on c.put_text.result c.args.svg.now.items c.put_band.new.svg.items c.put_text.new.svg.items _ _
    c.in_ok-put_band.ensures c.put_text.ensures
