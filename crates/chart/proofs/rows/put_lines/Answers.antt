-- Proof of `rows::put_lines`.
use Rattle.std.proofs.Common.{◌∙◌}
use Rattle.chart.proofs.Steps.{fits_next, place_next, written_next}
use Rattle.chart.proofs.rows.put_lines.Goals as goal

pub loop-entry-preserved : goal.loop-entry-preserved
loop-entry-preserved c = record {
  written =
      written_next c.loop-entry.svg.items c.put_line.new.svg.items c.loop-entry.place c.after-place.result
      c.in-Some.entry.now c.in-Some.later.now c.loop-entry.rest.now c.in-Some.ensures c.after-place.ensures c.in_ok-put_line.ensures
      ∙ c.loop-entry.invariant.written;
  same =
      place_next c.loop-entry.place c.after-place.result c.in-Some.entry.now c.in-Some.later.now c.loop-entry.rest.now
      c.in-Some.ensures c.after-place.ensures
      ∙ c.loop-entry.invariant.same;
  fits =
      fits_next c.loop-entry.place c.after-place.result c.in-Some.entry.now c.in-Some.later.now c.loop-entry.rest.now
      c.in-Some.ensures c.after-place.ensures c.loop-entry.invariant.fits;
}
