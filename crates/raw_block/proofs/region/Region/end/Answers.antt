-- The proof of `Region::end`.
use Rattle.std.proofs.Common.{◌<◌, inl, inr, length, get_or, None, sym, ap, ◌∙◌, arith, length-set}
use Rattle.std.proofs.lemmas.Bool.{cases_eq}
use Rattle.std.proofs.lemmas.List.{get_or-set_same, get_or-set_other}
use Rattle.raw_block.proofs.Rows.{all_empty}
use Rattle.raw_block.proofs.region.Region.end.Goals as goal

pub read-value-requires : goal.read-value-requires
read-value-requires g c =
    let kept = c.loop-place.invariant in let more = c.loop-place-test.true in
    (sym kept.starts, kept.taken c.loop-place.place (omega arith) more)

pub give_region-requires : goal.give_region-requires
give_region-requires g c =
    let kept = c.loop-place.invariant in let over = c.loop-place-test.false in let region = c.requires.0 in record {
      starts = kept.starts;
      empty = all_empty c.loop-place.places.held c.args.self.len kept.long (λ k below. kept.empty k (omega (arith, over, below)));
      at = region.right_at;
      long = region.right_long;
      from = region.from;
    }

pub loop-place-preserved : goal.loop-place-preserved
loop-place-preserved g c =
    let kept = c.loop-place.invariant in let held = c.loop-place.places.held in let place = c.loop-place.place in
    let within : place < length held = omega (arith, kept.long, c.loop-place-test.true) in
    let after = c.read-value.ensures.after in record {
      starts = after.0 ∙ kept.starts;
      long = ap length after.1 ∙ length-set held place None ∙ kept.long;
      empty = λ k below. ap (λ cells. get_or cells k None) after.1 ∙ elim (cases_eq k place) [
        | inl same ↦ rw same (get_or-set_same held place None None within)
        | inr differs ↦ get_or-set_other held place k None None differs ∙ kept.empty k (omega (arith, differs))
      ];
      taken = λ k past below.
          let was = kept.taken k (omega arith) below in
          (was.0, ap (λ cells. get_or cells k None) after.1 ∙ get_or-set_other held place k None None (λ e. omega arith) ∙ was.1);
    }
