-- The proof of `Region::make`.
use Rattle.std.proofs.Common.{length, None, refl, ap, ◌∙◌}
use Rattle.std.proofs.lemmas.List.{length-replicate}
use Rattle.raw_block.proofs.region.Region.make.Goals as goal

pub returns-clause-region : goal.returns-clause-region
returns-clause-region g c =
    let fresh = c.in_ok-start.ensures in (
      record {
        starts = fresh.starts;
        long = ap length fresh.empty ∙ length-replicate c.args.len None;
        right_at = fresh.at;
        right_long = fresh.long;
        from = fresh.from;
      },
      refl,
    )
