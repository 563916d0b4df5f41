-- The proof of `Region::swap`.
use Rattle.std.proofs.Common.{length, set, Some, None, refl, ap, ◌∙◌, length-set}
use Rattle.std.proofs.lemmas.List.{set-set}
use Rattle.raw_block.proofs.region.Region.swap.Goals as goal

pub returns-clause-after : goal.returns-clause-after
returns-clause-after g c =
    let before = c.args.self.now in let region = c.requires.0 in let read = c.read-there.ensures.after in let written = c.write.ensures in
    let cells = before.places.held in let place = c.args.place in
    let held = written.1 ∙ ap (λ l. set l place (Some c.args.value)) read.1 ∙ set-set cells place None (Some c.args.value) in record {
      region = record {
        starts = written.0 ∙ read.0 ∙ region.starts;
        long = ap length held ∙ length-set cells place (Some c.args.value) ∙ region.long;
        right_at = region.right_at;
        right_long = region.right_long;
        from = region.from;
      };
      held = held;
      long = refl;
    }
