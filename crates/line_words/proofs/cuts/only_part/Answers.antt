-- Proof of `cuts::only_part`.
use Rattle.std.proofs.Common.{sym}
use Rattle.line_words.proofs.Separators.{second_part}
use Rattle.line_words.proofs.cuts.only_part.Goals as goal

pub returns-in_default-Some : goal.returns-in_default-Some
returns-in_default-Some c =
    let first = rw c.in_default-Some.is-1 at c.cut.ensures in
    sym (second_part c.args.separator c.args.octets.now c.cut.result.0.now c.in_default-Some.field-0-1.now first)
