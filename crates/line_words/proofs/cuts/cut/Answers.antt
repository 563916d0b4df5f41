-- Proof of `cuts::cut`.
use Rattle.std.proofs.Common.{rules, ◌==◌}
use Rattle.line_words.proofs.Separators.{one_part, first_part}
use Rattle.line_words.proofs.cuts.cut.Goals as goal

pub returns-in-None : goal.returns-in-None
returns-in-None c = one_part (λ octet. octet == c.args.separator) 0 c.args.octets.now (search rules)

pub returns-in-Some : goal.returns-in-Some
returns-in-Some c = first_part (λ octet. octet == c.args.separator) c.args.octets.now c.in-Some.at (search rules)
