-- Proof of `rows::worked_counting`.
use Rattle.std.proofs.Common.{refl}
use Rattle.wire_fields.specs.Field.{little_endian}
use Rattle.journal_sending.proofs.rows.worked_counting.Goals as goal

pub returns : goal.returns
unfolding little_endian
returns c = record {
  not_counted = refl;
  wrongly = λ wrong. absurd cc;
  not_again = refl;
  wrongly_again = λ wrong. absurd cc;
  counted = refl;
  ends = refl;
  ended = refl;
  no_data = refl;
  none_told = refl;
  again = refl;
  not_untold = λ wrong. absurd cc;
}
