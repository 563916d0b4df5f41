-- Proof of `rows::worked_md`: the definitions compute.
use Rattle.std.proofs.Common.{refl}
use Rattle.wire_fields.specs.Field.{little_endian}
use Rattle.journal_fixing.proofs.rows.worked_md.Goals as goal

pub returns : goal.returns
unfolding little_endian
returns c = record {
  alone = refl;
  with_data = refl;
  another = refl;
  not_alone = λ is. absurd cc;
  part = refl;
  whole = refl;
  again = refl;
  end_waits = refl;
  data_again = refl;
  nothing = refl;
  never_goes = refl;
  not_unsaid = λ is. absurd cc;
  all_gone = refl;
}
