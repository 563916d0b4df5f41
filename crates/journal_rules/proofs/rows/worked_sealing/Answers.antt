-- Proof of `rows::worked_sealing`: the definitions compute.
use Rattle.std.proofs.Common.{refl}
use Rattle.data_pdu.specs.Layouts.{makers}
use Rattle.data_pdu.specs.Reading.{ctrl_of, length_of}
use Rattle.wire_fields.specs.Field.{little_endian}
use Rattle.journal_rules.specs.Sealing.{is_sealed, sent_since}
use Rattle.journal_rules.proofs.rows.worked_sealing.Goals as goal

pub returns : goal.returns
unfolding is_sealed sent_since ctrl_of length_of makers little_endian
returns c = record {
  peripheral = refl;
  unsealed = λ wrong. absurd cc;
  counter = refl;
  first = λ wrong. absurd cc;
  central = refl;
  one = refl;
  paused = refl;
  central_paused = refl;
  again = refl;
  anew = refl;
  other_link = refl;
  other_role = refl;
}
