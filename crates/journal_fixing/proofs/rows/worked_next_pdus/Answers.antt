-- Proof of `rows::worked_next_pdus`: the definitions compute.
use Rattle.std.proofs.Common.{◌≡◌, ℕ, length, refl, ap}
use Rattle.wire_fields.specs.Field.{little_endian}
use Rattle.journal_controls.specs.link_model.Acknowledgement.{Pdu}
use Rattle.journal_fixing.proofs.rows.worked_next_pdus.Goals as goal

abbrev octets : Pdu → ℕ
octets pdu = length pdu.body

pub returns : goal.returns
unfolding little_endian
returns c = record {
  version = refl;
  limit = refl;
  longer = refl;
  cut = refl;
  not_whole = λ is. let differs : 27 ≡ 28 = ap octets is in absurd cc;
  ends = refl;
  ended = refl;
  no_data = λ is. let differs : 0 ≡ 27 = ap octets is in absurd cc;
  held = refl;
  held_back = refl;
}
