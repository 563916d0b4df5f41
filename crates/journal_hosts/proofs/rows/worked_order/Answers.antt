-- Proof of `rows::worked_order`: the definitions compute.
use Rattle.std.proofs.Common.{true, false, [], ◌∷◌, refl}
use Rattle.journal_data.specs.Lines.{lines_of}
use Rattle.wire_fields.specs.Field.{little_endian}
use Rattle.journal_hosts.specs.HostOrder.{LinkPiece, waiting_for}
use Rattle.journal_hosts.proofs.rows.worked_order.Goals as goal

first : LinkPiece
first = record { link = 1; start = true; body = 0xAA ∷ [] }

second : LinkPiece
second = record { link = 2; start = false; body = 0xBB ∷ [] }

pub returns : goal.returns
unfolding lines_of waiting_for little_endian first second
returns c = record {
  two = refl;
  first = record { piece = first; handle = 0; first = refl; under = refl; octets_are = refl };
  second = record { piece = second; handle = 1; first = refl; under = refl; octets_are = refl };
  none = refl;
  shut = record { piece = second; handle = 1; first = refl; under = refl; octets_are = refl };
}
