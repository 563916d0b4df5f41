-- Proof of `rows::worked_md`: the definitions compute.
use Rattle.std.proofs.Common.{refl}
use Rattle.data_pdu.specs.Layouts.{makers}
use Rattle.data_pdu.specs.Reading.{ctrl_of, length_of}
use Rattle.h4_frames.specs.Frames.{frames}
use Rattle.journal_events.specs.journal_sending.journal_data.Lines.{lines_of}
use Rattle.wire_fields.specs.Field.{little_endian}
use Rattle.journal_rules.proofs.rows.worked_md.Goals as goal

pub returns : goal.returns
unfolding ctrl_of length_of makers lines_of frames little_endian
returns c = record {
  more = refl;
  not_last = λ wrong. absurd cc;
  last = refl;
  not_more = λ wrong. absurd cc;
  again = refl;
}
