-- Proof of `rows::worked_fixing`: the definitions compute.
use Rattle.std.proofs.Common.{refl}
use Rattle.adv_pdu.specs.Header.{kept_bits}
use Rattle.adv_pdu.specs.Reading.{read_of}
use Rattle.air_frame.specs.Hearing.{heard_in}
use Rattle.data_pdu.specs.Layouts.{makers}
use Rattle.data_pdu.specs.Reading.{ctrl_of, length_of}
use Rattle.frame_bits.specs.Crc.{crc, crc_octets, crc_of_bits, remainder}
use Rattle.frame_bits.specs.Whitening.{mask_of, next_mask, whitening_bit, whitening_of}
use Rattle.h4_frames.specs.Frames.{frames}
use Rattle.hci_cmd.specs.Command.{command_of, layout_of, layouts}
use Rattle.journal_controls.specs.controller_model.Packets.{pdu_heard}
use Rattle.wire_fields.specs.Field.{little_endian}
use Rattle.journal_controls.specs.LineSteps.{keyed_on}
use Rattle.journal_controls.specs.journal_acks.Carried.{sent_line_of}
use Rattle.journal_controls.specs.journal_acks.Exchange.{exchange_of}
use Rattle.journal_controls.specs.journal_links.Begun.{links_begun}
use Rattle.journal_controls.specs.journal_packets.Belonging.{is_answer, link_of_packet}
use Rattle.journal_fixing.specs.OnLines.{fixing_kept, going_kept}
use Rattle.journal_fixing.proofs.rows.worked_fixing.Goals as goal

pub returns : goal.returns
unfolding fixing_kept going_kept keyed_on ctrl_of length_of makers exchange_of sent_line_of link_of_packet is_answer links_begun pdu_heard heard_in read_of kept_bits crc crc_octets crc_of_bits remainder mask_of next_mask whitening_bit whitening_of little_endian frames command_of layout_of layouts
returns c = record {
  fixes = λ words. refl;
  later = λ words. refl;
  fixed = λ words. refl;
  goes = λ words. refl;
  taken = λ words. refl;
}
