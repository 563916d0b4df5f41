-- Proof of `rows::worked_words`: the definitions compute.
use Rattle.std.proofs.Common.{refl}
use Rattle.adv_pdu.specs.Header.{kept_bits}
use Rattle.adv_pdu.specs.Reading.{read_of}
use Rattle.air_frame.specs.Hearing.{heard_in}
use Rattle.frame_bits.specs.Crc.{crc, crc_octets, crc_of_bits, remainder}
use Rattle.frame_bits.specs.Whitening.{mask_of, next_mask, whitening_bit, whitening_of}
use Rattle.h4_frames.specs.Frames.{frames}
use Rattle.hci_cmd.specs.Command.{command_of, layout_of, layouts}
use Rattle.wire_fields.specs.Field.{little_endian}
use Rattle.journal_controls.specs.controller_model.Packets.{pdu_heard}
use Rattle.journal_controls.specs.run_model.Links.{begins_link}
use Rattle.journal_words.specs.Drawn.{drawn_counts}
use Rattle.journal_words.proofs.rows.worked_words.Goals as goal

pub returns : goal.returns
unfolding drawn_counts begins_link pdu_heard heard_in read_of kept_bits crc crc_octets crc_of_bits remainder mask_of next_mask whitening_bit whitening_of little_endian frames command_of layout_of layouts
returns c = record { central = refl; peripheral = refl; asked = refl; given = refl; again = refl; next = refl }
