-- Proof of `rows::worked_ends`: the definitions compute.
use Rattle.std.proofs.Common.{refl}
use Rattle.adv_pdu.specs.Header.{kept_bits}
use Rattle.adv_pdu.specs.Reading.{read_of}
use Rattle.air_frame.specs.Hearing.{heard_in}
use Rattle.frame_bits.specs.Crc.{crc, crc_octets, crc_of_bits, remainder}
use Rattle.frame_bits.specs.Whitening.{mask_of, next_mask, whitening_bit, whitening_of}
use Rattle.h4_frames.specs.Frames.{frames}
use Rattle.hci_cmd.specs.Command.{command_of, layout_of, layouts}
use Rattle.journal_acks.specs.controller_model.Packets.{pdu_heard}
use Rattle.wire_fields.specs.Field.{little_endian}
use Rattle.journal_acks.specs.journal_links.Begun.{links_begun}
use Rattle.journal_acks.specs.journal_packets.Belonging.{is_answer, link_of_packet}
use Rattle.journal_ends.specs.Seen.{seen_on}
use Rattle.journal_ends.proofs.rows.worked_ends.Goals as goal

pub returns : goal.returns
unfolding seen_on link_of_packet is_answer links_begun pdu_heard heard_in read_of kept_bits crc crc_octets crc_of_bits remainder mask_of next_mask whitening_bit whitening_of little_endian frames command_of layout_of layouts
returns c = record { central = refl; peripheral = refl; other_link = refl; last = refl; forged = refl; last_before = refl }
