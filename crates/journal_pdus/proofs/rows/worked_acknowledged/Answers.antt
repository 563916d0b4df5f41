-- Proof of `rows::worked_acknowledged`: the definitions compute.
use Rattle.std.proofs.Common.{refl}
use Rattle.adv_pdu.specs.Header.{kept_bits}
use Rattle.adv_pdu.specs.Reading.{read_of}
use Rattle.air_frame.specs.Hearing.{heard_in}
use Rattle.frame_bits.specs.Crc.{crc, crc_octets, crc_of_bits, remainder}
use Rattle.frame_bits.specs.Whitening.{mask_of, next_mask, whitening_bit, whitening_of}
use Rattle.h4_frames.specs.Frames.{frames}
use Rattle.journal_moves.specs.journal_wants.journal_sending.controller_model.Packets.{pdu_heard}
use Rattle.wire_fields.specs.Field.{little_endian}
use Rattle.journal_moves.specs.journal_wants.journal_sending.journal_links.Begun.{links_begun}
use Rattle.journal_moves.specs.journal_wants.journal_sending.journal_packets.Belonging.{is_answer, link_of_packet}
use Rattle.journal_moves.specs.journal_wants.journal_sending.journal_acks.Carried.{sent_line_of}
use Rattle.journal_moves.specs.journal_wants.journal_sending.journal_acks.Exchange.{exchange_of}
use Rattle.journal_moves.specs.journal_wants.journal_sending.journal_data.Lines.{lines_of}
use Rattle.journal_pdus.proofs.rows.worked_acknowledged.Goals as goal

pub returns : goal.returns
unfolding lines_of frames exchange_of sent_line_of link_of_packet is_answer links_begun pdu_heard heard_in read_of kept_bits crc crc_octets crc_of_bits remainder mask_of next_mask whitening_bit whitening_of little_endian
returns c = record { sent = refl; taken = refl; lost = refl; acknowledged = refl }
