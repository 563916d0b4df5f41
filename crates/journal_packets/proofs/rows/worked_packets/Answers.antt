-- Proof of `rows::worked_packets`: the definitions compute.
use Rattle.std.proofs.Common.{refl}
use Rattle.adv_pdu.specs.Header.{kept_bits}
use Rattle.adv_pdu.specs.Reading.{read_of}
use Rattle.air_frame.specs.Hearing.{heard_in}
use Rattle.frame_bits.specs.Crc.{crc, crc_octets, crc_of_bits, remainder}
use Rattle.frame_bits.specs.Whitening.{mask_of, next_mask, whitening_bit, whitening_of}
use Rattle.journal_links.specs.controller_model.Packets.{pdu_heard}
use Rattle.wire_fields.specs.Field.{little_endian}
use Rattle.journal_links.specs.Begun.{links_begun}
use Rattle.journal_packets.specs.Belonging.{is_answer, link_of_packet}
use Rattle.journal_packets.proofs.rows.worked_packets.Goals as goal

pub returns : goal.returns
unfolding link_of_packet is_answer links_begun pdu_heard heard_in read_of kept_bits crc crc_octets crc_of_bits remainder mask_of next_mask whitening_bit whitening_of little_endian
returns c = record { central = refl; unasked = refl; unheard = refl; answer = refl; later = refl }
