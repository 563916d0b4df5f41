-- Proof of `rows::worked_skipping`: the definitions compute.
use Rattle.std.proofs.Common.{refl}
use Rattle.adv_pdu.specs.Header.{kept_bits}
use Rattle.adv_pdu.specs.Reading.{read_of}
use Rattle.air_frame.specs.Hearing.{heard_in}
use Rattle.data_pdu.specs.Layouts.{makers}
use Rattle.data_pdu.specs.Reading.{ctrl_of, length_of}
use Rattle.frame_bits.specs.Crc.{crc, crc_octets, crc_of_bits, remainder}
use Rattle.frame_bits.specs.Whitening.{mask_of, next_mask, whitening_bit, whitening_of}
use Rattle.ble_base.specs.ChannelMap.{data_channels, used_channels}
use Rattle.journal_events.specs.journal_sending.controller_model.Packets.{pdu_heard}
use Rattle.journal_events.specs.journal_sending.journal_links.Begun.{links_begun}
use Rattle.journal_events.specs.journal_sending.journal_packets.Belonging.{is_answer, link_of_packet}
use Rattle.wire_fields.specs.Field.{little_endian}
use Rattle.journal_rules.specs.Skipping.{events_heard}
use Rattle.journal_rules.proofs.rows.worked_skipping.Goals as goal

pub returns : goal.returns
unfolding events_heard link_of_packet is_answer links_begun pdu_heard heard_in read_of kept_bits crc crc_octets crc_of_bits remainder mask_of next_mask whitening_bit whitening_of little_endian ctrl_of length_of makers used_channels data_channels
returns c = record {
  peripheral = refl;
  central = refl;
  in_force = refl;
  not_first = λ wrong. absurd cc;
  before = refl;
  taken = refl;
  skips = refl;
  enters = refl;
  heard = refl;
  busy = refl;
  never = refl;
  at_central = refl;
}
