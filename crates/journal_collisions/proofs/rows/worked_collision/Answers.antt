-- Proof of `rows::worked_collision`: the definitions compute.
use Rattle.std.proofs.Common.{refl}
use Rattle.ble_base.specs.ChannelMap.{data_channels, used_channels}
use Rattle.adv_pdu.specs.Header.{kept_bits}
use Rattle.adv_pdu.specs.Reading.{read_of}
use Rattle.air_frame.specs.Hearing.{heard_in}
use Rattle.data_pdu.specs.Layouts.{makers}
use Rattle.data_pdu.specs.Reading.{ctrl_of, length_of}
use Rattle.frame_bits.specs.Crc.{crc, crc_octets, crc_of_bits, remainder}
use Rattle.frame_bits.specs.Whitening.{mask_of, next_mask, whitening_bit, whitening_of}
use Rattle.journal_endings.specs.journal_indications.journal_data.controller_model.Packets.{pdu_heard}
use Rattle.journal_endings.specs.journal_indications.journal_data.journal_links.Begun.{links_begun}
use Rattle.wire_fields.specs.Field.{little_endian}
use Rattle.journal_collisions.proofs.rows.worked_collision.Goals as goal

pub returns : goal.returns
unfolding links_begun pdu_heard heard_in read_of kept_bits crc crc_octets crc_of_bits remainder mask_of next_mask whitening_bit whitening_of little_endian ctrl_of makers length_of data_channels used_channels
returns c = record {
  own = refl;
  other = refl;
  peripheral = refl;
  collides = record { is_link = refl; first = refl; runs = refl; exclude = refl };
  rejection = refl;
}
