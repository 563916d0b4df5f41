-- The rows of `an_update_comes_too_late` compute.
use Rattle.std.proofs.Common.{refl}
use Rattle.air_frame.specs.Hearing.{heard_in}
use Rattle.chan_select.specs.Channel.{channel_of}
use Rattle.chan_select.specs.PseudoRandom.{mam, perm, prn, reversed_octet, stage}
use Rattle.data_pdu.specs.Reading.{ctrl_of}
use Rattle.data_pdu.specs.Layouts.{makers}
use Rattle.frame_bits.specs.Crc.{crc, crc_octets, crc_of_bits, remainder}
use Rattle.frame_bits.specs.Whitening.{mask_of, whitening_bit, whitening_of}
use Rattle.wire_fields.specs.Field.{little_endian}
use Rattle.link_pairs.specs.link_model.Packets.{good_pdu, is_forged, packet_sent, whole_pdu}
use Rattle.link_pairs.specs.link_model.Receiving.{replies_of}
use Rattle.link_runs.proofs.rows.an_update_comes_too_late.Goals as goal

pub returns : goal.returns
unfolding heard_in crc crc_octets crc_of_bits remainder mask_of whitening_bit whitening_of ctrl_of makers little_endian channel_of mam perm prn
    reversed_octet stage good_pdu is_forged packet_sent whole_pdu replies_of
returns c = record { in_time = refl; late = refl; shut = refl; goes_on = refl }
