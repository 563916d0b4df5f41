-- Proof of `rows::worked_advertisement`: the definitions compute.
use Rattle.std.proofs.Common.{refl}
use Rattle.ble_base.specs.ChannelMap.{data_channels, used_channels}
use Rattle.h4_frames.specs.Frames.{frames}
use Rattle.wire_fields.specs.Field.{little_endian}
use Rattle.frame_bits.specs.Crc.{crc, crc_octets, crc_of_bits, remainder}
use Rattle.frame_bits.specs.Whitening.{mask_of, next_mask, whitening_bit, whitening_of}
use Rattle.air_frame.specs.Hearing.{heard_in}
use Rattle.adv_pdu.specs.Header.{kept_bits}
use Rattle.adv_pdu.specs.Reading.{read_of}
use Rattle.hci_cmd.specs.Command.{command_of, layout_of, layouts}
use Rattle.host_view.specs.Changes.{view_after}
use Rattle.host_view.specs.Noted.{view_noted}
use Rattle.host_view.specs.Status.{status_of}
use Rattle.host_view.specs.scan_init.Access.{bit_count, is_valid_access, next_access_of}
use Rattle.chan_select.specs.Channel.{channel_of}
use Rattle.chan_select.specs.PseudoRandom.{mam, perm, prn, reversed_octet, stage}
use Rattle.link_commands.specs.open_links.link_model.End.{facts_of as facts_of_end}
use Rattle.link_commands.specs.open_links.link_model.Receiving.{replies_of}
use Rattle.link_commands.specs.open_links.link_model.Packets.{good_pdu, packet_sent, verdict_of as verdict_of_end}
use Rattle.controller_model.specs.Packets.{pdu_heard, use_of, verdict_of}
use Rattle.controller_model.specs.Side.{facts_of, notes_of, result_of}
use Rattle.controller_model.proofs.rows.worked_advertisement.Goals as goal

pub returns : goal.returns
unfolding facts_of notes_of result_of frames little_endian command_of layout_of layouts view_after view_noted status_of use_of verdict_of pdu_heard heard_in read_of kept_bits crc crc_octets crc_of_bits remainder mask_of next_mask whitening_bit whitening_of next_access_of is_valid_access bit_count channel_of mam perm prn reversed_octet stage used_channels data_channels facts_of_end replies_of good_pdu packet_sent verdict_of_end
returns c = record { sends = refl; listens = refl; good = refl; broken = refl; missed = refl; reports = refl }
