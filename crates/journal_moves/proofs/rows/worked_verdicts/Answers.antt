-- Proof of `rows::worked_verdicts`: the definitions compute.
use Rattle.std.proofs.Common.{refl}
use Rattle.adv_pdu.specs.Header.{kept_bits}
use Rattle.adv_pdu.specs.Reading.{read_of}
use Rattle.air_frame.specs.Hearing.{heard_in}
use Rattle.ble_base.specs.ChannelMap.{data_channels, used_channels}
use Rattle.frame_bits.specs.Crc.{crc, crc_octets, crc_of_bits, remainder}
use Rattle.frame_bits.specs.Whitening.{mask_of, next_mask, whitening_bit, whitening_of}
use Rattle.h4_frames.specs.Frames.{frames}
use Rattle.hci_cmd.specs.Command.{command_of, layout_of, layouts}
use Rattle.host_view.specs.Changes.{view_after}
use Rattle.wire_fields.specs.Field.{little_endian}
use Rattle.data_pdu.specs.Layouts.{makers}
use Rattle.data_pdu.specs.Reading.{ctrl_of, length_of}
use Rattle.scan_init.specs.Access.{bit_count, is_valid_access, next_access_of}
use Rattle.journal_wants.specs.controller_model.Packets.{pdu_heard}
use Rattle.journal_wants.specs.journal_acks.Carried.{sent_line_of, channel_entered}
use Rattle.journal_wants.specs.journal_acks.Exchange.{exchange_of}
use Rattle.journal_wants.specs.journal_acks.EventOrder.{entered_on}
use Rattle.journal_wants.specs.journal_controls.LineSteps.{keyed_on, control_on}
use Rattle.journal_wants.specs.journal_data.Lines.{lines_of}
use Rattle.journal_wants.specs.journal_links.Begun.{links_begun}
use Rattle.journal_wants.specs.journal_packets.Belonging.{is_answer, link_of_packet}
use Rattle.journal_wants.specs.journal_sending.journal_leaving.Leaving.{leaving_on}
use Rattle.journal_wants.specs.journal_events.EventLines.{event_on}
use Rattle.journal_wants.specs.Station.{station_on}
use Rattle.journal_moves.specs.Doing.{doing_kept}
use Rattle.journal_moves.proofs.rows.worked_verdicts.Goals as goal

pub returns : goal.returns
unfolding doing_kept station_on event_on view_after leaving_on keyed_on control_on ctrl_of length_of makers lines_of frames exchange_of sent_line_of channel_entered entered_on link_of_packet is_answer links_begun pdu_heard heard_in read_of kept_bits crc crc_octets crc_of_bits remainder mask_of next_mask whitening_bit whitening_of little_endian command_of layout_of layouts next_access_of is_valid_access bit_count data_channels used_channels
returns c = record { passes = refl; changed = refl; of_others = refl; answers = refl; unheard = refl }
