-- Proof of `rows::worked_events`.
use Rattle.std.proofs.Common.{◌∷◌, ◌++◌, [], true, Some, refl}
use Rattle.ble_base.specs.declared.roles.Side.TheVariants.{B}
use Rattle.adv_pdu.specs.Header.{kept_bits}
use Rattle.adv_pdu.specs.Reading.{read_of}
use Rattle.air_frame.specs.Hearing.{heard_in}
use Rattle.ble_base.specs.ChannelMap.{data_channels, used_channels}
use Rattle.frame_bits.specs.Crc.{crc, crc_octets, crc_of_bits, remainder}
use Rattle.frame_bits.specs.Whitening.{mask_of, next_mask, whitening_bit, whitening_of}
use Rattle.h4_frames.specs.Frames.{frames}
use Rattle.hci_cmd.specs.Command.{command_of, layout_of, layouts}
use Rattle.host_view.specs.Changes.{view_after}
use Rattle.wire_fields.specs.Field.{little_endian}
use Rattle.data_pdu.specs.Layouts.{makers}
use Rattle.data_pdu.specs.Reading.{ctrl_of, length_of}
use Rattle.scan_init.specs.Access.{bit_count, is_valid_access, next_access_of}
use Rattle.journal_sending.specs.controller_model.Packets.{pdu_heard}
use Rattle.journal_sending.specs.journal_acks.Carried.{sent_line_of, channel_entered}
use Rattle.journal_sending.specs.journal_acks.Exchange.{exchange_of}
use Rattle.journal_sending.specs.journal_acks.EventOrder.{entered_on}
use Rattle.journal_sending.specs.journal_controls.LineSteps.{keyed_on, control_on}
use Rattle.journal_sending.specs.journal_data.Lines.{lines_of}
use Rattle.journal_sending.specs.journal_links.Begun.{links_begun}
use Rattle.journal_sending.specs.journal_packets.Belonging.{is_answer, link_of_packet}
use Rattle.journal_sending.specs.journal_leaving.Leaving.{leaving_on}
use Rattle.journal_sending.specs.run_model.Rows.{one_connection_journal, turn_entry}
use Rattle.std.specs.Prelude.{◌<◌}
use Rattle.std.proofs.Common.{arith}
use Rattle.ble_base.specs.declared.roles.Role.TheVariants.{Central}
use Rattle.journal_sending.specs.journal_controls.Rows.{first_on}
use Rattle.journal_anchors.proofs.rows.worked_events.Goals as goal

pub returns : goal.returns
unfolding view_after leaving_on keyed_on control_on ctrl_of length_of makers lines_of frames exchange_of sent_line_of channel_entered entered_on link_of_packet is_answer links_begun pdu_heard heard_in read_of kept_bits crc crc_octets crc_of_bits remainder mask_of next_mask whitening_bit whitening_of little_endian command_of layout_of layouts next_access_of is_valid_access bit_count data_channels used_channels
returns c = record {
  missed = λ lawful.
      let late : 2 < 2 = lawful.between (one_connection_journal ++ turn_entry 1 ∷ turn_entry 2 ∷ []) [] 3 true (Some true) refl
      B 0 1 (first_on Central) refl refl refl in
      absurd (omega (arith, late));
}
