-- Proof of `moves::misjudged_packets_are_refused`.
use Rattle.std.proofs.Common.{◌≡◌, ◌≢◌, [], ◌∷◌, refl}
use Rattle.ble_base.specs.declared.roles.Side.TheVariants.{A, B}
use Rattle.ble_base.specs.declared.verdicts.Verdict.TheVariants.{Broken, Good, Missed}
use Rattle.journal.specs.declared.entries.Mark.TheVariants.{Damage, Lost, Pass}
use Rattle.adv_pdu.specs.Header.{kept_bits}
use Rattle.adv_pdu.specs.Reading.{read_of}
use Rattle.air_frame.specs.Hearing.{heard_in}
use Rattle.ble_base.specs.ChannelMap.{data_channels, used_channels}
use Rattle.frame_bits.specs.Crc.{crc, crc_octets, crc_of_bits, remainder}
use Rattle.frame_bits.specs.Whitening.{mask_of, next_mask, whitening_bit, whitening_of}
use Rattle.h4_frames.specs.Frames.{frames}
use Rattle.hci_cmd.specs.Command.{command_of, layout_of, layouts}
use Rattle.host_view.specs.Changes.{view_after}
use Rattle.wire_fields.specs.Field.{little_endian}
use Rattle.data_pdu.specs.Layouts.{makers}
use Rattle.data_pdu.specs.Reading.{ctrl_of, length_of}
use Rattle.scan_init.specs.Access.{bit_count, is_valid_access, next_access_of}
use Rattle.journal_pdus.specs.controller_model.Packets.{pdu_heard}
use Rattle.journal_pdus.specs.controller_model.Rows.{advertisement_ending}
use Rattle.journal_pdus.specs.journal_acks.Carried.{sent_line_of, channel_entered}
use Rattle.journal_pdus.specs.journal_acks.Exchange.{exchange_of}
use Rattle.journal_pdus.specs.journal_acks.EventOrder.{entered_on}
use Rattle.journal_pdus.specs.journal_controls.LineSteps.{keyed_on, control_on}
use Rattle.journal_pdus.specs.journal_data.Lines.{lines_of}
use Rattle.journal_pdus.specs.journal_links.Begun.{links_begun}
use Rattle.journal_pdus.specs.journal_packets.Belonging.{is_answer, link_of_packet}
use Rattle.journal_pdus.specs.journal_controls.journal_ends.Rows.{some_words}
use Rattle.journal_pdus.specs.journal_leaving.Leaving.{leaving_on}
use Rattle.journal_pdus.specs.journal_moves.journal_events.EventLines.{event_on}
use Rattle.journal_pdus.specs.journal_moves.journal_wants.Station.{station_on}
use Rattle.journal_pdus.specs.journal_moves.Doing.{doing_kept}
use Rattle.journal_pdus.specs.journal_moves.Moves.{IsListenedFor}
use Rattle.journal_pdus.specs.journal_moves.Rows.{anchor_begins}
use Rattle.journal_pdus.specs.journal_moves.journal_wants.Rows.{two_setups}
use Rattle.run_model.specs.Rows.{first_packet}
use Rattle.wrong_journals.specs.Moves.{scanner_asked}
use Rattle.wrong_journals.proofs.moves.misjudged_packets_are_refused.Goals as goal

passes : Pass ≢ Lost
passes is = let same : Pass ≡ Lost = is in absurd cc

kept : Damage 8 (1 ∷ []) ≢ Lost
kept is = let same : Damage 8 (1 ∷ []) ≡ Lost = is in absurd cc

scanner_listens : IsListenedFor some_words two_setups scanner_asked A 37
unfolding doing_kept station_on event_on view_after leaving_on keyed_on control_on ctrl_of length_of makers lines_of frames exchange_of sent_line_of channel_entered entered_on link_of_packet is_answer links_begun pdu_heard heard_in read_of kept_bits crc crc_octets crc_of_bits remainder mask_of next_mask whitening_bit whitening_of little_endian command_of layout_of layouts next_access_of is_valid_access bit_count data_channels used_channels
scanner_listens = record { in_phase = refl; on_channel = refl }

peripheral_listens : IsListenedFor some_words two_setups anchor_begins B 25
unfolding doing_kept station_on event_on view_after leaving_on keyed_on control_on ctrl_of length_of makers lines_of frames exchange_of sent_line_of channel_entered entered_on link_of_packet is_answer links_begun pdu_heard heard_in read_of kept_bits crc crc_octets crc_of_bits remainder mask_of next_mask whitening_bit whitening_of little_endian command_of layout_of layouts next_access_of is_valid_access bit_count data_channels used_channels
peripheral_listens = record { in_phase = refl; on_channel = refl }

pub returns-clause-advertisement : goal.returns-clause-advertisement
unfolding doing_kept station_on event_on view_after leaving_on keyed_on control_on ctrl_of length_of makers lines_of frames exchange_of sent_line_of channel_entered entered_on link_of_packet is_answer links_begun pdu_heard heard_in read_of kept_bits crc crc_octets crc_of_bits remainder mask_of next_mask whitening_bit whitening_of little_endian command_of layout_of layouts next_access_of is_valid_access bit_count data_channels used_channels
returns-clause-advertisement c lawful =
    let is : Broken ≡ Good =
    lawful scanner_asked [] A 37 (advertisement_ending 0xDA) Pass Broken refl passes scanner_listens in absurd cc

pub returns-clause-changed : goal.returns-clause-changed
unfolding doing_kept station_on event_on view_after leaving_on keyed_on control_on ctrl_of length_of makers lines_of frames exchange_of sent_line_of channel_entered entered_on link_of_packet is_answer links_begun pdu_heard heard_in read_of kept_bits crc crc_octets crc_of_bits remainder mask_of next_mask whitening_bit whitening_of little_endian command_of layout_of layouts next_access_of is_valid_access bit_count data_channels used_channels
returns-clause-changed c lawful =
    let is : Missed ≡ Broken =
    lawful scanner_asked [] A 37 (advertisement_ending 0xDA) (Damage 8 (1 ∷ [])) Missed refl kept scanner_listens in
    absurd cc

pub returns-clause-central : goal.returns-clause-central
unfolding doing_kept station_on event_on view_after leaving_on keyed_on control_on ctrl_of length_of makers lines_of frames exchange_of sent_line_of channel_entered entered_on link_of_packet is_answer links_begun pdu_heard heard_in read_of kept_bits crc crc_octets crc_of_bits remainder mask_of next_mask whitening_bit whitening_of little_endian command_of layout_of layouts next_access_of is_valid_access bit_count data_channels used_channels
returns-clause-central c lawful =
    let is : Broken ≡ Good =
    lawful anchor_begins [] B 25 first_packet Pass Broken refl passes peripheral_listens in absurd cc
