-- Proof of `moves::wrong_moves_are_refused`.
use Rattle.std.proofs.Common.{◌≡◌, ℕ, [], Some, None, refl}
use Rattle.std.specs.Prelude.{◌≢◌}
use Rattle.ble_base.specs.declared.roles.Side.TheVariants.{A}
use Rattle.ble_base.specs.declared.verdicts.Verdict.TheVariants.{Good, Missed}
use Rattle.journal.specs.declared.entries.Mark.TheVariants.{Pass}
use Rattle.adv_pdu.specs.Header.{kept_bits}
use Rattle.adv_pdu.specs.Reading.{read_of}
use Rattle.air_frame.specs.Hearing.{heard_in}
use Rattle.ble_base.specs.ChannelMap.{data_channels, used_channels}
use Rattle.frame_bits.specs.Crc.{crc, crc_octets, crc_of_bits, remainder}
use Rattle.frame_bits.specs.Whitening.{mask_of, next_mask, whitening_bit, whitening_of}
use Rattle.h4_frames.specs.Frames.{frames}
use Rattle.hci_cmd.specs.Command.{command_of, layout_of, layouts}
use Rattle.host_view.specs.Changes.{view_after}
use Rattle.wire_fields.specs.Field.{little_endian}
use Rattle.data_pdu.specs.Layouts.{makers}
use Rattle.data_pdu.specs.Reading.{ctrl_of, length_of}
use Rattle.scan_init.specs.Access.{bit_count, is_valid_access, next_access_of}
use Rattle.journal_pdus.specs.controller_model.Packets.{pdu_heard}
use Rattle.journal_pdus.specs.controller_model.Rows.{advertisement_ending}
use Rattle.journal_pdus.specs.journal_acks.Carried.{sent_line_of, channel_entered}
use Rattle.journal_pdus.specs.journal_acks.Exchange.{exchange_of}
use Rattle.journal_pdus.specs.journal_acks.EventOrder.{entered_on}
use Rattle.journal_pdus.specs.journal_controls.LineSteps.{keyed_on, control_on}
use Rattle.journal_pdus.specs.journal_data.Lines.{lines_of}
use Rattle.journal_pdus.specs.journal_links.Begun.{links_begun}
use Rattle.journal_pdus.specs.journal_packets.Belonging.{is_answer, link_of_packet}
use Rattle.journal_pdus.specs.journal_controls.journal_ends.Rows.{some_words}
use Rattle.journal_pdus.specs.journal_leaving.Leaving.{leaving_on}
use Rattle.journal_pdus.specs.journal_moves.journal_events.EventLines.{event_on}
use Rattle.journal_pdus.specs.journal_moves.journal_wants.Station.{station_on}
use Rattle.journal_pdus.specs.journal_moves.Doing.{doing_kept}
use Rattle.journal_pdus.specs.journal_moves.Moves.{IsAwaited}
use Rattle.journal_pdus.specs.journal_moves.Rows.{advertised}
use Rattle.journal_pdus.specs.journal_moves.journal_wants.Rows.{asked_once_more, two_setups}
use Rattle.run_model.specs.Rows.{connectable_packet, first_reply}
use Rattle.wrong_journals.specs.Moves.{advertiser_asked, central_lost, scanner_asked}
use Rattle.wrong_journals.proofs.moves.wrong_moves_are_refused.Goals as goal

good_heard : Good ≢ Missed
good_heard is = let same : Good ≡ Missed = is in absurd cc

nobody_listens : (phase : ℕ) → None ≡ Some phase → ⊥
nobody_listens phase is = let none : None ≡ Some phase = is in absurd cc

pub returns-clause-unheard : goal.returns-clause-unheard
unfolding doing_kept station_on event_on view_after leaving_on keyed_on control_on ctrl_of length_of makers lines_of frames exchange_of sent_line_of channel_entered entered_on link_of_packet is_answer links_begun pdu_heard heard_in read_of kept_bits crc crc_octets crc_of_bits remainder mask_of next_mask whitening_bit whitening_of little_endian command_of layout_of layouts next_access_of is_valid_access bit_count data_channels used_channels
returns-clause-unheard c lawful = (lawful central_lost [] A 25 first_reply Pass Good refl).is_packet

pub returns-clause-yields : goal.returns-clause-yields
unfolding doing_kept station_on event_on view_after leaving_on keyed_on control_on ctrl_of length_of makers lines_of frames exchange_of sent_line_of channel_entered entered_on link_of_packet is_answer links_begun pdu_heard heard_in read_of kept_bits crc crc_octets crc_of_bits remainder mask_of next_mask whitening_bit whitening_of little_endian command_of layout_of layouts next_access_of is_valid_access bit_count data_channels used_channels
returns-clause-yields c lawful = (lawful asked_once_more [] A 37 connectable_packet Pass Missed refl).is_packet

pub returns-clause-twice : goal.returns-clause-twice
unfolding doing_kept station_on event_on view_after leaving_on keyed_on control_on ctrl_of length_of makers lines_of frames exchange_of sent_line_of channel_entered entered_on link_of_packet is_answer links_begun pdu_heard heard_in read_of kept_bits crc crc_octets crc_of_bits remainder mask_of next_mask whitening_bit whitening_of little_endian command_of layout_of layouts next_access_of is_valid_access bit_count data_channels used_channels
returns-clause-twice c lawful = (lawful advertised [] A 37 connectable_packet Pass Good refl).is_packet

pub returns-clause-listener : goal.returns-clause-listener
unfolding doing_kept station_on event_on view_after leaving_on keyed_on control_on ctrl_of length_of makers lines_of frames exchange_of sent_line_of channel_entered entered_on link_of_packet is_answer links_begun pdu_heard heard_in read_of kept_bits crc crc_octets crc_of_bits remainder mask_of next_mask whitening_bit whitening_of little_endian command_of layout_of layouts next_access_of is_valid_access bit_count data_channels used_channels
returns-clause-listener c lawful = nobody_listens 0 (lawful advertiser_asked [] A 37 connectable_packet Pass Good refl good_heard).in_phase

scanner_listens : IsAwaited some_words two_setups scanner_asked A 37 (advertisement_ending 0xDA)
unfolding doing_kept station_on event_on view_after leaving_on keyed_on control_on ctrl_of length_of makers lines_of frames exchange_of sent_line_of channel_entered entered_on link_of_packet is_answer links_begun pdu_heard heard_in read_of kept_bits crc crc_octets crc_of_bits remainder mask_of next_mask whitening_bit whitening_of little_endian command_of layout_of layouts next_access_of is_valid_access bit_count data_channels used_channels
scanner_listens = record { listened = record { in_phase = refl; on_channel = refl }; on_link = refl }

pub returns-clause-scanner : goal.returns-clause-scanner
returns-clause-scanner c lawful =
    lawful scanner_asked [] A 37 (advertisement_ending 0xDA) Missed refl scanner_listens refl
