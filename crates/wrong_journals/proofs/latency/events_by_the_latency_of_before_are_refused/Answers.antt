-- The peripheral skips an event, or wakes in it, by another latency than the one in force.
use Rattle.std.proofs.Common.{◌≡◌, ℕ, [], Some, None, refl}
use Rattle.std.specs.Prelude.{◌≢◌}
use Rattle.ble_base.specs.declared.roles.Side.TheVariants.{A, B}
use Rattle.ble_base.specs.declared.verdicts.Verdict.TheVariants.{Good, Missed}
use Rattle.journal.specs.declared.entries.Mark.TheVariants.{Pass}
use Rattle.adv_pdu.specs.Header.{kept_bits}
use Rattle.adv_pdu.specs.Reading.{read_of}
use Rattle.air_frame.specs.Hearing.{heard_in}
use Rattle.ble_base.specs.ChannelMap.{data_channels, used_channels}
use Rattle.frame_bits.specs.Crc.{crc, crc_octets, crc_of_bits, remainder}
use Rattle.frame_bits.specs.Whitening.{mask_of, next_mask, whitening_bit, whitening_of}
use Rattle.h4_frames.specs.Frames.{frames}
use Rattle.hci_cmd.specs.Command.{command_of, layout_of, layouts}
use Rattle.host_view.specs.Changes.{view_after}
use Rattle.wire_fields.specs.Field.{little_endian}
use Rattle.data_pdu.specs.Layouts.{makers}
use Rattle.data_pdu.specs.Reading.{ctrl_of, length_of}
use Rattle.scan_init.specs.Access.{bit_count, is_valid_access, next_access_of}
use Rattle.journal_pdus.specs.controller_model.Packets.{pdu_heard}
use Rattle.journal_pdus.specs.journal_acks.Carried.{sent_line_of, channel_entered}
use Rattle.journal_pdus.specs.journal_acks.Exchange.{exchange_of}
use Rattle.journal_pdus.specs.journal_acks.EventOrder.{entered_on}
use Rattle.journal_pdus.specs.journal_controls.LineSteps.{keyed_on, control_on}
use Rattle.journal_pdus.specs.journal_data.Lines.{lines_of}
use Rattle.journal_pdus.specs.journal_links.Begun.{links_begun}
use Rattle.journal_pdus.specs.journal_links.Rows.{one_link}
use Rattle.journal_pdus.specs.journal_packets.Belonging.{is_answer, link_of_packet}
use Rattle.journal_pdus.specs.journal_controls.journal_ends.Rows.{some_words}
use Rattle.journal_pdus.specs.journal_leaving.Leaving.{leaving_on}
use Rattle.journal_pdus.specs.journal_moves.journal_events.EventLines.{event_on}
use Rattle.journal_pdus.specs.journal_moves.journal_wants.Station.{station_on}
use Rattle.journal_pdus.specs.journal_moves.Doing.{doing_kept}
use Rattle.journal_pdus.specs.journal_moves.Moves.{IsAwaited}
use Rattle.journal_pdus.specs.journal_moves.journal_wants.Rows.{two_setups}
use Rattle.journal_pdus.specs.journal_rules.Skipping.{events_heard}
use Rattle.wrong_journals.specs.Again.{first_again}
use Rattle.wrong_journals.specs.Latency.{none_from_now, not_applied, one_from_now}
use Rattle.wrong_journals.proofs.Differing.{truths_differ}
use Rattle.wrong_journals.proofs.latency.events_by_the_latency_of_before_are_refused.Goals as goal

good_heard : Good ≢ Missed
good_heard is = let same : Good ≡ Missed = is in absurd cc

nobody_listens : (phase : ℕ) → None ≡ Some phase → ⊥
nobody_listens phase is = let none : None ≡ Some phase = is in absurd cc

pub returns-clause-woken : goal.returns-clause-woken
unfolding doing_kept station_on event_on view_after leaving_on keyed_on control_on ctrl_of length_of makers lines_of frames exchange_of sent_line_of channel_entered entered_on link_of_packet is_answer links_begun pdu_heard heard_in read_of kept_bits crc crc_octets crc_of_bits remainder mask_of next_mask whitening_bit whitening_of little_endian command_of layout_of layouts next_access_of is_valid_access bit_count data_channels used_channels
returns-clause-woken c lawful = nobody_listens 0 (lawful one_from_now [] B 20 first_again Pass Good refl good_heard).in_phase

peripheral_listens : IsAwaited some_words two_setups none_from_now B 20 first_again
unfolding doing_kept station_on event_on view_after leaving_on keyed_on control_on ctrl_of length_of makers lines_of frames exchange_of sent_line_of channel_entered entered_on link_of_packet is_answer links_begun pdu_heard heard_in read_of kept_bits crc crc_octets crc_of_bits remainder mask_of next_mask whitening_bit whitening_of little_endian command_of layout_of layouts next_access_of is_valid_access bit_count data_channels used_channels
peripheral_listens = record { listened = record { in_phase = refl; on_channel = refl }; on_link = refl }

pub returns-clause-skipped : goal.returns-clause-skipped
returns-clause-skipped c lawful = lawful none_from_now [] B 20 first_again Missed refl peripheral_listens refl

pub returns-clause-in_words : goal.returns-clause-in_words
unfolding events_heard doing_kept station_on event_on view_after leaving_on keyed_on control_on ctrl_of length_of makers lines_of frames exchange_of sent_line_of channel_entered entered_on link_of_packet is_answer links_begun pdu_heard heard_in read_of kept_bits crc crc_octets crc_of_bits remainder mask_of next_mask whitening_bit whitening_of little_endian command_of layout_of layouts next_access_of is_valid_access bit_count data_channels used_channels
returns-clause-in_words c lawful = truths_differ (lawful not_applied [] A 1 1 20 one_link refl refl)
