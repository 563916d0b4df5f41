-- A link is open after the turn in which it was to end.
use Rattle.std.proofs.Common.{None, ◌++◌, refl}
use Rattle.ble_base.specs.declared.roles.Side.TheVariants.{A}
use Rattle.adv_pdu.specs.Header.{kept_bits}
use Rattle.adv_pdu.specs.Reading.{read_of}
use Rattle.air_frame.specs.Hearing.{heard_in}
use Rattle.ble_base.specs.ChannelMap.{data_channels, used_channels}
use Rattle.data_pdu.specs.Layouts.{makers}
use Rattle.data_pdu.specs.Reading.{ctrl_of}
use Rattle.frame_bits.specs.Crc.{crc, crc_octets, crc_of_bits, remainder}
use Rattle.frame_bits.specs.Whitening.{mask_of, next_mask, whitening_bit, whitening_of}
use Rattle.h4_frames.specs.Frames.{frames}
use Rattle.hci_cmd.specs.Command.{command_of, layout_of, layouts}
use Rattle.journal_pdus.specs.journal_controls.LineSteps.{control_on, keyed_on}
use Rattle.journal_pdus.specs.controller_model.Packets.{pdu_heard}
use Rattle.wire_fields.specs.Field.{little_endian}
use Rattle.journal_pdus.specs.journal_acks.Carried.{sent_line_of}
use Rattle.journal_pdus.specs.journal_acks.Exchange.{exchange_of}
use Rattle.journal_pdus.specs.journal_acks.Shut.{last_heard}
use Rattle.journal_pdus.specs.journal_leaving.Leaving.{leaving_on}
use Rattle.journal_pdus.specs.journal_links.Begun.{links_begun}
use Rattle.journal_pdus.specs.journal_packets.Belonging.{is_answer, link_of_packet}
use Rattle.journal_pdus.specs.journal_leaving.Reasons.{due_begun, due_on, ending_on, packets_passed}
use Rattle.journal_pdus.proofs.journal_leaving.DueBegun.{due_more}
use Rattle.run_model.specs.Rows.{one_connection_journal, one_event_journal, turn_entry}
use Rattle.wrong_journals.specs.Events.{turn_entries}
use Rattle.wrong_journals.specs.Shuts.{failing, silent}
use Rattle.wrong_journals.proofs.Differing.{some_is_none}
use Rattle.wrong_journals.proofs.shuts.links_that_stay_open_are_refused.Goals as goal

pub returns-clause-may_fail : goal.returns-clause-may_fail
unfolding packets_passed ending_on due_on leaving_on control_on keyed_on last_heard exchange_of sent_line_of link_of_packet is_answer links_begun pdu_heard heard_in read_of kept_bits crc crc_octets crc_of_bits remainder mask_of next_mask whitening_bit whitening_of little_endian ctrl_of makers data_channels used_channels frames command_of layout_of layouts
returns-clause-may_fail c words =
    record { not_overdue = due_more words A 1 (one_connection_journal ++ turn_entries 1 142) (turn_entry 143); not_leaving = refl }

pub returns-clause-may_time_out : goal.returns-clause-may_time_out
unfolding packets_passed ending_on due_on leaving_on control_on keyed_on last_heard exchange_of sent_line_of link_of_packet is_answer links_begun pdu_heard heard_in read_of kept_bits crc crc_octets crc_of_bits remainder mask_of next_mask whitening_bit whitening_of little_endian ctrl_of makers data_channels used_channels frames command_of layout_of layouts
returns-clause-may_time_out c words =
    record { not_overdue = due_more words A 1 (one_event_journal ++ turn_entries 3 574) (turn_entry 577); not_leaving = refl }

pub returns-clause-failed : goal.returns-clause-failed
unfolding packets_passed ending_on due_on leaving_on control_on keyed_on last_heard exchange_of sent_line_of link_of_packet is_answer links_begun pdu_heard heard_in read_of kept_bits crc crc_octets crc_of_bits remainder mask_of next_mask whitening_bit whitening_of little_endian ctrl_of makers data_channels used_channels frames command_of layout_of layouts
returns-clause-failed c words all =
    some_is_none 0x3E (due_begun words A 1 failing) None (due_more words A 1 (one_connection_journal ++ turn_entries 1 143) (turn_entry 144)) refl
    (all A 1 _ refl).not_overdue

pub returns-clause-timed_out : goal.returns-clause-timed_out
unfolding packets_passed ending_on due_on leaving_on control_on keyed_on last_heard exchange_of sent_line_of link_of_packet is_answer links_begun pdu_heard heard_in read_of kept_bits crc crc_octets crc_of_bits remainder mask_of next_mask whitening_bit whitening_of little_endian ctrl_of makers data_channels used_channels frames command_of layout_of layouts
returns-clause-timed_out c words all =
    some_is_none 0x08 (due_begun words A 1 silent) None (due_more words A 1 (one_event_journal ++ turn_entries 3 575) (turn_entry 578)) refl
    (all A 1 _ refl).not_overdue
