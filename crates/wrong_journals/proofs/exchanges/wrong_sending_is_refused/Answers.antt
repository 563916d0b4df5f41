-- What is sent is not what is next.
use Rattle.std.proofs.Common.{[], ◌∷◌, ◌++◌, Option, is_some, get_or, length, refl, ap}
use Rattle.ble_base.specs.declared.roles.Side.TheVariants.{B}
use Rattle.ble_base.specs.ChannelMap.{data_channels, used_channels}
use Rattle.journal.specs.declared.entries.Entry.TheVariants.{Up}
use Rattle.adv_pdu.specs.Header.{kept_bits}
use Rattle.adv_pdu.specs.Reading.{read_of}
use Rattle.air_frame.specs.Hearing.{heard_in}
use Rattle.chan_select.specs.Channel.{channel_of}
use Rattle.chan_select.specs.PseudoRandom.{mam, perm, prn, reversed_octet, stage}
use Rattle.frame_bits.specs.Crc.{crc, crc_octets, crc_of_bits, remainder}
use Rattle.frame_bits.specs.Whitening.{mask_of, next_mask, whitening_bit, whitening_of}
use Rattle.h4_frames.specs.Frames.{frames}
use Rattle.journal_pdus.specs.controller_model.Packets.{pdu_heard}
use Rattle.wire_fields.specs.Field.{little_endian}
use Rattle.journal_pdus.specs.link_model.Acknowledgement.{Pdu}
use Rattle.journal_pdus.specs.journal_links.Begun.{links_begun}
use Rattle.journal_pdus.specs.journal_packets.Belonging.{is_answer, link_of_packet}
use Rattle.journal_pdus.specs.journal_acks.Carried.{channel_entered, sent_line_of}
use Rattle.journal_pdus.specs.journal_acks.Exchange.{exchange_of}
use Rattle.journal_pdus.specs.journal_data.Lines.{PduLine, lines_of}
use Rattle.journal_pdus.specs.journal_sending.Announced.{announced_pdu}
use Rattle.data_pdu.specs.Layouts.{makers}
use Rattle.data_pdu.specs.Reading.{ctrl_of, length_of}
use Rattle.hci_cmd.specs.Command.{command_of, layout_of, layouts}
use Rattle.journal_pdus.specs.journal_controls.LineSteps.{keyed_on}
use Rattle.journal_pdus.specs.journal_sending.journal_fixing.OnLines.{fixing_kept, going_kept}
use Rattle.run_model.specs.Rows.{one_event_journal, turn_entry}
use Rattle.journal_pdus.specs.journal_acks.Rows.{data_sent, second_slot}
use Rattle.wrong_journals.specs.Exchanges.{central_entered, first_taken}
use Rattle.wrong_journals.proofs.Differing.{numbers_differ, truths_differ}
use Rattle.wrong_journals.proofs.Packets.{next_is}
use Rattle.wrong_journals.proofs.exchanges.wrong_sending_is_refused.Goals as goal

pub returns-clause-otherwise : goal.returns-clause-otherwise
unfolding announced_pdu fixing_kept going_kept keyed_on ctrl_of length_of makers channel_entered lines_of frames exchange_of sent_line_of link_of_packet is_answer links_begun pdu_heard heard_in read_of kept_bits crc crc_octets crc_of_bits remainder mask_of next_mask whitening_bit whitening_of little_endian data_channels used_channels reversed_octet perm mam stage prn channel_of command_of layout_of layouts
returns-clause-otherwise c words lawful =
    numbers_differ 0xAB 0xAA refl
    (ap (λ (p : Pdu). get_or p.body 0 0)
    (next_is words 1 second_slot B 1 (record { llid = 2; body = 0xAB ∷ [] }) central_entered central_entered refl refl
    (lawful second_slot [] B 1 1 2 (0xAB ∷ []) refl)))

pub returns-clause-misnumbered : goal.returns-clause-misnumbered
unfolding announced_pdu fixing_kept going_kept keyed_on ctrl_of length_of makers channel_entered lines_of frames exchange_of sent_line_of link_of_packet is_answer links_begun pdu_heard heard_in read_of kept_bits crc crc_octets crc_of_bits remainder mask_of next_mask whitening_bit whitening_of little_endian data_channels used_channels reversed_octet perm mam stage prn channel_of command_of layout_of layouts
returns-clause-misnumbered c words lawful =
    numbers_differ 2 1 refl (lawful second_slot [] B 1 2 2 (0xAA ∷ []) refl).numbered

pub returns-clause-continuation : goal.returns-clause-continuation
unfolding announced_pdu fixing_kept going_kept keyed_on ctrl_of length_of makers channel_entered lines_of frames exchange_of sent_line_of link_of_packet is_answer links_begun pdu_heard heard_in read_of kept_bits crc crc_octets crc_of_bits remainder mask_of next_mask whitening_bit whitening_of little_endian data_channels used_channels reversed_octet perm mam stage prn channel_of command_of layout_of layouts
returns-clause-continuation c words lawful =
    numbers_differ 1 2 refl
    (ap (λ (p : Pdu). p.llid)
    (next_is words 1 second_slot B 1 (record { llid = 1; body = 0xAA ∷ [] }) central_entered central_entered refl refl
    (lawful second_slot [] B 1 1 1 (0xAA ∷ []) refl)))

pub returns-clause-from_nothing : goal.returns-clause-from_nothing
unfolding announced_pdu fixing_kept going_kept keyed_on ctrl_of length_of makers channel_entered lines_of frames exchange_of sent_line_of link_of_packet is_answer links_begun pdu_heard heard_in read_of kept_bits crc crc_octets crc_of_bits remainder mask_of next_mask whitening_bit whitening_of little_endian data_channels used_channels reversed_octet perm mam stage prn channel_of command_of layout_of layouts
returns-clause-from_nothing c words lawful =
    numbers_differ 1 0 refl
    (ap (λ (p : Pdu). length p.body)
    (next_is words 1 (one_event_journal ++ turn_entry 3 ∷ []) B 1 (record { llid = 2; body = 0xAA ∷ [] }) central_entered central_entered refl refl
    (lawful (one_event_journal ++ turn_entry 3 ∷ []) [] B 1 1 2 (0xAA ∷ []) refl)))

pub returns-clause-too_early : goal.returns-clause-too_early
unfolding announced_pdu fixing_kept going_kept keyed_on ctrl_of length_of makers channel_entered lines_of frames exchange_of sent_line_of link_of_packet is_answer links_begun pdu_heard heard_in read_of kept_bits crc crc_octets crc_of_bits remainder mask_of next_mask whitening_bit whitening_of little_endian data_channels used_channels reversed_octet perm mam stage prn channel_of command_of layout_of layouts
returns-clause-too_early c lawful =
    numbers_differ 1 2 refl (lawful first_taken [] B 1 2 2 (0xBB ∷ []) refl).all_acked

pub returns-clause-no_packet : goal.returns-clause-no_packet
unfolding announced_pdu fixing_kept going_kept keyed_on ctrl_of length_of makers channel_entered lines_of frames exchange_of sent_line_of link_of_packet is_answer links_begun pdu_heard heard_in read_of kept_bits crc crc_octets crc_of_bits remainder mask_of next_mask whitening_bit whitening_of little_endian data_channels used_channels reversed_octet perm mam stage prn channel_of command_of layout_of layouts
returns-clause-no_packet c lawful =
    truths_differ
    (ap (λ (o : Option PduLine). is_some o)
    (lawful data_sent [] (Up B (0x04 ∷ 0x10 ∷ 0x01 ∷ 0x00 ∷ [])) B refl refl))
