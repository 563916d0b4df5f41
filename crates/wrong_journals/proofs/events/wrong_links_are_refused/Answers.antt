-- A link or an event does not follow from its CONNECT_IND.
use Rattle.std.proofs.Common.{[], ◌∷◌, ◌++◌, is_some, refl, sym, ap}
use Rattle.ble_base.specs.declared.roles.Role.TheVariants.{Central}
use Rattle.ble_base.specs.declared.roles.Side.TheVariants.{A, B}
use Rattle.ble_base.specs.ChannelMap.{data_channels, used_channels}
use Rattle.adv_pdu.specs.Header.{kept_bits}
use Rattle.adv_pdu.specs.Reading.{read_of}
use Rattle.air_frame.specs.Hearing.{heard_in}
use Rattle.chan_select.specs.Channel.{channel_of}
use Rattle.chan_select.specs.PseudoRandom.{mam, perm, prn, reversed_octet, stage}
use Rattle.frame_bits.specs.Crc.{crc, crc_octets, crc_of_bits, remainder}
use Rattle.frame_bits.specs.Whitening.{mask_of, next_mask, whitening_bit, whitening_of}
use Rattle.h4_frames.specs.Frames.{frames}
use Rattle.journal_pdus.specs.controller_model.Packets.{pdu_heard}
use Rattle.wire_fields.specs.Field.{little_endian}
use Rattle.journal_pdus.specs.journal_links.Begun.{links_begun}
use Rattle.journal_pdus.specs.journal_links.Rows.{hopping_link, one_link}
use Rattle.journal_pdus.specs.journal_packets.Belonging.{is_answer, is_side, link_of_packet}
use Rattle.journal_pdus.specs.journal_acks.Carried.{channel_entered, sent_line_of}
use Rattle.journal_pdus.specs.journal_acks.Exchange.{exchange_of}
use Rattle.journal_pdus.specs.journal_data.Lines.{lines_of}
use Rattle.run_model.specs.Rows.{one_connection_journal, turn_entry}
use Rattle.wrong_journals.specs.Hearings.{passed_connect}
use Rattle.wrong_journals.specs.Resetting.{shut_by_reset}
use Rattle.wrong_journals.proofs.Differing.{entered_as, numbers_differ, opened_as, truths_differ}
use Rattle.wrong_journals.specs.Events.{unoffered_connection}
use Rattle.wrong_journals.proofs.events.wrong_links_are_refused.Goals as goal

pub returns-clause-roles : goal.returns-clause-roles
unfolding channel_entered lines_of frames exchange_of sent_line_of link_of_packet is_answer links_begun pdu_heard heard_in read_of kept_bits crc crc_octets crc_of_bits remainder mask_of next_mask whitening_bit whitening_of little_endian data_channels used_channels reversed_octet perm mam stage prn channel_of
returns-clause-roles c lawful =
    truths_differ (ap (is_side B)
    (opened_as passed_connect A 1 Central one_link refl (lawful passed_connect [] A 1 0 Central refl)).central)

pub returns-clause-late : goal.returns-clause-late
unfolding channel_entered lines_of frames exchange_of sent_line_of link_of_packet is_answer links_begun pdu_heard heard_in read_of kept_bits crc crc_octets crc_of_bits remainder mask_of next_mask whitening_bit whitening_of little_endian data_channels used_channels reversed_octet perm mam stage prn channel_of
returns-clause-late c lawful =
    numbers_differ 1 2 refl
    (opened_as (shut_by_reset B) B 1 Central one_link refl (lawful (shut_by_reset B) [] B 1 0 Central refl)).turn

pub returns-clause-no_connect_ind : goal.returns-clause-no_connect_ind
unfolding channel_entered lines_of frames exchange_of sent_line_of link_of_packet is_answer links_begun pdu_heard heard_in read_of kept_bits crc crc_octets crc_of_bits remainder mask_of next_mask whitening_bit whitening_of little_endian data_channels used_channels reversed_octet perm mam stage prn channel_of
returns-clause-no_connect_ind c lawful =
    truths_differ (sym (ap is_some (lawful one_connection_journal [] B 2 1 Central refl).is_link))

pub returns-clause-another_turn : goal.returns-clause-another_turn
unfolding channel_entered lines_of frames exchange_of sent_line_of link_of_packet is_answer links_begun pdu_heard heard_in read_of kept_bits crc crc_octets crc_of_bits remainder mask_of next_mask whitening_bit whitening_of little_endian data_channels used_channels reversed_octet perm mam stage prn channel_of
returns-clause-another_turn c lawful =
    let front = one_connection_journal ++ turn_entry 1 ∷ turn_entry 2 ∷ turn_entry 3 ∷ [] in
    numbers_differ 4 3 refl (entered_as front A 1 0 25 one_link refl refl (lawful front [] A 1 0 25 refl)).turn

pub returns-clause-another_channel : goal.returns-clause-another_channel
unfolding channel_entered lines_of frames exchange_of sent_line_of link_of_packet is_answer links_begun pdu_heard heard_in read_of kept_bits crc crc_octets crc_of_bits remainder mask_of next_mask whitening_bit whitening_of little_endian data_channels used_channels reversed_octet perm mam stage prn channel_of
returns-clause-another_channel c lawful =
    let front = one_connection_journal ++ turn_entry 1 ∷ turn_entry 2 ∷ [] in
    numbers_differ 24 25 refl (entered_as front A 1 0 24 one_link refl refl (lawful front [] A 1 0 24 refl)).on

pub returns-clause-hopping : goal.returns-clause-hopping
unfolding channel_entered lines_of frames exchange_of sent_line_of link_of_packet is_answer links_begun pdu_heard heard_in read_of kept_bits crc crc_octets crc_of_bits remainder mask_of next_mask whitening_bit whitening_of little_endian data_channels used_channels reversed_octet perm mam stage prn channel_of
returns-clause-hopping c lawful =
    let front = one_connection_journal ++ turn_entry 1 ∷ turn_entry 2 ∷ [] in
    numbers_differ 5 25 refl (entered_as front A 1 0 5 one_link refl refl (lawful front [] A 1 0 5 refl)).on

pub returns-clause-unoffered : goal.returns-clause-unoffered
unfolding channel_entered lines_of frames exchange_of sent_line_of link_of_packet is_answer links_begun pdu_heard heard_in read_of kept_bits crc crc_octets crc_of_bits remainder mask_of next_mask whitening_bit whitening_of little_endian data_channels used_channels reversed_octet perm mam stage prn channel_of
returns-clause-unoffered c lawful =
    numbers_differ 25 5 refl (entered_as unoffered_connection A 1 0 25 hopping_link refl refl (lawful unoffered_connection [] A 1 0 25 refl)).on

pub returns-clause-another_event : goal.returns-clause-another_event
unfolding channel_entered lines_of frames exchange_of sent_line_of link_of_packet is_answer links_begun pdu_heard heard_in read_of kept_bits crc crc_octets crc_of_bits remainder mask_of next_mask whitening_bit whitening_of little_endian data_channels used_channels reversed_octet perm mam stage prn channel_of
returns-clause-another_event c lawful =
    let front = one_connection_journal ++ turn_entry 1 ∷ turn_entry 2 ∷ [] in
    numbers_differ 3 27 refl (entered_as front A 1 1 25 one_link refl refl (lawful front [] A 1 1 25 refl)).turn
