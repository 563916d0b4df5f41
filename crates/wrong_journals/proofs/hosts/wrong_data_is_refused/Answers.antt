-- A host receives other data than its side took.
use Rattle.std.proofs.Common.{Bool, true, false, List, [], ◌∷◌, ◌++◌, Some, length, refl, sym, ap}
use Rattle.ble_base.specs.declared.roles.Side.TheVariants.{A, B}
use Rattle.ble_base.specs.ChannelMap.{data_channels, used_channels}
use Rattle.journal.specs.declared.entries.Entry.TheVariants.{Up}
use Rattle.acl_banks.specs.Packets.{Marked}
use Rattle.adv_pdu.specs.Header.{kept_bits}
use Rattle.adv_pdu.specs.Reading.{read_of}
use Rattle.air_frame.specs.Hearing.{heard_in}
use Rattle.chan_select.specs.Channel.{channel_of}
use Rattle.chan_select.specs.PseudoRandom.{mam, perm, prn, reversed_octet, stage}
use Rattle.frame_bits.specs.Crc.{crc, crc_octets, crc_of_bits, remainder}
use Rattle.frame_bits.specs.Whitening.{mask_of, next_mask, whitening_bit, whitening_of}
use Rattle.h4_frames.specs.Frames.{frames}
use Rattle.hci_cmd.specs.Command.{command_of, layout_of, layouts}
use Rattle.journal_pdus.specs.controller_model.Packets.{pdu_heard}
use Rattle.wire_fields.specs.Field.{little_endian}
use Rattle.journal_pdus.specs.journal_links.Begun.{links_begun}
use Rattle.journal_pdus.specs.journal_packets.Belonging.{is_answer, link_of_packet}
use Rattle.journal_pdus.specs.journal_acks.Carried.{channel_entered, sent_line_of}
use Rattle.journal_pdus.specs.journal_acks.Exchange.{exchange_of}
use Rattle.journal_pdus.specs.journal_data.Lines.{lines_of}
use Rattle.data_pdu.specs.Layouts.{makers}
use Rattle.data_pdu.specs.Reading.{ctrl_of, length_of}
use Rattle.journal_pdus.specs.journal_controls.LineSteps.{keyed_on}
use Rattle.journal_pdus.specs.journal_sealing.Mixed.{is_mixed}
use Rattle.journal_pdus.specs.journal_hosts.HostFlow.{held_on}
use Rattle.journal_pdus.specs.journal_leaving.Reasons.{packets_passed}
use Rattle.journal_pdus.specs.Settled.{was_full}
use Rattle.run_model.specs.Rows.{one_event_journal}
use Rattle.journal_pdus.specs.journal_acks.Rows.{data_acknowledged}
use Rattle.wrong_journals.specs.Hosts.{credit, data_up}
use Rattle.wrong_journals.proofs.Differing.{not_handed, numbers_differ, truths_differ}
use Rattle.wrong_journals.proofs.hosts.wrong_data_is_refused.Goals as goal

pub returns-clause-from_nothing : goal.returns-clause-from_nothing
unfolding is_mixed keyed_on ctrl_of length_of makers channel_entered lines_of frames exchange_of sent_line_of link_of_packet is_answer links_begun pdu_heard heard_in read_of kept_bits crc crc_octets crc_of_bits remainder mask_of next_mask whitening_bit whitening_of little_endian data_channels used_channels reversed_octet perm mam stage prn channel_of
returns-clause-from_nothing c words lawful =
    numbers_differ 1 0 refl
    (ap (λ (xs : List Marked). length xs) (lawful (one_event_journal ++ data_up ∷ []) [] refl B 1 refl).delivered.received)

pub returns-clause-twice : goal.returns-clause-twice
unfolding is_mixed keyed_on ctrl_of length_of makers channel_entered lines_of frames exchange_of sent_line_of link_of_packet is_answer links_begun pdu_heard heard_in read_of kept_bits crc crc_octets crc_of_bits remainder mask_of next_mask whitening_bit whitening_of little_endian data_channels used_channels reversed_octet perm mam stage prn channel_of
returns-clause-twice c words lawful =
    numbers_differ 2 1 refl
    (ap (λ (xs : List Marked). length xs) (lawful (data_acknowledged ++ data_up ∷ data_up ∷ []) [] refl B 1 refl).delivered.received)

pub returns-clause-continuation : goal.returns-clause-continuation
unfolding is_mixed keyed_on ctrl_of length_of makers channel_entered lines_of frames exchange_of sent_line_of link_of_packet is_answer links_begun pdu_heard heard_in read_of kept_bits crc crc_octets crc_of_bits remainder mask_of next_mask whitening_bit whitening_of little_endian data_channels used_channels reversed_octet perm mam stage prn channel_of
returns-clause-continuation c words lawful =
    truths_differ (sym (ap starts
    (lawful (data_acknowledged ++ Up A (0x02 ∷ 0x00 ∷ 0x10 ∷ 0x01 ∷ 0x00 ∷ 0xAA ∷ []) ∷ []) [] refl B 1 refl).delivered.received))
  where
    starts : List Marked → Bool
    starts [] = false
    starts (octet ∷ octets) = octet.0

pub returns-clause-never : goal.returns-clause-never
unfolding was_full held_on channel_entered lines_of frames exchange_of sent_line_of link_of_packet is_answer links_begun pdu_heard heard_in read_of kept_bits crc crc_octets crc_of_bits remainder mask_of next_mask whitening_bit whitening_of little_endian data_channels used_channels reversed_octet perm mam stage prn channel_of command_of layout_of layouts
returns-clause-never c lawful =
    not_handed _ _ _
    (lawful (data_acknowledged ++ credit ∷ []) [] 4 true (Some true) refl A [] [] (record { link = 1; handle = 0 }) refl).received refl refl

pub returns-clause-shut : goal.returns-clause-shut
unfolding was_full held_on packets_passed channel_entered lines_of frames exchange_of sent_line_of link_of_packet is_answer links_begun pdu_heard heard_in read_of kept_bits crc crc_octets crc_of_bits remainder mask_of next_mask whitening_bit whitening_of little_endian data_channels used_channels reversed_octet perm mam stage prn channel_of command_of layout_of layouts
returns-clause-shut c lawful = not_handed _ _ _ (lawful data_acknowledged [] A 1 (record { 0 = 0x16 }) refl refl).received refl refl
