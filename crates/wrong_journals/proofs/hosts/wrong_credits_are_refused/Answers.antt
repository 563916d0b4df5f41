-- A packet is credited that must not be, or is not.
use Rattle.std.proofs.Common.{◌≤◌, true, [], ◌∷◌, ◌++◌, Some, refl, arith}
use Rattle.ble_base.specs.declared.roles.Side.TheVariants.{B}
use Rattle.ble_base.specs.ChannelMap.{data_channels, used_channels}
use Rattle.adv_pdu.specs.Header.{kept_bits}
use Rattle.adv_pdu.specs.Reading.{read_of}
use Rattle.air_frame.specs.Hearing.{heard_in}
use Rattle.chan_select.specs.Channel.{channel_of}
use Rattle.chan_select.specs.PseudoRandom.{mam, perm, prn, reversed_octet, stage}
use Rattle.frame_bits.specs.Crc.{crc, crc_octets, crc_of_bits, remainder}
use Rattle.frame_bits.specs.Whitening.{mask_of, next_mask, whitening_bit, whitening_of}
use Rattle.h4_frames.specs.Frames.{frames}
use Rattle.journal_pdus.specs.controller_model.Packets.{pdu_heard}
use Rattle.wire_fields.specs.Field.{little_endian}
use Rattle.journal_pdus.specs.journal_links.Begun.{links_begun}
use Rattle.journal_pdus.specs.journal_packets.Belonging.{is_answer, link_of_packet}
use Rattle.journal_pdus.specs.journal_acks.Carried.{channel_entered, sent_line_of}
use Rattle.journal_pdus.specs.journal_acks.Exchange.{exchange_of}
use Rattle.journal_pdus.specs.journal_data.Lines.{lines_of}
use Rattle.data_pdu.specs.Layouts.{makers}
use Rattle.data_pdu.specs.Reading.{ctrl_of, length_of}
use Rattle.journal_pdus.specs.journal_controls.LineSteps.{keyed_on}
use Rattle.journal_pdus.specs.journal_sealing.Mixed.{is_mixed}
use Rattle.ble_base.specs.declared.verdicts.Verdict.TheVariants.{Good}
use Rattle.journal.specs.declared.entries.Mark.TheVariants.{Pass}
use Rattle.run_model.specs.Rows.{first_packet, one_event_journal}
use Rattle.journal_pdus.specs.journal_acks.Rows.{data_acknowledged, data_taken}
use Rattle.wrong_journals.specs.Hosts.{before_credit, credit, credit_twice, data_up}
use Rattle.wrong_journals.proofs.Differing.{numbers_differ}
use Rattle.wrong_journals.proofs.hosts.wrong_credits_are_refused.Goals as goal

pub returns-clause-from_nothing : goal.returns-clause-from_nothing
unfolding is_mixed keyed_on ctrl_of length_of makers channel_entered lines_of frames exchange_of sent_line_of link_of_packet is_answer links_begun pdu_heard heard_in read_of kept_bits crc crc_octets crc_of_bits remainder mask_of next_mask whitening_bit whitening_of little_endian data_channels used_channels reversed_octet perm mam stage prn channel_of
returns-clause-from_nothing c words lawful =
    let few : 1 ≤ 0 = (lawful (one_event_journal ++ credit ∷ []) [] refl B 1 refl).delivered.credited in omega arith

pub returns-clause-twice : goal.returns-clause-twice
unfolding is_mixed keyed_on ctrl_of length_of makers channel_entered lines_of frames exchange_of sent_line_of link_of_packet is_answer links_begun pdu_heard heard_in read_of kept_bits crc crc_octets crc_of_bits remainder mask_of next_mask whitening_bit whitening_of little_endian data_channels used_channels reversed_octet perm mam stage prn channel_of
returns-clause-twice c words lawful =
    let few : 2 ≤ 1 = (lawful credit_twice [] refl B 1 refl).delivered.credited in omega arith

pub returns-clause-too_early : goal.returns-clause-too_early
unfolding channel_entered lines_of frames exchange_of sent_line_of link_of_packet is_answer links_begun pdu_heard heard_in read_of kept_bits crc crc_octets crc_of_bits remainder mask_of next_mask whitening_bit whitening_of little_endian data_channels used_channels reversed_octet perm mam stage prn channel_of
returns-clause-too_early c lawful =
    numbers_differ 1 0 refl
    (lawful (data_taken ++ data_up ∷ credit ∷ []) [] 4 true (Some true) refl B [] [] (record { link = 1; handle = 0 }) refl).credited

pub returns-clause-never : goal.returns-clause-never
unfolding channel_entered lines_of frames exchange_of sent_line_of link_of_packet is_answer links_begun pdu_heard heard_in read_of kept_bits crc crc_octets crc_of_bits remainder mask_of next_mask whitening_bit whitening_of little_endian data_channels used_channels reversed_octet perm mam stage prn channel_of
returns-clause-never c lawful =
    numbers_differ 0 1 refl
    (lawful (data_acknowledged ++ data_up ∷ []) [] 4 true (Some true) refl B [] [] (record { link = 1; handle = 0 }) refl).credited

pub returns-clause-after_packet : goal.returns-clause-after_packet
unfolding channel_entered lines_of frames exchange_of sent_line_of link_of_packet is_answer links_begun pdu_heard heard_in read_of kept_bits crc crc_octets crc_of_bits remainder mask_of next_mask whitening_bit whitening_of little_endian data_channels used_channels reversed_octet perm mam stage prn channel_of
returns-clause-after_packet c lawful =
    numbers_differ 0 1 refl
    (lawful before_credit (credit ∷ []) B 25 first_packet Pass Good refl refl B [] [] (record { link = 1; handle = 0 }) refl)
