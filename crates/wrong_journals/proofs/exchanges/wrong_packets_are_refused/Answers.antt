-- A packet does not carry what it must.
use Rattle.std.proofs.Common.{ℕ, true, false, List, [], Option, Some, None, get_or, refl, ap}
use Rattle.ble_base.specs.declared.roles.Side.TheVariants.{B}
use Rattle.ble_base.specs.declared.verdicts.Verdict.TheVariants.{Good}
use Rattle.ble_base.specs.ChannelMap.{data_channels, used_channels}
use Rattle.journal.specs.declared.entries.Mark.TheVariants.{Pass}
use Rattle.adv_pdu.specs.Header.{kept_bits}
use Rattle.adv_pdu.specs.Reading.{read_of}
use Rattle.air_frame.specs.Hearing.{heard_in}
use Rattle.chan_select.specs.Channel.{channel_of}
use Rattle.chan_select.specs.PseudoRandom.{mam, perm, prn, reversed_octet, stage}
use Rattle.frame_bits.specs.Crc.{crc, crc_octets, crc_of_bits, remainder}
use Rattle.frame_bits.specs.Whitening.{mask_of, next_mask, whitening_bit, whitening_of}
use Rattle.h4_frames.specs.Frames.{frames}
use Rattle.journal_pdus.specs.controller_model.Packets.{pdu_heard}
use Rattle.wire_fields.specs.Field.{little_endian}
use Rattle.journal_pdus.specs.journal_links.Begun.{links_begun}
use Rattle.journal_pdus.specs.journal_links.Rows.{one_link}
use Rattle.journal_pdus.specs.journal_packets.Belonging.{is_answer, link_of_packet}
use Rattle.journal_pdus.specs.journal_acks.Carried.{channel_entered, sent_line_of}
use Rattle.journal_pdus.specs.journal_acks.Exchange.{exchange_of}
use Rattle.journal_pdus.specs.journal_data.Lines.{lines_of}
use Rattle.data_pdu.specs.Layouts.{makers}
use Rattle.data_pdu.specs.Reading.{ctrl_of, length_of}
use Rattle.hci_cmd.specs.Command.{command_of, layout_of, layouts}
use Rattle.journal_pdus.specs.journal_controls.LineSteps.{keyed_on}
use Rattle.journal_pdus.specs.journal_sealing.SealedLines.{sealed_line_of}
use Rattle.journal_pdus.specs.journal_sending.journal_fixing.OnLines.{fixing_kept}
use Rattle.journal_pdus.specs.journal_acks.Rows.{data_packet, data_sent, second_slot}
use Rattle.wrong_journals.specs.Exchanges.{central_entered, data_as_first, data_on_another, data_with_more, empty_with_more, other_data, two_submitted}
use Rattle.wrong_journals.proofs.Differing.{numbers_differ, truths_differ}
use Rattle.wrong_journals.proofs.Packets.{channel_is, none_waits, octets_are, payload_is}
use Rattle.wrong_journals.proofs.exchanges.wrong_packets_are_refused.Goals as goal

pub returns-clause-empty : goal.returns-clause-empty
unfolding fixing_kept keyed_on ctrl_of length_of makers channel_entered lines_of frames exchange_of sent_line_of link_of_packet is_answer links_begun pdu_heard heard_in read_of kept_bits crc crc_octets crc_of_bits remainder mask_of next_mask whitening_bit whitening_of little_endian data_channels used_channels reversed_octet perm mam stage prn channel_of command_of layout_of layouts
returns-clause-empty c words lawful =
    truths_differ
    (none_waits words second_slot B 25 empty_with_more 1 central_entered refl refl refl refl
    (lawful second_slot [] B 25 empty_with_more Pass Good refl refl))

pub returns-clause-number : goal.returns-clause-number
unfolding fixing_kept keyed_on ctrl_of length_of makers channel_entered lines_of frames exchange_of sent_line_of link_of_packet is_answer links_begun pdu_heard heard_in read_of kept_bits crc crc_octets crc_of_bits remainder mask_of next_mask whitening_bit whitening_of little_endian data_channels used_channels reversed_octet perm mam stage prn channel_of command_of layout_of layouts
returns-clause-number c words lawful =
    numbers_differ 0x53 0x5F refl
    (ap (λ (octets : List ℕ). get_or octets 4 0)
    (octets_are words data_sent B 25 data_as_first 1 one_link central_entered false refl refl refl refl (lawful data_sent [] B 25 data_as_first Pass Good refl refl)))

pub returns-clause-no_line : goal.returns-clause-no_line
unfolding fixing_kept keyed_on ctrl_of length_of makers channel_entered lines_of frames exchange_of sent_line_of link_of_packet is_answer links_begun pdu_heard heard_in read_of kept_bits crc crc_octets crc_of_bits remainder mask_of next_mask whitening_bit whitening_of little_endian data_channels used_channels reversed_octet perm mam stage prn channel_of command_of layout_of layouts
returns-clause-no_line c words lawful =
    numbers_differ 0x5F 0x4C refl
    (ap (λ (octets : List ℕ). get_or octets 4 0)
    (octets_are words second_slot B 25 data_packet 1 one_link central_entered true refl refl refl refl (lawful second_slot [] B 25 data_packet Pass Good refl refl)))

pub returns-clause-otherwise : goal.returns-clause-otherwise
unfolding sealed_line_of fixing_kept keyed_on ctrl_of length_of makers channel_entered lines_of frames exchange_of sent_line_of link_of_packet is_answer links_begun pdu_heard heard_in read_of kept_bits crc crc_octets crc_of_bits remainder mask_of next_mask whitening_bit whitening_of little_endian data_channels used_channels reversed_octet perm mam stage prn channel_of command_of layout_of layouts
returns-clause-otherwise c words lawful =
    numbers_differ 0x81 0x80 refl
    (ap (λ (octets : List ℕ). get_or octets 6 0)
    (payload_is words data_sent B 25 other_data 1 one_link refl refl (lawful data_sent [] B 25 other_data Pass Good refl refl)))

pub returns-clause-more : goal.returns-clause-more
unfolding fixing_kept keyed_on ctrl_of length_of makers channel_entered lines_of frames exchange_of sent_line_of link_of_packet is_answer links_begun pdu_heard heard_in read_of kept_bits crc crc_octets crc_of_bits remainder mask_of next_mask whitening_bit whitening_of little_endian data_channels used_channels reversed_octet perm mam stage prn channel_of command_of layout_of layouts
returns-clause-more c words lawful =
    numbers_differ 0x4F 0x5F refl
    (ap (λ (octets : List ℕ). get_or octets 4 0)
    (octets_are words data_sent B 25 data_with_more 1 one_link central_entered false refl refl refl refl (lawful data_sent [] B 25 data_with_more Pass Good refl refl)))

pub returns-clause-less : goal.returns-clause-less
unfolding fixing_kept keyed_on ctrl_of length_of makers channel_entered lines_of frames exchange_of sent_line_of link_of_packet is_answer links_begun pdu_heard heard_in read_of kept_bits crc crc_octets crc_of_bits remainder mask_of next_mask whitening_bit whitening_of little_endian data_channels used_channels reversed_octet perm mam stage prn channel_of command_of layout_of layouts
returns-clause-less c words lawful =
    numbers_differ 0x5F 0x4F refl
    (ap (λ (octets : List ℕ). get_or octets 4 0)
    (octets_are words two_submitted B 25 data_packet 1 one_link central_entered true refl refl refl refl (lawful two_submitted [] B 25 data_packet Pass Good refl refl)))

pub returns-clause-channel : goal.returns-clause-channel
unfolding fixing_kept keyed_on ctrl_of length_of makers channel_entered lines_of frames exchange_of sent_line_of link_of_packet is_answer links_begun pdu_heard heard_in read_of kept_bits crc crc_octets crc_of_bits remainder mask_of next_mask whitening_bit whitening_of little_endian data_channels used_channels reversed_octet perm mam stage prn channel_of command_of layout_of layouts
returns-clause-channel c words lawful =
    numbers_differ 25 24 refl
    (ap number (channel_is words data_sent B 24 data_on_another 1 refl
    (lawful data_sent [] B 24 data_on_another Pass Good refl refl)))
  where
    number : Option ℕ → ℕ
    number None = 0
    number (Some n) = n
