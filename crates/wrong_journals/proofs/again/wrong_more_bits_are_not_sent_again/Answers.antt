-- MD of a PDU that is sent again does not tell what waited.
use Rattle.std.proofs.Common.{ℕ, true, false, List, [], ◌∷◌, get_or, refl, ap}
use Rattle.ble_base.specs.declared.roles.Side.TheVariants.{B}
use Rattle.ble_base.specs.declared.verdicts.Verdict.TheVariants.{Good}
use Rattle.ble_base.specs.ChannelMap.{data_channels, used_channels}
use Rattle.journal.specs.declared.entries.Entry.TheVariants.{Fed}
use Rattle.journal.specs.declared.entries.Mark.TheVariants.{Pass}
use Rattle.adv_pdu.specs.Header.{kept_bits}
use Rattle.adv_pdu.specs.Reading.{read_of}
use Rattle.air_frame.specs.Hearing.{heard_in}
use Rattle.data_pdu.specs.Layouts.{makers}
use Rattle.data_pdu.specs.Reading.{ctrl_of, length_of}
use Rattle.frame_bits.specs.Crc.{crc, crc_octets, crc_of_bits, remainder}
use Rattle.frame_bits.specs.Whitening.{mask_of, next_mask, whitening_bit, whitening_of}
use Rattle.h4_frames.specs.Frames.{frames}
use Rattle.hci_cmd.specs.Command.{command_of, layout_of, layouts}
use Rattle.journal_pdus.specs.controller_model.Packets.{pdu_heard}
use Rattle.wire_fields.specs.Field.{little_endian}
use Rattle.journal_pdus.specs.journal_links.Begun.{links_begun}
use Rattle.journal_pdus.specs.journal_packets.Belonging.{is_answer, link_of_packet}
use Rattle.journal_pdus.specs.journal_acks.Carried.{sent_line_of}
use Rattle.journal_pdus.specs.journal_acks.Exchange.{exchange_of}
use Rattle.journal_pdus.specs.journal_controls.LineSteps.{keyed_on}
use Rattle.journal_pdus.specs.journal_data.Lines.{lines_of}
use Rattle.journal_pdus.specs.journal_acks.Rows.{host_packet}
use Rattle.journal_pdus.specs.journal_links.Rows.{one_link}
use Rattle.journal_pdus.specs.journal_sending.journal_fixing.OnLines.{fixing_kept}
use Rattle.wrong_journals.specs.Again.{first_again, first_lost, first_with_more, terminate_again, terminate_lost}
use Rattle.wrong_journals.proofs.Differing.{numbers_differ}
use Rattle.wrong_journals.proofs.Packets.{octets_are, octets_in_words}
use Rattle.wrong_journals.proofs.again.wrong_more_bits_are_not_sent_again.Goals as goal

pub returns-clause-untold : goal.returns-clause-untold
unfolding fixing_kept keyed_on ctrl_of length_of makers command_of layout_of layouts lines_of frames exchange_of sent_line_of link_of_packet is_answer links_begun pdu_heard heard_in read_of kept_bits crc crc_octets crc_of_bits remainder mask_of next_mask whitening_bit whitening_of little_endian data_channels used_channels
returns-clause-untold c words lawful =
    let front = first_lost (Fed B (host_packet 0xAA) ∷ []) in
    numbers_differ 0xF5 0xE5 refl
    (ap (λ (octets : List ℕ). get_or octets 4 0)
    (octets_are words front B 20 first_again 1 one_link _ true refl refl refl refl
    (lawful front [] B 20 first_again Pass Good refl refl)))

pub returns-clause-nothing : goal.returns-clause-nothing
unfolding fixing_kept keyed_on ctrl_of length_of makers command_of layout_of layouts lines_of frames exchange_of sent_line_of link_of_packet is_answer links_begun pdu_heard heard_in read_of kept_bits crc crc_octets crc_of_bits remainder mask_of next_mask whitening_bit whitening_of little_endian data_channels used_channels
returns-clause-nothing c words lawful =
    let front = first_lost [] in
    numbers_differ 0xE5 0xF5 refl
    (ap (λ (octets : List ℕ). get_or octets 4 0)
    (octets_are words front B 20 first_with_more 1 one_link _ false refl refl refl refl
    (lawful front [] B 20 first_with_more Pass Good refl refl)))

pub returns-clause-terminated : goal.returns-clause-terminated
unfolding fixing_kept keyed_on ctrl_of length_of makers command_of layout_of layouts lines_of frames exchange_of sent_line_of link_of_packet is_answer links_begun pdu_heard heard_in read_of kept_bits crc crc_octets crc_of_bits remainder mask_of next_mask whitening_bit whitening_of little_endian data_channels used_channels
returns-clause-terminated c words lawful =
    let front = terminate_lost in
    numbers_differ 0xFB 0xEB refl
    (ap (λ (octets : List ℕ). get_or octets 4 0)
    (octets_are words front B 20 terminate_again 1 one_link _ true refl refl refl refl
    (lawful front [] B 20 terminate_again Pass Good refl refl)))

pub returns-clause-in_words : goal.returns-clause-in_words
unfolding fixing_kept keyed_on ctrl_of length_of makers command_of layout_of layouts lines_of frames exchange_of sent_line_of link_of_packet is_answer links_begun pdu_heard heard_in read_of kept_bits crc crc_octets crc_of_bits remainder mask_of next_mask whitening_bit whitening_of little_endian data_channels used_channels
returns-clause-in_words c words lawful =
    let front = terminate_lost in
    numbers_differ 0xFB 0xEB refl
    (ap (λ (octets : List ℕ). get_or octets 4 0)
    (octets_in_words words front B 20 terminate_again 1 one_link _ true refl refl refl refl
    (lawful front [] B 20 terminate_again Pass Good refl refl)))
