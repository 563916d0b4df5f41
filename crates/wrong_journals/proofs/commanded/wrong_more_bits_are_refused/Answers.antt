-- MD does not tell what waits.
use Rattle.std.proofs.Common.{ℕ, true, false, List, [], ◌∷◌, get_or, refl, ap}
use Rattle.ble_base.specs.declared.procedure_kinds.Kind.TheVariants.{Version}
use Rattle.ble_base.specs.declared.roles.Side.TheVariants.{A, B}
use Rattle.ble_base.specs.declared.verdicts.Verdict.TheVariants.{Good}
use Rattle.ble_base.specs.ChannelMap.{data_channels, used_channels}
use Rattle.journal.specs.declared.entries.Entry.TheVariants.{Began}
use Rattle.journal.specs.declared.entries.Mark.TheVariants.{Pass}
use Rattle.adv_pdu.specs.Header.{kept_bits}
use Rattle.adv_pdu.specs.Reading.{read_of}
use Rattle.air_frame.specs.Hearing.{heard_in}
use Rattle.data_pdu.specs.Layouts.{makers}
use Rattle.data_pdu.specs.Reading.{ctrl_of, length_of}
use Rattle.frame_bits.specs.Crc.{crc, crc_octets, crc_of_bits, remainder}
use Rattle.frame_bits.specs.Whitening.{mask_of, next_mask, whitening_bit, whitening_of}
use Rattle.h4_frames.specs.Frames.{frames}
use Rattle.hci_cmd.specs.Command.{command_of, layout_of, layouts}
use Rattle.journal_pdus.specs.controller_model.Packets.{pdu_heard}
use Rattle.wire_fields.specs.Field.{little_endian}
use Rattle.journal_pdus.specs.journal_links.Begun.{links_begun}
use Rattle.journal_pdus.specs.journal_packets.Belonging.{is_answer, link_of_packet}
use Rattle.journal_pdus.specs.journal_acks.Carried.{sent_line_of}
use Rattle.journal_pdus.specs.journal_acks.Exchange.{exchange_of}
use Rattle.journal_pdus.specs.journal_controls.LineSteps.{keyed_on}
use Rattle.journal_pdus.specs.journal_data.Lines.{lines_of}
use Rattle.journal_pdus.specs.journal_links.Rows.{one_link}
use Rattle.journal_pdus.specs.journal_sending.journal_fixing.OnLines.{fixing_kept}
use Rattle.journal_pdus.specs.journal_sending.journal_fixing.Rows.{version_begun}
use Rattle.journal_pdus.specs.journal_slots.Rows.{next_packet}
use Rattle.run_model.specs.Rows.{first_packet}
use Rattle.wrong_journals.specs.Commanded.{event_after, peripheral_entered, reply_with_more, version_asked, version_to_answer, version_with}
use Rattle.wrong_journals.proofs.Differing.{numbers_differ, truths_differ}
use Rattle.wrong_journals.proofs.Packets.{none_waits, octets_are}
use Rattle.wrong_journals.proofs.commanded.wrong_more_bits_are_refused.Goals as goal

pub returns-clause-counted : goal.returns-clause-counted
unfolding fixing_kept keyed_on ctrl_of length_of makers command_of layout_of layouts lines_of frames exchange_of sent_line_of link_of_packet is_answer links_begun pdu_heard heard_in read_of kept_bits crc crc_octets crc_of_bits remainder mask_of next_mask whitening_bit whitening_of little_endian data_channels used_channels
returns-clause-counted c words lawful =
    numbers_differ 0x48 0x58 refl
    (ap (λ (octets : List ℕ). get_or octets 4 0)
    (octets_are words version_to_answer A 25 reply_with_more 1 one_link peripheral_entered false refl refl refl refl
    (lawful version_to_answer [] A 25 reply_with_more Pass Good refl refl)))

pub returns-clause-untold : goal.returns-clause-untold
unfolding fixing_kept keyed_on ctrl_of length_of makers command_of layout_of layouts lines_of frames exchange_of sent_line_of link_of_packet is_answer links_begun pdu_heard heard_in read_of kept_bits crc crc_octets crc_of_bits remainder mask_of next_mask whitening_bit whitening_of little_endian data_channels used_channels
returns-clause-untold c words lawful =
    let front = event_after (version_asked []) (Began B 1 Version ∷ []) in
    numbers_differ 0x50 0x40 refl
    (ap (λ (octets : List ℕ). get_or octets 4 0)
    (octets_are words front B 25 first_packet 1 one_link version_begun true refl refl refl refl
    (lawful front [] B 25 first_packet Pass Good refl refl)))

pub returns-clause-empty : goal.returns-clause-empty
unfolding fixing_kept keyed_on ctrl_of length_of makers command_of layout_of layouts lines_of frames exchange_of sent_line_of link_of_packet is_answer links_begun pdu_heard heard_in read_of kept_bits crc crc_octets crc_of_bits remainder mask_of next_mask whitening_bit whitening_of little_endian data_channels used_channels
returns-clause-empty c words lawful =
    truths_differ
    (none_waits words (version_with []) B 25 next_packet 1 version_begun refl refl refl refl
    (lawful (version_with []) [] B 25 next_packet Pass Good refl refl))
