-- What is sent is not what is next, where the host gave commands.
use Rattle.std.proofs.Common.{[], ◌∷◌, get_or, length, refl, ap}
use Rattle.std.specs.Prelude.{replicate}
use Rattle.ble_base.specs.declared.roles.Side.TheVariants.{B}
use Rattle.adv_pdu.specs.Header.{kept_bits}
use Rattle.adv_pdu.specs.Reading.{read_of}
use Rattle.air_frame.specs.Hearing.{heard_in}
use Rattle.data_pdu.specs.Layouts.{makers}
use Rattle.data_pdu.specs.Reading.{ctrl_of, length_of}
use Rattle.frame_bits.specs.Crc.{crc, crc_octets, crc_of_bits, remainder}
use Rattle.frame_bits.specs.Whitening.{mask_of, next_mask, whitening_bit, whitening_of}
use Rattle.h4_frames.specs.Frames.{frames}
use Rattle.hci_cmd.specs.Command.{command_of, layout_of, layouts}
use Rattle.journal_pdus.specs.controller_model.Packets.{pdu_heard}
use Rattle.wire_fields.specs.Field.{little_endian}
use Rattle.journal_pdus.specs.journal_links.Begun.{links_begun}
use Rattle.journal_pdus.specs.journal_packets.Belonging.{is_answer, link_of_packet}
use Rattle.journal_pdus.specs.journal_acks.Carried.{sent_line_of}
use Rattle.journal_pdus.specs.journal_acks.Exchange.{exchange_of}
use Rattle.journal_pdus.specs.journal_controls.LineSteps.{keyed_on}
use Rattle.journal_pdus.specs.journal_data.Lines.{lines_of}
use Rattle.journal_pdus.specs.link_model.Acknowledgement.{Pdu}
use Rattle.journal_pdus.specs.journal_acks.Rows.{host_packet, second_slot}
use Rattle.journal_pdus.specs.journal_sending.journal_fixing.OnLines.{fixing_kept, going_kept}
use Rattle.journal_pdus.specs.journal_sending.journal_fixing.Rows.{version_begun}
use Rattle.run_model.specs.Rows.{first_reply}
use Rattle.wrong_journals.specs.Commanded.{disconnect_going, disconnecting_with, long_given, update_given, update_going, update_pdu, version_with}
use Rattle.wrong_journals.specs.Exchanges.{central_entered}
use Rattle.wrong_journals.proofs.Differing.{numbers_differ}
use Rattle.wrong_journals.proofs.Packets.{next_is}
use Rattle.wrong_journals.proofs.commanded.wrong_pdus_are_refused.Goals as goal

pub returns-clause-longer : goal.returns-clause-longer
unfolding fixing_kept going_kept keyed_on ctrl_of length_of makers command_of layout_of layouts lines_of frames exchange_of sent_line_of link_of_packet is_answer links_begun pdu_heard heard_in read_of kept_bits crc crc_octets crc_of_bits remainder mask_of next_mask whitening_bit whitening_of little_endian
returns-clause-longer c words lawful =
    numbers_differ 28 27 refl
    (ap (λ (p : Pdu). length p.body)
    (next_is words 1 long_given B 1 (record { llid = 2; body = replicate 28 0xAA }) central_entered central_entered refl refl (lawful long_given [] B 1 1 2 (replicate 28 0xAA) refl)))

pub returns-clause-shorter : goal.returns-clause-shorter
unfolding fixing_kept going_kept keyed_on ctrl_of length_of makers command_of layout_of layouts lines_of frames exchange_of sent_line_of link_of_packet is_answer links_begun pdu_heard heard_in read_of kept_bits crc crc_octets crc_of_bits remainder mask_of next_mask whitening_bit whitening_of little_endian
returns-clause-shorter c words lawful =
    numbers_differ 26 27 refl
    (ap (λ (p : Pdu). length p.body)
    (next_is words 1 long_given B 1 (record { llid = 2; body = replicate 26 0xAA }) central_entered central_entered refl refl (lawful long_given [] B 1 1 2 (replicate 26 0xAA) refl)))

pub returns-clause-data_first : goal.returns-clause-data_first
unfolding fixing_kept going_kept keyed_on ctrl_of length_of makers command_of layout_of layouts lines_of frames exchange_of sent_line_of link_of_packet is_answer links_begun pdu_heard heard_in read_of kept_bits crc crc_octets crc_of_bits remainder mask_of next_mask whitening_bit whitening_of little_endian
returns-clause-data_first c words lawful =
    numbers_differ 2 3 refl
    (ap (λ (p : Pdu). p.llid)
    (next_is words 1 (version_with (host_packet 0xAA)) B 1 (record { llid = 2; body = 0xAA ∷ [] }) version_begun version_begun refl refl (lawful (version_with (host_packet 0xAA)) [] B 1 1 2 (0xAA ∷ []) refl)))

pub returns-clause-ended : goal.returns-clause-ended
unfolding fixing_kept going_kept keyed_on ctrl_of length_of makers command_of layout_of layouts lines_of frames exchange_of sent_line_of link_of_packet is_answer links_begun pdu_heard heard_in read_of kept_bits crc crc_octets crc_of_bits remainder mask_of next_mask whitening_bit whitening_of little_endian
returns-clause-ended c words lawful =
    numbers_differ 2 3 refl
    (ap (λ (p : Pdu). p.llid)
    (next_is words 1 (disconnecting_with (host_packet 0xAA) [] first_reply) B 1 (record { llid = 2; body = 0xAA ∷ [] }) disconnect_going disconnect_going refl refl (lawful (disconnecting_with (host_packet 0xAA) [] first_reply) [] B 1 1 2 (0xAA ∷ []) refl)))

pub returns-clause-values : goal.returns-clause-values
unfolding fixing_kept going_kept keyed_on ctrl_of length_of makers command_of layout_of layouts lines_of frames exchange_of sent_line_of link_of_packet is_answer links_begun pdu_heard heard_in read_of kept_bits crc crc_octets crc_of_bits remainder mask_of next_mask whitening_bit whitening_of little_endian
returns-clause-values c words lawful =
    numbers_differ 0x31 0x30 refl
    (ap (λ (p : Pdu). get_or p.body 4 0)
    (next_is words 1 update_given B 1 (update_pdu 0x31 0x06) update_going update_going refl refl (lawful update_given [] B 1 1 3 (update_pdu 0x31 0x06).body refl)))

pub returns-clause-instant : goal.returns-clause-instant
unfolding fixing_kept going_kept keyed_on ctrl_of length_of makers command_of layout_of layouts lines_of frames exchange_of sent_line_of link_of_packet is_answer links_begun pdu_heard heard_in read_of kept_bits crc crc_octets crc_of_bits remainder mask_of next_mask whitening_bit whitening_of little_endian
returns-clause-instant c words lawful =
    numbers_differ 5 6 refl
    (ap (λ (p : Pdu). get_or p.body 10 0)
    (next_is words 1 update_given B 1 (update_pdu 0x30 0x05) update_going update_going refl refl (lawful update_given [] B 1 1 3 (update_pdu 0x30 0x05).body refl)))

pub returns-clause-unasked : goal.returns-clause-unasked
unfolding fixing_kept going_kept keyed_on ctrl_of length_of makers command_of layout_of layouts lines_of frames exchange_of sent_line_of link_of_packet is_answer links_begun pdu_heard heard_in read_of kept_bits crc crc_octets crc_of_bits remainder mask_of next_mask whitening_bit whitening_of little_endian
returns-clause-unasked c words lawful =
    numbers_differ 3 2 refl
    (ap (λ (p : Pdu). p.llid)
    (next_is words 1 second_slot B 1 (update_pdu 0x30 0x06) central_entered central_entered refl refl (lawful second_slot [] B 1 1 3 (update_pdu 0x30 0x06).body refl)))
