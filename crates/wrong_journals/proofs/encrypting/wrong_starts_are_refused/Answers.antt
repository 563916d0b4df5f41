-- What is sent is not what is next, where the host asked for encryption.
use Rattle.std.proofs.Common.{[], ◌∷◌, get_or, length, refl, ap}
use Rattle.ble_base.specs.declared.roles.Side.TheVariants.{B}
use Rattle.adv_pdu.specs.Header.{kept_bits}
use Rattle.adv_pdu.specs.Reading.{read_of}
use Rattle.air_frame.specs.Hearing.{heard_in}
use Rattle.data_pdu.specs.Layouts.{makers}
use Rattle.data_pdu.specs.Reading.{ctrl_of, length_of}
use Rattle.frame_bits.specs.Crc.{crc, crc_octets, crc_of_bits, remainder}
use Rattle.frame_bits.specs.Whitening.{mask_of, next_mask, whitening_bit, whitening_of}
use Rattle.h4_frames.specs.Frames.{frames}
use Rattle.hci_cmd.specs.Command.{command_of, layout_of, layouts}
use Rattle.journal_pdus.specs.controller_model.Packets.{pdu_heard}
use Rattle.wire_fields.specs.Field.{little_endian}
use Rattle.journal_pdus.specs.journal_links.Begun.{links_begun}
use Rattle.journal_pdus.specs.journal_packets.Belonging.{is_answer, link_of_packet}
use Rattle.journal_pdus.specs.journal_acks.Carried.{sent_line_of}
use Rattle.journal_pdus.specs.journal_acks.Exchange.{exchange_of}
use Rattle.journal_pdus.specs.journal_acks.Rows.{second_slot}
use Rattle.journal_pdus.specs.journal_controls.LineSteps.{keyed_on}
use Rattle.journal_pdus.specs.journal_controls.journal_ends.Rows.{some_words}
use Rattle.journal_pdus.specs.journal_data.Lines.{lines_of}
use Rattle.journal_pdus.specs.link_model.Acknowledgement.{Pdu}
use Rattle.journal_pdus.specs.journal_sending.journal_fixing.OnLines.{control_fixing, control_going, fixing_kept, going_kept}
use Rattle.wrong_journals.specs.Encrypting.{data_given, enc_req, encryption_given, end_or_begun}
use Rattle.wrong_journals.specs.Exchanges.{central_entered}
use Rattle.wrong_journals.proofs.Differing.{numbers_differ}
use Rattle.wrong_journals.proofs.Packets.{next_is}
use Rattle.wrong_journals.proofs.encrypting.wrong_starts_are_refused.Goals as goal

pub returns-clause-halves : goal.returns-clause-halves
unfolding fixing_kept going_kept keyed_on ctrl_of length_of makers command_of layout_of layouts lines_of frames exchange_of sent_line_of link_of_packet is_answer links_begun pdu_heard heard_in read_of kept_bits crc crc_octets crc_of_bits remainder mask_of next_mask whitening_bit whitening_of little_endian
returns-clause-halves c lawful =
    numbers_differ 0x12 0x11 refl
    (ap (λ (p : Pdu). get_or p.body 11 0)
    (next_is some_words 1 encryption_given B 1 (enc_req 0x12) (end_or_begun (control_fixing some_words B 1 encryption_given))
    (end_or_begun (control_going some_words B 1 encryption_given)) refl refl (lawful encryption_given [] B 1 1 3 (enc_req 0x12).body refl)))

pub returns-clause-unasked : goal.returns-clause-unasked
unfolding fixing_kept going_kept keyed_on ctrl_of length_of makers command_of layout_of layouts lines_of frames exchange_of sent_line_of link_of_packet is_answer links_begun pdu_heard heard_in read_of kept_bits crc crc_octets crc_of_bits remainder mask_of next_mask whitening_bit whitening_of little_endian
returns-clause-unasked c words lawful =
    numbers_differ 3 2 refl
    (ap (λ (p : Pdu). p.llid)
    (next_is words 1 second_slot B 1 (enc_req 0x11) central_entered central_entered refl refl (lawful second_slot [] B 1 1 3 (enc_req 0x11).body refl)))

pub returns-clause-data : goal.returns-clause-data
unfolding fixing_kept going_kept keyed_on ctrl_of length_of makers command_of layout_of layouts lines_of frames exchange_of sent_line_of link_of_packet is_answer links_begun pdu_heard heard_in read_of kept_bits crc crc_octets crc_of_bits remainder mask_of next_mask whitening_bit whitening_of little_endian
returns-clause-data c lawful =
    numbers_differ 1 0 refl
    (ap (λ (p : Pdu). length p.body)
    (next_is some_words 1 data_given B 2 (record { llid = 2; body = 0xAA ∷ [] }) (end_or_begun (control_fixing some_words B 1 data_given))
    (end_or_begun (control_going some_words B 1 data_given)) refl refl (lawful data_given [] B 1 2 2 (0xAA ∷ []) refl)))
