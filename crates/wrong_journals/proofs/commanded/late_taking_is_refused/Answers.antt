-- What is taken is not pending any more.
use Rattle.std.proofs.Common.{[], ◌∷◌, Option, is_some, refl, sym, ap}
use Rattle.ble_base.specs.declared.procedure_kinds.Kind.TheVariants.{Version}
use Rattle.ble_base.specs.declared.roles.Side.TheVariants.{A, B}
use Rattle.journal.specs.declared.entries.Entry.TheVariants.{Done, Took, Up}
use Rattle.adv_pdu.specs.Header.{kept_bits}
use Rattle.adv_pdu.specs.Reading.{read_of}
use Rattle.air_frame.specs.Hearing.{heard_in}
use Rattle.data_pdu.specs.Layouts.{makers}
use Rattle.data_pdu.specs.Reading.{ctrl_of, length_of}
use Rattle.frame_bits.specs.Crc.{crc, crc_octets, crc_of_bits, remainder}
use Rattle.frame_bits.specs.Whitening.{mask_of, next_mask, whitening_bit, whitening_of}
use Rattle.h4_frames.specs.Frames.{frames}
use Rattle.hci_cmd.specs.Command.{command_of, layout_of, layouts}
use Rattle.journal_pdus.specs.controller_model.Packets.{pdu_heard}
use Rattle.wire_fields.specs.Field.{little_endian}
use Rattle.journal_pdus.specs.journal_links.Begun.{links_begun}
use Rattle.journal_pdus.specs.journal_packets.Belonging.{is_answer, link_of_packet}
use Rattle.journal_pdus.specs.journal_acks.Carried.{sent_line_of}
use Rattle.journal_pdus.specs.journal_acks.Exchange.{exchange_of}
use Rattle.journal_pdus.specs.journal_controls.LineSteps.{keyed_on}
use Rattle.journal_pdus.specs.journal_data.Lines.{PduLine, lines_of}
use Rattle.journal_pdus.specs.journal_acks.Rows.{data_heard}
use Rattle.journal_pdus.specs.journal_leaving.Leaving.{leaving_on}
use Rattle.journal_pdus.specs.journal_sending.Pending.{pending_pdu}
use Rattle.wrong_journals.specs.Commanded.{terminate_done}
use Rattle.wrong_journals.proofs.Differing.{truths_differ}
use Rattle.wrong_journals.proofs.commanded.late_taking_is_refused.Goals as goal

pub returns-clause-event : goal.returns-clause-event
unfolding pending_pdu leaving_on keyed_on ctrl_of length_of makers command_of layout_of layouts lines_of frames exchange_of sent_line_of link_of_packet is_answer links_begun pdu_heard heard_in read_of kept_bits crc crc_octets crc_of_bits remainder mask_of next_mask whitening_bit whitening_of little_endian
returns-clause-event c words lawful =
    truths_differ (sym (ap (λ (o : Option PduLine). is_some o)
    (lawful data_heard (Took A 1 1 2 (0xAA ∷ []) ∷ []) (Up A (0x04 ∷ 0x10 ∷ 0x01 ∷ 0x00 ∷ [])) A refl refl refl)))

pub returns-clause-other_link : goal.returns-clause-other_link
unfolding pending_pdu leaving_on keyed_on ctrl_of length_of makers command_of layout_of layouts lines_of frames exchange_of sent_line_of link_of_packet is_answer links_begun pdu_heard heard_in read_of kept_bits crc crc_octets crc_of_bits remainder mask_of next_mask whitening_bit whitening_of little_endian
returns-clause-other_link c words lawful =
    truths_differ (sym (ap (λ (o : Option PduLine). is_some o)
    (lawful data_heard (Took A 1 1 2 (0xAA ∷ []) ∷ []) (Done A 2 Version) A refl refl refl)))

pub returns-clause-terminated : goal.returns-clause-terminated
unfolding pending_pdu leaving_on keyed_on ctrl_of length_of makers command_of layout_of layouts lines_of frames exchange_of sent_line_of link_of_packet is_answer links_begun pdu_heard heard_in read_of kept_bits crc crc_octets crc_of_bits remainder mask_of next_mask whitening_bit whitening_of little_endian
returns-clause-terminated c words lawful =
    truths_differ (ap (λ (o : Option PduLine). is_some o)
    (lawful terminate_done [] (Took B 1 1 2 (0xAA ∷ [])) B refl refl refl))
