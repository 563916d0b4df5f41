-- What is taken is not what is pending.
use Rattle.std.proofs.Common.{ℕ, [], ◌∷◌, ◌++◌, Option, Some, None, is_some, get_or, refl, sym, ap}
use Rattle.ble_base.specs.declared.roles.Side.TheVariants.{A, B}
use Rattle.ble_base.specs.declared.verdicts.Verdict.TheVariants.{Good, Missed}
use Rattle.journal.specs.declared.entries.Entry.TheVariants.{Air, Took}
use Rattle.journal.specs.declared.entries.Mark.TheVariants.{Lost, Pass}
use Rattle.adv_pdu.specs.Header.{kept_bits}
use Rattle.adv_pdu.specs.Reading.{read_of}
use Rattle.air_frame.specs.Hearing.{heard_in}
use Rattle.frame_bits.specs.Crc.{crc, crc_octets, crc_of_bits, remainder}
use Rattle.frame_bits.specs.Whitening.{mask_of, next_mask, whitening_bit, whitening_of}
use Rattle.h4_frames.specs.Frames.{frames}
use Rattle.journal_pdus.specs.controller_model.Packets.{pdu_heard}
use Rattle.wire_fields.specs.Field.{little_endian}
use Rattle.journal_pdus.specs.journal_links.Begun.{links_begun}
use Rattle.journal_pdus.specs.journal_packets.Belonging.{is_answer, link_of_packet}
use Rattle.journal_pdus.specs.journal_acks.Carried.{sent_line_of}
use Rattle.journal_pdus.specs.journal_acks.Exchange.{exchange_of}
use Rattle.journal_pdus.specs.journal_data.Lines.{PduLine, lines_of}
use Rattle.journal_pdus.specs.journal_sending.Pending.{pending_pdu}
use Rattle.data_pdu.specs.Layouts.{makers}
use Rattle.data_pdu.specs.Reading.{ctrl_of, length_of}
use Rattle.hci_cmd.specs.Command.{command_of, layout_of, layouts}
use Rattle.journal_pdus.specs.journal_controls.LineSteps.{keyed_on}
use Rattle.journal_pdus.specs.journal_leaving.Leaving.{leaving_on}
use Rattle.run_model.specs.Rows.{one_event_journal}
use Rattle.journal_pdus.specs.journal_acks.Rows.{data_heard, data_packet, data_sent, data_taken}
use Rattle.journal_pdus.specs.journal_slots.Rows.{next_packet}
use Rattle.wrong_journals.proofs.Differing.{numbers_differ, truths_differ}
use Rattle.wrong_journals.proofs.exchanges.wrong_taking_is_refused.Goals as goal

pub returns-clause-twice : goal.returns-clause-twice
unfolding pending_pdu leaving_on keyed_on ctrl_of length_of makers lines_of frames exchange_of sent_line_of link_of_packet is_answer links_begun pdu_heard heard_in read_of kept_bits crc crc_octets crc_of_bits remainder mask_of next_mask whitening_bit whitening_of little_endian command_of layout_of layouts
returns-clause-twice c words lawful =
    truths_differ (ap (λ (o : Option PduLine). is_some o) (lawful data_taken [] (Took A 1 1 2 (0xAA ∷ [])) A refl refl refl))

pub returns-clause-from_nothing : goal.returns-clause-from_nothing
unfolding pending_pdu leaving_on keyed_on ctrl_of length_of makers lines_of frames exchange_of sent_line_of link_of_packet is_answer links_begun pdu_heard heard_in read_of kept_bits crc crc_octets crc_of_bits remainder mask_of next_mask whitening_bit whitening_of little_endian command_of layout_of layouts
returns-clause-from_nothing c words lawful =
    truths_differ (ap (λ (o : Option PduLine). is_some o) (lawful one_event_journal [] (Took A 1 1 2 (0xAA ∷ [])) A refl refl refl))

pub returns-clause-never : goal.returns-clause-never
unfolding pending_pdu leaving_on keyed_on ctrl_of length_of makers lines_of frames exchange_of sent_line_of link_of_packet is_answer links_begun pdu_heard heard_in read_of kept_bits crc crc_octets crc_of_bits remainder mask_of next_mask whitening_bit whitening_of little_endian command_of layout_of layouts
returns-clause-never c words lawful =
    truths_differ (sym (ap (λ (o : Option PduLine). is_some o) (lawful data_heard [] (Air A 25 next_packet Pass Good) A refl refl refl)))

pub returns-clause-lost : goal.returns-clause-lost
unfolding pending_pdu leaving_on keyed_on ctrl_of length_of makers lines_of frames exchange_of sent_line_of link_of_packet is_answer links_begun pdu_heard heard_in read_of kept_bits crc crc_octets crc_of_bits remainder mask_of next_mask whitening_bit whitening_of little_endian command_of layout_of layouts
returns-clause-lost c words lawful =
    truths_differ (ap (λ (o : Option PduLine). is_some o) (lawful (data_sent ++ Air B 25 data_packet Lost Missed ∷ []) [] (Took A 1 1 2 (0xAA ∷ [])) A refl refl refl))

pub returns-clause-otherwise : goal.returns-clause-otherwise
unfolding pending_pdu leaving_on keyed_on ctrl_of length_of makers lines_of frames exchange_of sent_line_of link_of_packet is_answer links_begun pdu_heard heard_in read_of kept_bits crc crc_octets crc_of_bits remainder mask_of next_mask whitening_bit whitening_of little_endian command_of layout_of layouts
returns-clause-otherwise c words lawful =
    numbers_differ 0xAB 0xAA refl
    (ap octet (lawful data_heard [] (Took A 1 1 2 (0xAB ∷ [])) A refl refl refl))
  where
    octet : Option PduLine → ℕ
    octet None = 0
    octet (Some line) = get_or line.pdu.body 0 0
