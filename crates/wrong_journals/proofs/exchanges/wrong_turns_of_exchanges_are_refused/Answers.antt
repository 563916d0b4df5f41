-- A PDU is under way between two turns.
use Rattle.std.proofs.Common.{true, [], ◌∷◌, Option, Some, is_some, refl, ap}
use Rattle.ble_base.specs.declared.roles.Side.TheVariants.{A, B}
use Rattle.ble_base.specs.declared.verdicts.Verdict.TheVariants.{Good}
use Rattle.journal.specs.declared.entries.Entry.TheVariants.{Air, Took}
use Rattle.journal.specs.declared.entries.Mark.TheVariants.{Pass}
use Rattle.adv_pdu.specs.Header.{kept_bits}
use Rattle.adv_pdu.specs.Reading.{read_of}
use Rattle.air_frame.specs.Hearing.{heard_in}
use Rattle.frame_bits.specs.Crc.{crc, crc_octets, crc_of_bits, remainder}
use Rattle.frame_bits.specs.Whitening.{mask_of, next_mask, whitening_bit, whitening_of}
use Rattle.h4_frames.specs.Frames.{frames}
use Rattle.journal_pdus.specs.controller_model.Packets.{pdu_heard}
use Rattle.wire_fields.specs.Field.{little_endian}
use Rattle.journal_pdus.specs.journal_links.Begun.{links_begun}
use Rattle.journal_pdus.specs.journal_packets.Belonging.{is_answer, link_of_packet}
use Rattle.journal_pdus.specs.journal_acks.Carried.{sent_line_of}
use Rattle.journal_pdus.specs.journal_acks.Exchange.{exchange_of}
use Rattle.journal_pdus.specs.journal_data.Lines.{PduLine, lines_of}
use Rattle.journal_pdus.specs.journal_sending.Announced.{announced_pdu}
use Rattle.journal_pdus.specs.journal_sending.Pending.{pending_pdu}
use Rattle.data_pdu.specs.Layouts.{makers}
use Rattle.data_pdu.specs.Reading.{ctrl_of, length_of}
use Rattle.hci_cmd.specs.Command.{command_of, layout_of, layouts}
use Rattle.journal_pdus.specs.journal_controls.LineSteps.{keyed_on}
use Rattle.journal_pdus.specs.journal_leaving.Leaving.{leaving_on}
use Rattle.journal_pdus.specs.journal_acks.Rows.{data_heard, data_packet}
use Rattle.wrong_journals.specs.Exchanges.{sent_in_first_slot}
use Rattle.wrong_journals.proofs.Differing.{truths_differ}
use Rattle.wrong_journals.proofs.exchanges.wrong_turns_of_exchanges_are_refused.Goals as goal

pub returns-clause-sent : goal.returns-clause-sent
unfolding announced_pdu pending_pdu leaving_on keyed_on ctrl_of length_of makers lines_of frames exchange_of sent_line_of link_of_packet is_answer links_begun pdu_heard heard_in read_of kept_bits crc crc_octets crc_of_bits remainder mask_of next_mask whitening_bit whitening_of little_endian command_of layout_of layouts
returns-clause-sent c words rests =
    truths_differ (ap (λ (o : Option PduLine). is_some o)
    (rests sent_in_first_slot (Air B 25 data_packet Pass Good ∷ []) 3 true (Some true) refl B).0)

pub returns-clause-taken : goal.returns-clause-taken
unfolding announced_pdu pending_pdu leaving_on keyed_on ctrl_of length_of makers lines_of frames exchange_of sent_line_of link_of_packet is_answer links_begun pdu_heard heard_in read_of kept_bits crc crc_octets crc_of_bits remainder mask_of next_mask whitening_bit whitening_of little_endian command_of layout_of layouts
returns-clause-taken c words rests =
    truths_differ (ap (λ (o : Option PduLine). is_some o)
    (rests data_heard (Took A 1 1 2 (0xAA ∷ []) ∷ []) 4 true (Some true) refl A).1)
