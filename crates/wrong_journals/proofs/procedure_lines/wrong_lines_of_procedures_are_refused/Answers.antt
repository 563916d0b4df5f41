-- No line of a procedure is due there, and no indication comes into force.
use Rattle.std.proofs.Common.{[], ◌∷◌, ◌++◌, None, refl, sym}
use Rattle.ble_base.specs.ErrorCodes.{unsupported_remote_feature}
use Rattle.ble_base.specs.declared.procedure_kinds.Kind.TheVariants.{Features, Version}
use Rattle.ble_base.specs.declared.roles.Side.TheVariants.{A, B}
use Rattle.adv_pdu.specs.Header.{kept_bits}
use Rattle.adv_pdu.specs.Reading.{read_of}
use Rattle.air_frame.specs.Hearing.{heard_in}
use Rattle.ble_base.specs.ChannelMap.{data_channels, used_channels}
use Rattle.data_pdu.specs.Layouts.{makers}
use Rattle.data_pdu.specs.Reading.{ctrl_of, length_of}
use Rattle.frame_bits.specs.Crc.{crc, crc_octets, crc_of_bits, remainder}
use Rattle.frame_bits.specs.Whitening.{mask_of, next_mask, whitening_bit, whitening_of}
use Rattle.h4_frames.specs.Frames.{frames}
use Rattle.hci_cmd.specs.Command.{command_of, layout_of, layouts}
use Rattle.journal.specs.declared.entries.Entry.TheVariants.{Applied, Began, Done, Enter, Refused}
use Rattle.journal_pdus.specs.journal_controls.LineSteps.{keyed_on}
use Rattle.journal_pdus.specs.journal_controls.LinesDue.{lines_due}
use Rattle.journal_pdus.specs.journal_controls.Rows.{version_sent}
use Rattle.journal_pdus.specs.controller_model.Packets.{pdu_heard}
use Rattle.journal_pdus.specs.journal_acks.Carried.{sent_line_of}
use Rattle.journal_pdus.specs.journal_acks.Exchange.{exchange_of}
use Rattle.journal_pdus.specs.journal_due.ProcedureLines.{applied_by, applied_last, applied_line}
use Rattle.journal_pdus.specs.journal_links.Begun.{links_begun}
use Rattle.journal_pdus.specs.journal_packets.Belonging.{is_answer, link_of_packet}
use Rattle.run_model.specs.Rows.{one_connection_journal, one_event_journal, turn_entry}
use Rattle.wire_fields.specs.Field.{little_endian}
use Rattle.wrong_journals.specs.ProcedureLines.{at_instant, before_instant, map_taken}
use Rattle.wrong_journals.proofs.Differing.{some_is_none}
use Rattle.wrong_journals.proofs.DueLines.{none_due, other_indication}
use Rattle.wrong_journals.proofs.procedure_lines.wrong_lines_of_procedures_are_refused.Goals as goal

pub returns-clause-unasked : goal.returns-clause-unasked
unfolding lines_due keyed_on exchange_of sent_line_of link_of_packet is_answer links_begun pdu_heard heard_in read_of kept_bits crc crc_octets crc_of_bits remainder mask_of next_mask whitening_bit whitening_of little_endian ctrl_of makers length_of data_channels used_channels frames command_of layout_of layouts
returns-clause-unasked c words lawful =
    let line = Began B 1 Version in
    none_due (lines_due words B 1 one_event_journal) line refl (lawful one_event_journal [] line B 1 refl refl)

pub returns-clause-no_event : goal.returns-clause-no_event
unfolding lines_due keyed_on exchange_of sent_line_of link_of_packet is_answer links_begun pdu_heard heard_in read_of kept_bits crc crc_octets crc_of_bits remainder mask_of next_mask whitening_bit whitening_of little_endian ctrl_of makers length_of data_channels used_channels frames command_of layout_of layouts
returns-clause-no_event c words lawful =
    let line = Began A 1 Version in
    none_due (lines_due words A 1 one_connection_journal) line refl (lawful one_connection_journal [] line A 1 refl refl)

pub returns-clause-done : goal.returns-clause-done
unfolding lines_due keyed_on exchange_of sent_line_of link_of_packet is_answer links_begun pdu_heard heard_in read_of kept_bits crc crc_octets crc_of_bits remainder mask_of next_mask whitening_bit whitening_of little_endian ctrl_of makers length_of data_channels used_channels frames command_of layout_of layouts
returns-clause-done c words lawful =
    let line = Done B 1 Version in
    none_due (lines_due words B 1 version_sent) line refl (lawful version_sent [] line B 1 refl refl)

pub returns-clause-refused : goal.returns-clause-refused
unfolding lines_due keyed_on exchange_of sent_line_of link_of_packet is_answer links_begun pdu_heard heard_in read_of kept_bits crc crc_octets crc_of_bits remainder mask_of next_mask whitening_bit whitening_of little_endian ctrl_of makers length_of data_channels used_channels frames command_of layout_of layouts
returns-clause-refused c words lawful =
    let line = Refused B 1 Features (record { 0 = unsupported_remote_feature }) in
    none_due (lines_due words B 1 one_event_journal) line refl (lawful one_event_journal [] line B 1 refl refl)

pub returns-clause-at_once : goal.returns-clause-at_once
unfolding applied_last
returns-clause-at_once c words lawful =
    let front = map_taken ++ Applied A 1 1 0 ∷ [] in
    some_is_none (applied_line 1 0 1) (applied_last A front) None refl refl (lawful front [] (turn_entry 4) refl refl A).indication

pub returns-clause-untaken : goal.returns-clause-untaken
unfolding applied_last
returns-clause-untaken c words lawful =
    let front = one_connection_journal ++ Applied A 1 1 0 ∷ [] in
    some_is_none (applied_line 1 0 1) (applied_last A front) None refl refl (lawful front [] (turn_entry 1) refl refl A).indication

pub returns-clause-early : goal.returns-clause-early
unfolding applied_last keyed_on exchange_of sent_line_of link_of_packet is_answer links_begun pdu_heard heard_in read_of kept_bits crc crc_octets crc_of_bits remainder mask_of next_mask whitening_bit whitening_of little_endian ctrl_of makers length_of data_channels used_channels frames command_of layout_of layouts
returns-clause-early c words lawful =
    let front = before_instant ++ Applied A 1 1 1 ∷ [] in
    let line = Enter A 1 1 20 in
    some_is_none (applied_line 1 1 1) (applied_last A front) (applied_by words A front line) refl refl (lawful front [] line A refl refl)

pub returns-clause-misnumbered : goal.returns-clause-misnumbered
unfolding applied_last keyed_on exchange_of sent_line_of link_of_packet is_answer links_begun pdu_heard heard_in read_of kept_bits crc crc_octets crc_of_bits remainder mask_of next_mask whitening_bit whitening_of little_endian ctrl_of makers length_of data_channels used_channels frames command_of layout_of layouts
returns-clause-misnumbered c words lawful =
    let front = at_instant ++ Applied A 1 2 6 ∷ [] in
    let line = Enter A 1 6 23 in
    other_indication (applied_line 1 6 2) (applied_line 1 6 1) (applied_last A front) (applied_by words A front line) refl refl refl (lawful front [] line A refl refl)

pub returns-clause-never : goal.returns-clause-never
unfolding applied_last keyed_on exchange_of sent_line_of link_of_packet is_answer links_begun pdu_heard heard_in read_of kept_bits crc crc_octets crc_of_bits remainder mask_of next_mask whitening_bit whitening_of little_endian ctrl_of makers length_of data_channels used_channels frames command_of layout_of layouts
returns-clause-never c words lawful =
    let line = Enter A 1 6 23 in
    some_is_none (applied_line 1 6 1) (applied_by words A at_instant line) (applied_last A at_instant) refl refl (sym (lawful at_instant [] line A refl refl))

pub returns-clause-unentered : goal.returns-clause-unentered
unfolding applied_last
returns-clause-unentered c words lawful =
    let front = at_instant ++ Applied A 1 1 6 ∷ [] in
    some_is_none (applied_line 1 6 1) (applied_last A front) None refl refl (lawful front [] (turn_entry 147) refl refl A).indication
