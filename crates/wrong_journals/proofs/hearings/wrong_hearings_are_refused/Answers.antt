-- A CONNECT_IND is missed, or not followed.
use Rattle.std.proofs.Common.{true, Some, [], ◌∷◌, refl, sym, ap}
use Rattle.adv_pdu.specs.Header.{kept_bits}
use Rattle.adv_pdu.specs.Reading.{read_of}
use Rattle.adv_pdu.specs.declared.pdu.AdvPdu.TheVariants.{Connect}
use Rattle.air_frame.specs.Hearing.{heard_in}
use Rattle.ble_base.specs.ChannelMap.{data_channels, used_channels}
use Rattle.ble_base.specs.declared.roles.Role.TheVariants.{Central}
use Rattle.ble_base.specs.declared.roles.Side.TheVariants.{A, B}
use Rattle.ble_base.specs.declared.verdicts.Verdict.TheVariants.{Missed}
use Rattle.frame_bits.specs.Crc.{crc, crc_octets, crc_of_bits, remainder}
use Rattle.frame_bits.specs.Whitening.{mask_of, next_mask, whitening_bit, whitening_of}
use Rattle.journal_pdus.specs.controller_model.Packets.{pdu_heard}
use Rattle.h4_frames.specs.Frames.{frames}
use Rattle.hci_cmd.specs.Command.{command_of, layout_of, layouts}
use Rattle.journal.specs.declared.entries.Entry.TheVariants.{Opened}
use Rattle.journal.specs.declared.entries.Mark.TheVariants.{Pass}
use Rattle.journal_pdus.specs.journal_data.Lines.{lines_of}
use Rattle.journal_pdus.specs.journal_hearings.Rows.{device_a, device_b, offered_journal}
use Rattle.journal_pdus.specs.journal_links.Begun.{links_begun}
use Rattle.journal_pdus.specs.run_laws.Rows.{one_event_fields}
use Rattle.run_model.specs.History.{is_good}
use Rattle.run_model.specs.Rows.{connect_packet}
use Rattle.wire_fields.specs.Field.{little_endian}
use Rattle.wrong_journals.specs.Hearings.{broken_connect, heard_connect, lost_connect, unasked_connect}
use Rattle.wrong_journals.proofs.Differing.{truths_differ}
use Rattle.wrong_journals.proofs.Hearing.{none_heard, unasked}
use Rattle.wrong_journals.proofs.hearings.wrong_hearings_are_refused.Goals as goal

pub returns-clause-missed : goal.returns-clause-missed
unfolding pdu_heard heard_in read_of kept_bits crc crc_octets crc_of_bits remainder mask_of next_mask whitening_bit whitening_of little_endian data_channels used_channels
returns-clause-missed c all =
    truths_differ (sym (ap is_good (all offered_journal [] B 37 connect_packet Missed (Connect device_b device_a true one_event_fields) refl refl refl refl)))

pub returns-clause-lost : goal.returns-clause-lost
returns-clause-lost c all = none_heard A 1 lost_connect refl (all lost_connect [] A 1 0 refl).heard

pub returns-clause-broken : goal.returns-clause-broken
returns-clause-broken c all = none_heard A 1 broken_connect refl (all broken_connect [] A 1 0 refl).heard

pub returns-clause-unasked : goal.returns-clause-unasked
returns-clause-unasked c all = unasked (all unasked_connect [] A 1 0 refl)

pub returns-clause-unopened : goal.returns-clause-unopened
unfolding pdu_heard heard_in read_of kept_bits crc crc_octets crc_of_bits remainder mask_of next_mask whitening_bit whitening_of little_endian lines_of frames command_of layout_of layouts data_channels used_channels links_begun
returns-clause-unopened c all =
    truths_differ (sym (all heard_connect [] 1 true (Some true) refl offered_journal (Opened B 1 0 Central ∷ []) B 37 connect_packet Pass device_b device_a true one_event_fields
    refl refl refl (record { lets = refl; in_range = refl; new = refl })))
