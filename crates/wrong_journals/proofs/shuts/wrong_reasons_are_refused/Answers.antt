-- A link is shut for a reason that the lines before do not give.
use Rattle.std.proofs.Common.{Some, None, [], ◌∷◌, ◌++◌, refl, arith}
use Rattle.ble_base.specs.declared.roles.Side.TheVariants.{A}
use Rattle.adv_pdu.specs.Header.{kept_bits}
use Rattle.adv_pdu.specs.Reading.{read_of}
use Rattle.air_frame.specs.Hearing.{heard_in}
use Rattle.ble_base.specs.ChannelMap.{data_channels, used_channels}
use Rattle.data_pdu.specs.Layouts.{makers}
use Rattle.data_pdu.specs.Reading.{ctrl_of}
use Rattle.frame_bits.specs.Crc.{crc, crc_octets, crc_of_bits, remainder}
use Rattle.frame_bits.specs.Whitening.{mask_of, next_mask, whitening_bit, whitening_of}
use Rattle.h4_frames.specs.Frames.{frames}
use Rattle.hci_cmd.specs.Command.{command_of, layout_of, layouts}
use Rattle.journal_pdus.specs.journal_controls.LineSteps.{control_on, keyed_on}
use Rattle.journal_pdus.specs.controller_model.Packets.{pdu_heard}
use Rattle.wire_fields.specs.Field.{little_endian}
use Rattle.journal_pdus.specs.journal_acks.Carried.{sent_line_of}
use Rattle.journal_pdus.specs.journal_acks.Exchange.{exchange_of}
use Rattle.journal_pdus.specs.journal_acks.Shut.{last_heard}
use Rattle.journal_pdus.specs.journal_leaving.Leaving.{leaving_on}
use Rattle.journal_pdus.specs.journal_links.Begun.{links_begun}
use Rattle.journal_pdus.specs.journal_packets.Belonging.{is_answer, link_of_packet}
use Rattle.journal_pdus.specs.controller_model.Side.{result_of}
use Rattle.journal_pdus.specs.journal_leaving.Reasons.{due_on, ending_on, overdue, packets_passed, reset as by_reset}
use Rattle.run_model.specs.Rows.{one_connection_journal, reset, turn_entry}
use Rattle.wrong_journals.specs.Shuts.{before_failing, before_silent, failing, failing_after_packet, heard_once}
use Rattle.wrong_journals.proofs.Differing.{numbers_differ, truths_differ}
use Rattle.wrong_journals.proofs.Packets.{some_is}
use Rattle.wrong_journals.proofs.Shutting.{no_octets_yet, no_reason}
use Rattle.wrong_journals.proofs.shuts.wrong_reasons_are_refused.Goals as goal

pub returns-clause-failed : goal.returns-clause-failed
unfolding packets_passed ending_on due_on leaving_on control_on keyed_on last_heard exchange_of sent_line_of link_of_packet is_answer links_begun pdu_heard heard_in read_of kept_bits crc crc_octets crc_of_bits remainder mask_of next_mask whitening_bit whitening_of little_endian ctrl_of makers data_channels used_channels frames command_of layout_of layouts
returns-clause-failed c words = overdue refl refl

pub returns-clause-timed_out : goal.returns-clause-timed_out
unfolding packets_passed ending_on due_on leaving_on control_on keyed_on last_heard exchange_of sent_line_of link_of_packet is_answer links_begun pdu_heard heard_in read_of kept_bits crc crc_octets crc_of_bits remainder mask_of next_mask whitening_bit whitening_of little_endian ctrl_of makers data_channels used_channels frames command_of layout_of layouts
returns-clause-timed_out c words = overdue refl refl

pub returns-clause-completes : goal.returns-clause-completes
unfolding result_of frames
returns-clause-completes c = record {
  before = one_connection_journal ++ turn_entry 1 ∷ [];
  octets = reset;
  notes = [];
  front_is = refl;
  are_notes = tt;
  first = 0x01 ∷ 0x03 ∷ 0x0C ∷ [];
  last = 0x00;
  more = [];
  octets_are = refl;
  completes = refl;
}

pub returns-clause-reset : goal.returns-clause-reset
returns-clause-reset c words = by_reset refl (returns-clause-completes c)

pub returns-clause-fails_early : goal.returns-clause-fails_early
unfolding packets_passed ending_on due_on leaving_on control_on keyed_on last_heard exchange_of sent_line_of link_of_packet is_answer links_begun pdu_heard heard_in read_of kept_bits crc crc_octets crc_of_bits remainder mask_of next_mask whitening_bit whitening_of little_endian ctrl_of makers data_channels used_channels frames command_of layout_of layouts
returns-clause-fails_early c words = no_reason words before_failing A 1 (record { 0 = 0x3E }) None (λ code. omega (arith, code)) refl (λ before same. absurd cc) refl

pub returns-clause-times_out_early : goal.returns-clause-times_out_early
unfolding packets_passed ending_on due_on leaving_on control_on keyed_on last_heard exchange_of sent_line_of link_of_packet is_answer links_begun pdu_heard heard_in read_of kept_bits crc crc_octets crc_of_bits remainder mask_of next_mask whitening_bit whitening_of little_endian ctrl_of makers data_channels used_channels frames command_of layout_of layouts
returns-clause-times_out_early c words = no_reason words before_silent A 1 (record { 0 = 0x08 }) None (λ code. omega (arith, code)) refl (λ before same. absurd cc) refl

pub returns-clause-heard : goal.returns-clause-heard
unfolding packets_passed ending_on due_on leaving_on control_on keyed_on last_heard exchange_of sent_line_of link_of_packet is_answer links_begun pdu_heard heard_in read_of kept_bits crc crc_octets crc_of_bits remainder mask_of next_mask whitening_bit whitening_of little_endian ctrl_of makers data_channels used_channels frames command_of layout_of layouts
returns-clause-heard c words = no_reason words heard_once A 1 (record { 0 = 0x3E }) None (λ code. omega (arith, code)) refl (λ before same. absurd cc) refl

pub returns-clause-after_packet : goal.returns-clause-after_packet
unfolding packets_passed ending_on due_on leaving_on control_on keyed_on last_heard exchange_of sent_line_of link_of_packet is_answer links_begun pdu_heard heard_in read_of kept_bits crc crc_octets crc_of_bits remainder mask_of next_mask whitening_bit whitening_of little_endian ctrl_of makers data_channels used_channels frames command_of layout_of layouts
returns-clause-after_packet c words =
    no_reason words failing_after_packet A 1 (record { 0 = 0x3E }) (Some 0x3E) (λ code. omega (arith, code)) refl (λ before same. truths_differ before) refl

pub returns-clause-another_code : goal.returns-clause-another_code
unfolding packets_passed ending_on due_on leaving_on control_on keyed_on last_heard exchange_of sent_line_of link_of_packet is_answer links_begun pdu_heard heard_in read_of kept_bits crc crc_octets crc_of_bits remainder mask_of next_mask whitening_bit whitening_of little_endian ctrl_of makers data_channels used_channels frames command_of layout_of layouts
returns-clause-another_code c words =
    no_reason words failing A 1 (record { 0 = 0x13 }) (Some 0x3E) (λ code. omega (arith, code)) refl (λ before same. numbers_differ 0x3E 0x13 refl (some_is 0x3E 0x13 same)) refl

pub returns-clause-no_reset : goal.returns-clause-no_reset
unfolding packets_passed ending_on due_on leaving_on control_on keyed_on last_heard exchange_of sent_line_of link_of_packet is_answer links_begun pdu_heard heard_in read_of kept_bits crc crc_octets crc_of_bits remainder mask_of next_mask whitening_bit whitening_of little_endian ctrl_of makers data_channels used_channels frames command_of layout_of layouts
returns-clause-no_reset c words =
    no_reason words failing A 1 (record { 0 = 0x00 }) (Some 0x3E) (λ code. no_octets_yet failing A refl) refl (λ before same. numbers_differ 0x3E 0x00 refl (some_is 0x3E 0x00 same)) refl
