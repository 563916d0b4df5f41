-- Proof of `rows::worked_forgeries`: the definitions compute.
use Rattle.std.proofs.Common.{refl, arith}
use Rattle.adv_pdu.specs.Header.{kept_bits}
use Rattle.adv_pdu.specs.Reading.{read_of}
use Rattle.air_frame.specs.Hearing.{heard_in}
use Rattle.frame_bits.specs.Crc.{crc, crc_octets, crc_of_bits, remainder}
use Rattle.frame_bits.specs.Whitening.{mask_of, next_mask, whitening_bit, whitening_of}
use Rattle.journal_controls.specs.controller_model.Packets.{pdu_heard}
use Rattle.wire_fields.specs.Field.{little_endian}
use Rattle.data_pdu.specs.Layouts.{makers}
use Rattle.data_pdu.specs.Reading.{ctrl_of}
use Rattle.ble_base.specs.declared.roles.Side.TheVariants.{A, B}
use Rattle.journal_controls.specs.LineSteps.{control_on, keyed_on}
use Rattle.journal_controls.specs.journal_acks.Carried.{sent_line_of}
use Rattle.journal_controls.specs.journal_acks.Exchange.{exchange_of}
use Rattle.journal_controls.specs.journal_acks.Rows.{data_heard}
use Rattle.journal_controls.specs.journal_acks.Shut.{last_heard}
use Rattle.journal_controls.specs.journal_ends.Rows.{forged_data}
use Rattle.journal_controls.specs.journal_links.Begun.{links_begun}
use Rattle.journal_controls.specs.journal_packets.Belonging.{is_answer, link_of_packet}
use Rattle.journal_leaving.specs.Leaving.{leaving_on}
use Rattle.journal_leaving.specs.Reasons.{due_on, ending_on, leaving, packets_passed}
use Rattle.journal_leaving.proofs.NotShut.{not_shut}
use Rattle.journal_leaving.proofs.rows.worked_forgeries.Goals as goal

pub returns : goal.returns
unfolding packets_passed ending_on due_on leaving_on control_on keyed_on last_heard exchange_of sent_line_of link_of_packet is_answer links_begun pdu_heard heard_in read_of kept_bits crc crc_octets crc_of_bits remainder mask_of next_mask whitening_bit whitening_of little_endian ctrl_of makers
returns c = record {
  forged = λ words. leaving refl;
  stays = λ words. refl;
  not_sender = λ words. not_shut words forged_data B 1 (record { 0 = 0x3D }) (λ code. omega (arith, code)) refl refl;
  not_good = λ words. not_shut words data_heard A 1 (record { 0 = 0x3D }) (λ code. omega (arith, code)) refl refl;
}
