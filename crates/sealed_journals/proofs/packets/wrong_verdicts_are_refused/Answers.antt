-- The verdict on a packet is not the one that its integrity code gives.
use Rattle.std.proofs.Common.{[], refl, sym}
use Rattle.std.specs.Prelude.{true, false}
use Rattle.ble_base.specs.declared.roles.Side.TheVariants.{A}
use Rattle.ble_base.specs.declared.verdicts.Verdict.TheVariants.{Forged, Good}
use Rattle.journal.specs.declared.entries.Mark.TheVariants.{Pass}
use Rattle.adv_pdu.specs.Header.{kept_bits}
use Rattle.adv_pdu.specs.Reading.{read_of}
use Rattle.air_frame.specs.Hearing.{heard_in}
use Rattle.frame_bits.specs.Crc.{crc, crc_octets, crc_of_bits, remainder}
use Rattle.frame_bits.specs.Whitening.{mask_of, next_mask, whitening_bit, whitening_of}
use Rattle.wire_fields.specs.Field.{little_endian}
use Rattle.journal_sealing.specs.journal_controls.controller_model.Packets.{pdu_heard}
use Rattle.journal_sealing.specs.journal_controls.journal_links.Begun.{links_begun}
use Rattle.journal_sealing.specs.journal_controls.journal_packets.Belonging.{is_answer, link_of_packet}
use Rattle.sealed_journals.specs.Sample.{response_packet, response_sent, sample_words, turned_response}
use Rattle.sealed_journals.proofs.Lines.{right_is_not_forged, turned_is_forged}
use Rattle.sealed_journals.proofs.Refusing.{good_is_not_forged, judged_as}
use Rattle.sealed_journals.proofs.packets.wrong_verdicts_are_refused.Goals as goal

pub returns : goal.returns
unfolding link_of_packet is_answer links_begun pdu_heard heard_in read_of kept_bits crc crc_octets crc_of_bits remainder mask_of next_mask whitening_bit whitening_of little_endian
returns c = record {
  turned = λ lawful. good_is_not_forged
      (judged_as sample_words response_sent A 21 turned_response Pass Good 1 true refl refl turned_is_forged
      (lawful response_sent [] A 21 turned_response Pass Good refl refl refl));
  right = λ lawful. good_is_not_forged
      (sym (judged_as sample_words response_sent A 21 response_packet Pass Forged 1 false refl refl right_is_not_forged
      (lawful response_sent [] A 21 response_packet Pass Forged refl refl refl)));
}
