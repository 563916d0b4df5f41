-- The second packet has not the payload that is due.
use Rattle.std.proofs.Common.{ℕ, List, get_or, refl, ap}
use Rattle.ble_base.specs.declared.roles.Side.TheVariants.{A}
use Rattle.adv_pdu.specs.Header.{kept_bits}
use Rattle.adv_pdu.specs.Reading.{read_of}
use Rattle.air_frame.specs.Hearing.{heard_in}
use Rattle.frame_bits.specs.Crc.{crc, crc_octets, crc_of_bits, remainder}
use Rattle.frame_bits.specs.Whitening.{mask_of, next_mask, whitening_bit, whitening_of}
use Rattle.wire_fields.specs.Field.{little_endian}
use Rattle.journal_sealing.specs.journal_controls.controller_model.Packets.{pdu_heard}
use Rattle.journal_sealing.specs.journal_acks.Carried.{sent_line_of}
use Rattle.journal_sealing.specs.journal_acks.Exchange.{exchange_of}
use Rattle.journal_sealing.specs.journal_controls.journal_links.Begun.{links_begun}
use Rattle.journal_sealing.specs.journal_controls.journal_packets.Belonging.{is_answer, link_of_packet}
use Rattle.sealed_journals.specs.Refused.{response_lost}
use Rattle.sealed_journals.specs.Sample.{central_response, resealed_response, sample_link, sample_words}
use Rattle.sealed_journals.proofs.Lines.{lost_due}
use Rattle.sealed_journals.proofs.Refusing.{differ, octets_are}
use Rattle.sealed_journals.proofs.packets.a_response_sealed_anew_is_not_sent_again.Goals as goal

pub returns : goal.returns
unfolding sent_line_of exchange_of link_of_packet is_answer links_begun pdu_heard heard_in read_of kept_bits crc crc_octets crc_of_bits remainder mask_of next_mask whitening_bit whitening_of little_endian
returns c sent =
    differ 0x14 0xE0 refl
    (ap (λ (octets : List ℕ). get_or octets 6 0)
    (octets_are sample_words response_lost A 34 resealed_response 1 sample_link central_response refl refl lost_due
    sent.again))
