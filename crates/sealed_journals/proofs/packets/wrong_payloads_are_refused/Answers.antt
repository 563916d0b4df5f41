-- The payload of a packet is not the one that is due.
use Rattle.std.proofs.Common.{ℕ, List, [], get_or, refl, ap}
use Rattle.ble_base.specs.declared.roles.Side.TheVariants.{A}
use Rattle.ble_base.specs.declared.verdicts.Verdict.TheVariants.{Good}
use Rattle.journal.specs.declared.entries.Mark.TheVariants.{Pass}
use Rattle.adv_pdu.specs.Header.{kept_bits}
use Rattle.adv_pdu.specs.Reading.{read_of}
use Rattle.air_frame.specs.Hearing.{heard_in}
use Rattle.frame_bits.specs.Crc.{crc, crc_octets, crc_of_bits, remainder}
use Rattle.frame_bits.specs.Whitening.{mask_of, next_mask, whitening_bit, whitening_of}
use Rattle.wire_fields.specs.Field.{little_endian}
use Rattle.journal_sealing.specs.journal_controls.controller_model.Packets.{pdu_heard}
use Rattle.journal_sealing.specs.journal_acks.Carried.{sent_line_of}
use Rattle.journal_sealing.specs.journal_acks.Exchange.{exchange_of}
use Rattle.journal_sealing.specs.journal_controls.journal_links.Begun.{links_begun}
use Rattle.journal_sealing.specs.journal_controls.journal_packets.Belonging.{is_answer, link_of_packet}
use Rattle.sealed_journals.specs.Refused.{response_lost}
use Rattle.sealed_journals.specs.Sample.{central_response, clear_response, data_sent, data_with_used_counter, resealed_response, response_sent, sample_link, sample_words, central_sealed, turned_response}
use Rattle.sealed_journals.proofs.Lines.{data_due, lost_due, response_due}
use Rattle.sealed_journals.proofs.Refusing.{differ, octets_are}
use Rattle.sealed_journals.proofs.packets.wrong_payloads_are_refused.Goals as goal

pub returns-clause-in_clear : goal.returns-clause-in_clear
unfolding sent_line_of exchange_of link_of_packet is_answer links_begun pdu_heard heard_in read_of kept_bits crc crc_octets crc_of_bits remainder mask_of next_mask whitening_bit whitening_of little_endian
returns-clause-in_clear c lawful =
    differ 0x60 0xF9 refl
    (ap (λ (octets : List ℕ). get_or octets 6 0)
    (octets_are sample_words response_sent A 21 clear_response 1 sample_link central_response refl refl response_due
    (lawful response_sent [] A 21 clear_response Pass Good refl refl)))

pub returns-clause-turned : goal.returns-clause-turned
unfolding sent_line_of exchange_of link_of_packet is_answer links_begun pdu_heard heard_in read_of kept_bits crc crc_octets crc_of_bits remainder mask_of next_mask whitening_bit whitening_of little_endian
returns-clause-turned c lawful =
    differ 0xC5 0xF9 refl
    (ap (λ (octets : List ℕ). get_or octets 6 0)
    (octets_are sample_words response_sent A 21 turned_response 1 sample_link central_response refl refl response_due
    (lawful response_sent [] A 21 turned_response Pass Good refl refl)))

pub returns-clause-anew : goal.returns-clause-anew
unfolding sent_line_of exchange_of link_of_packet is_answer links_begun pdu_heard heard_in read_of kept_bits crc crc_octets crc_of_bits remainder mask_of next_mask whitening_bit whitening_of little_endian
returns-clause-anew c lawful =
    differ 0x14 0xE0 refl
    (ap (λ (octets : List ℕ). get_or octets 6 0)
    (octets_are sample_words response_lost A 34 resealed_response 1 sample_link central_response refl refl lost_due
    (lawful response_lost [] A 34 resealed_response Pass Good refl refl)))

pub returns-clause-counter : goal.returns-clause-counter
unfolding sent_line_of exchange_of link_of_packet is_answer links_begun pdu_heard heard_in read_of kept_bits crc crc_octets crc_of_bits remainder mask_of next_mask whitening_bit whitening_of little_endian
returns-clause-counter c lawful =
    differ 0xD7 0x23 refl
    (ap (λ (octets : List ℕ). get_or octets 6 0)
    (octets_are sample_words data_sent A 36 data_with_used_counter 1 sample_link central_sealed refl refl data_due
    (lawful data_sent [] A 36 data_with_used_counter Pass Good refl refl)))
