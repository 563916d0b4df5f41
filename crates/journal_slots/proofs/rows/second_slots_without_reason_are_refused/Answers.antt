-- Proof of `rows::second_slots_without_reason_are_refused`.
use Rattle.std.proofs.Common.{[], refl}
use Rattle.ble_base.specs.declared.roles.Side.TheVariants.{B}
use Rattle.ble_base.specs.declared.verdicts.Verdict.TheVariants.{Good}
use Rattle.journal.specs.declared.entries.Mark.TheVariants.{Pass}
use Rattle.adv_pdu.specs.Header.{kept_bits}
use Rattle.adv_pdu.specs.Reading.{read_of}
use Rattle.air_frame.specs.Hearing.{heard_in}
use Rattle.frame_bits.specs.Crc.{crc, crc_octets, crc_of_bits, remainder}
use Rattle.frame_bits.specs.Whitening.{mask_of, next_mask, whitening_bit, whitening_of}
use Rattle.journal_acks.specs.controller_model.Packets.{pdu_heard}
use Rattle.wire_fields.specs.Field.{little_endian}
use Rattle.journal_acks.specs.journal_links.Begun.{links_begun}
use Rattle.journal_acks.specs.journal_links.Entered.{anchor_in}
use Rattle.journal_acks.specs.journal_links.Rows.{one_link}
use Rattle.journal_acks.specs.journal_packets.Belonging.{is_answer, link_of_packet}
use Rattle.journal_acks.specs.EventOrder.{entered_on}
use Rattle.journal_acks.specs.Rows.{more_packet}
use Rattle.journal_slots.specs.Rows.{next_packet, none_is_heard, none_says_more}
use Rattle.journal_slots.proofs.Refusals.{has_to_continue, unheard_refutes, no_more_refutes}
use Rattle.journal_slots.proofs.rows.second_slots_without_reason_are_refused.Goals as goal

pub returns-clause-no_more : goal.returns-clause-no_more
unfolding link_of_packet is_answer entered_on links_begun pdu_heard heard_in read_of kept_bits crc crc_octets crc_of_bits remainder mask_of next_mask whitening_bit whitening_of little_endian
returns-clause-no_more c lawful =
    no_more_refutes 1 (anchor_in one_link [] 0) B none_says_more refl
    (has_to_continue none_says_more B next_packet 1 0 one_link (record { belongs = refl; is_link = refl; entered = refl; unchanged = refl }) refl (lawful none_says_more [] B 25 next_packet Pass Good refl refl))

pub returns-clause-unheard : goal.returns-clause-unheard
unfolding link_of_packet is_answer entered_on links_begun pdu_heard heard_in read_of kept_bits crc crc_octets crc_of_bits remainder mask_of next_mask whitening_bit whitening_of little_endian
returns-clause-unheard c lawful =
    unheard_refutes 1 (anchor_in one_link [] 0) B none_is_heard refl
    (has_to_continue none_is_heard B more_packet 1 0 one_link (record { belongs = refl; is_link = refl; entered = refl; unchanged = refl }) refl (lawful none_is_heard [] B 25 more_packet Pass Good refl refl))
