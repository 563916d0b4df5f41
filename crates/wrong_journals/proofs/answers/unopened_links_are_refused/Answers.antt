-- A CONNECT_IND opens no link at the side that sent it.
use Rattle.std.proofs.Common.{true, Some, [], refl, sym}
use Rattle.adv_pdu.specs.Header.{kept_bits}
use Rattle.adv_pdu.specs.Reading.{read_of}
use Rattle.air_frame.specs.Hearing.{heard_in}
use Rattle.frame_bits.specs.Crc.{crc, crc_octets, crc_of_bits, remainder}
use Rattle.frame_bits.specs.Whitening.{mask_of, next_mask, whitening_bit, whitening_of}
use Rattle.journal_pdus.specs.controller_model.Packets.{pdu_heard}
use Rattle.wire_fields.specs.Field.{little_endian}
use Rattle.journal_pdus.specs.journal_links.Begun.{links_begun}
use Rattle.journal_pdus.specs.journal_links.Rows.{one_link}
use Rattle.wrong_journals.specs.Answers.{opened_by_other}
use Rattle.wrong_journals.specs.Hearings.{unheard_connect}
use Rattle.wrong_journals.proofs.Differing.{truths_differ}
use Rattle.wrong_journals.proofs.Opening.{link_is_opened}
use Rattle.wrong_journals.proofs.answers.unopened_links_are_refused.Goals as goal

pub returns-clause-never : goal.returns-clause-never
unfolding links_begun pdu_heard heard_in read_of kept_bits crc crc_octets crc_of_bits remainder mask_of next_mask whitening_bit whitening_of little_endian
returns-clause-never c lawful = truths_differ (sym (lawful unheard_connect [] 1 true (Some true) refl 1 one_link refl))

pub returns-clause-by_other : goal.returns-clause-by_other
unfolding links_begun pdu_heard heard_in read_of kept_bits crc crc_octets crc_of_bits remainder mask_of next_mask whitening_bit whitening_of little_endian
returns-clause-by_other c lawful = truths_differ (sym (lawful opened_by_other [] 1 true (Some true) refl 1 one_link refl))

pub returns-clause-at_the_end : goal.returns-clause-at_the_end
unfolding links_begun pdu_heard heard_in read_of kept_bits crc crc_octets crc_of_bits remainder mask_of next_mask whitening_bit whitening_of little_endian
returns-clause-at_the_end c lawful = truths_differ (sym (lawful 1 one_link refl))

pub returns-clause-right : goal.returns-clause-right
returns-clause-right c = link_is_opened
