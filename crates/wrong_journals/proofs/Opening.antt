-- Both sides hold the link of a right journal from its CONNECT_IND on.
use Rattle.std.proofs.Common.{◌≡◌, ℕ, zero, suc, true, Some, None, refl, subst}
use Rattle.adv_pdu.specs.Header.{kept_bits}
use Rattle.adv_pdu.specs.Reading.{read_of}
use Rattle.air_frame.specs.Hearing.{heard_in}
use Rattle.frame_bits.specs.Crc.{crc, crc_octets, crc_of_bits, remainder}
use Rattle.frame_bits.specs.Whitening.{mask_of, next_mask, whitening_bit, whitening_of}
use Rattle.journal_pdus.specs.controller_model.Packets.{pdu_heard}
use Rattle.run_model.specs.Rows.{one_connection_journal}
use Rattle.wire_fields.specs.Field.{little_endian}
use Rattle.journal_pdus.specs.journal_links.Begun.{LinkBegun, link_numbered, links_begun}
use Rattle.journal_pdus.specs.journal_links.Rows.{one_link}
use Rattle.journal_pdus.specs.OpenedLinks.{is_opened_by}
use Rattle.wrong_journals.proofs.Packets.{some_is}

pub link_is_opened : (number : ℕ) (link : LinkBegun) → link_numbered number one_connection_journal ≡ Some link
    → is_opened_by link.central number one_connection_journal ≡ true
unfolding links_begun pdu_heard heard_in read_of kept_bits crc crc_octets crc_of_bits remainder mask_of next_mask whitening_bit whitening_of little_endian
link_is_opened zero link is = let none : None ≡ Some link = is in absurd cc
link_is_opened (suc zero) link is =
    subst (λ (l : LinkBegun). is_opened_by l.central 1 one_connection_journal ≡ true) (some_is one_link link is) refl
link_is_opened (suc (suc number)) link is = let none : None ≡ Some link = is in absurd cc
