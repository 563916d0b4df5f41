-- Proof of `rows::worked_second_slots`.
use Rattle.std.proofs.Common.{◌≡◌, inl, inr, [], ◌∷◌, ◌++◌, refl, arith}
use Rattle.ble_base.specs.declared.roles.Side.TheVariants.{A, B}
use Rattle.ble_base.specs.declared.verdicts.Verdict.TheVariants.{Good}
use Rattle.journal.specs.declared.entries.Entry.TheVariants.{Air, Sent}
use Rattle.journal.specs.declared.entries.Mark.TheVariants.{Pass}
use Rattle.adv_pdu.specs.Header.{kept_bits}
use Rattle.adv_pdu.specs.Reading.{read_of}
use Rattle.air_frame.specs.Hearing.{heard_in}
use Rattle.frame_bits.specs.Crc.{crc, crc_octets, crc_of_bits, remainder}
use Rattle.frame_bits.specs.Whitening.{mask_of, next_mask, whitening_bit, whitening_of}
use Rattle.journal_acks.specs.controller_model.Packets.{pdu_heard}
use Rattle.wire_fields.specs.Field.{little_endian}
use Rattle.journal_acks.specs.journal_links.Begun.{links_begun}
use Rattle.journal_acks.specs.journal_links.Rows.{one_link}
use Rattle.journal_acks.specs.journal_packets.Belonging.{is_answer, link_of_packet}
use Rattle.journal_acks.specs.EventOrder.{entered_on}
use Rattle.journal_acks.specs.run_model.Rows.{first_packet, first_reply, turn_entry}
use Rattle.journal_acks.specs.Rows.{data_heard, data_packet, data_sent, given_to, more_packet, more_reply, reply_packet}
use Rattle.journal_slots.specs.Rows.{next_packet, peripheral_says_more}
use Rattle.journal_slots.proofs.Refusals.{continued_as}
use Rattle.journal_slots.proofs.rows.worked_second_slots.Goals as goal

pub returns-clause-first_slot : goal.returns-clause-first_slot
unfolding link_of_packet is_answer entered_on links_begun pdu_heard heard_in read_of kept_bits crc crc_octets crc_of_bits remainder mask_of next_mask whitening_bit whitening_of little_endian
returns-clause-first_slot c =
    continued_as (given_to B) B more_packet 1 0 one_link (record { belongs = refl; is_link = refl; entered = refl; unchanged = refl }) (λ in_turn. absurd (let is : 3 ≡ 4 = in_turn in omega (arith, is)))

pub returns-clause-central : goal.returns-clause-central
unfolding link_of_packet is_answer entered_on links_begun pdu_heard heard_in read_of kept_bits crc crc_octets crc_of_bits remainder mask_of next_mask whitening_bit whitening_of little_endian
returns-clause-central c =
    continued_as data_sent B data_packet 1 0 one_link (record { belongs = refl; is_link = refl; entered = refl; unchanged = refl }) (λ in_turn. record {
      heard = record {
        before = given_to B ++ Air B 25 more_packet Pass Good ∷ [];
        channel = 25;
        octets = first_reply;
        fate = Pass;
        verdict = Good;
        after = turn_entry 3 ∷ Sent B 1 1 2 (0xAA ∷ []) ∷ [];
        is_at = refl;
        on_data_channel = refl;
        belongs = refl;
        in_turn = refl;
      };
      good = refl;
      more = inr (
        record {
          before = given_to B;
          channel = 25;
          octets = more_packet;
          fate = Pass;
          verdict = Good;
          after = Air A 25 first_reply Pass Good ∷ turn_entry 3 ∷ Sent B 1 1 2 (0xAA ∷ []) ∷ [];
          is_at = refl;
          on_data_channel = refl;
          belongs = refl;
          in_turn = refl;
        },
        refl,
      );
    })

pub returns-clause-peripheral : goal.returns-clause-peripheral
unfolding link_of_packet is_answer entered_on links_begun pdu_heard heard_in read_of kept_bits crc crc_octets crc_of_bits remainder mask_of next_mask whitening_bit whitening_of little_endian
returns-clause-peripheral c =
    continued_as data_heard A reply_packet 1 0 one_link (record { belongs = refl; is_link = refl; entered = refl; unchanged = refl }) (λ in_turn. record {
      heard = record {
        before = given_to B;
        channel = 25;
        octets = more_packet;
        fate = Pass;
        verdict = Good;
        after = Air A 25 first_reply Pass Good ∷ turn_entry 3 ∷ Sent B 1 1 2 (0xAA ∷ []) ∷ Air B 25 data_packet Pass Good ∷ [];
        is_at = refl;
        on_data_channel = refl;
        belongs = refl;
        in_turn = refl;
      };
      good = refl;
      more = inl refl;
    })

pub returns-clause-by_the_reply : goal.returns-clause-by_the_reply
unfolding link_of_packet is_answer entered_on links_begun pdu_heard heard_in read_of kept_bits crc crc_octets crc_of_bits remainder mask_of next_mask whitening_bit whitening_of little_endian
returns-clause-by_the_reply c =
    continued_as peripheral_says_more B next_packet 1 0 one_link (record { belongs = refl; is_link = refl; entered = refl; unchanged = refl }) (λ in_turn. record {
      heard = record {
        before = given_to A ++ Air B 25 first_packet Pass Good ∷ [];
        channel = 25;
        octets = more_reply;
        fate = Pass;
        verdict = Good;
        after = turn_entry 3 ∷ [];
        is_at = refl;
        on_data_channel = refl;
        belongs = refl;
        in_turn = refl;
      };
      good = refl;
      more = inl refl;
    })
