-- A packet comes outside the event of its link.
use Rattle.std.proofs.Common.{◌≡◌, ℕ, ◌+◌, ◌⊎◌, inl, inr, [], refl, ap, arith}
use Rattle.ble_base.specs.declared.roles.Side.TheVariants.{B}
use Rattle.ble_base.specs.declared.verdicts.Verdict.TheVariants.{Good}
use Rattle.journal.specs.declared.entries.Mark.TheVariants.{Pass}
use Rattle.adv_pdu.specs.Header.{kept_bits}
use Rattle.adv_pdu.specs.Reading.{read_of}
use Rattle.air_frame.specs.Hearing.{heard_in}
use Rattle.frame_bits.specs.Crc.{crc, crc_octets, crc_of_bits, remainder}
use Rattle.frame_bits.specs.Whitening.{mask_of, next_mask, whitening_bit, whitening_of}
use Rattle.journal_pdus.specs.controller_model.Packets.{pdu_heard}
use Rattle.run_model.specs.Rows.{first_packet}
use Rattle.wire_fields.specs.Field.{little_endian}
use Rattle.journal_pdus.specs.journal_links.Begun.{links_begun}
use Rattle.journal_pdus.specs.journal_links.Entered.{anchor_in}
use Rattle.journal_pdus.specs.journal_links.Rows.{one_link}
use Rattle.journal_pdus.specs.journal_packets.Belonging.{is_answer, link_of_packet}
use Rattle.journal_pdus.specs.journal_acks.EventOrder.{entered_on}
use Rattle.journal_pdus.specs.journal_slots.Rows.{next_packet}
use Rattle.wrong_journals.specs.InEvent.{only_other_entered, two_turns_after}
use Rattle.wrong_journals.proofs.InEvents.{in_event_as}
use Rattle.wrong_journals.proofs.slots.packets_outside_events_are_refused.Goals as goal

-- five turns have begun, and the anchor of event 0 is in turn 2
not_so : (event turns anchor : ℕ) → (turns ≡ anchor + 1) ⊎ (turns ≡ anchor + 2) → turns ≡ 5 → anchor ≡ 2 → ⊥
not_so event turns anchor (inl is) five two = omega (arith, is, five, two)
not_so event turns anchor (inr is) five two = omega (arith, is, five, two)

first_event : (event : ℕ) → 1 ≡ event + 1 → event ≡ 0
first_event event is = omega (arith, is)

no_event : (event : ℕ) → 0 ≡ event + 1 → ⊥
no_event event is = omega (arith, is)

pub returns-clause-in_turn : goal.returns-clause-in_turn
unfolding link_of_packet is_answer entered_on links_begun pdu_heard heard_in read_of kept_bits crc crc_octets crc_of_bits remainder mask_of next_mask whitening_bit whitening_of little_endian
returns-clause-in_turn c = record { number = 1; belongs = refl; link = one_link; is_link = refl; event = 0; entered = refl; in_turn = inl refl }

pub returns-clause-next_turn : goal.returns-clause-next_turn
unfolding link_of_packet is_answer entered_on links_begun pdu_heard heard_in read_of kept_bits crc crc_octets crc_of_bits remainder mask_of next_mask whitening_bit whitening_of little_endian
returns-clause-next_turn c = record { number = 1; belongs = refl; link = one_link; is_link = refl; event = 0; entered = refl; in_turn = inr refl }

pub returns-clause-late : goal.returns-clause-late
unfolding link_of_packet is_answer entered_on links_begun pdu_heard heard_in read_of kept_bits crc crc_octets crc_of_bits remainder mask_of next_mask whitening_bit whitening_of little_endian
returns-clause-late c lawful =
    let is = in_event_as two_turns_after B next_packet 1 one_link 1 refl refl refl refl (lawful two_turns_after [] B 25 next_packet Pass Good refl refl) in
    not_so is.event 5 (anchor_in one_link [] is.event) is.in_turn refl (ap (anchor_in one_link []) (first_event is.event is.entered))

pub returns-clause-before : goal.returns-clause-before
unfolding link_of_packet is_answer entered_on links_begun pdu_heard heard_in read_of kept_bits crc crc_octets crc_of_bits remainder mask_of next_mask whitening_bit whitening_of little_endian
returns-clause-before c lawful =
    let is = in_event_as only_other_entered B first_packet 1 one_link 0 refl refl refl refl (lawful only_other_entered [] B 25 first_packet Pass Good refl refl) in
    no_event is.event is.entered
