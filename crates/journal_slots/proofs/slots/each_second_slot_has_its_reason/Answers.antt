-- Proof of `slots::each_second_slot_has_its_reason`.
use Rattle.journal_slots.proofs.SecondSlots.{packets_continued}
use Rattle.journal_slots.proofs.slots.each_second_slot_has_its_reason.Goals as goal

pub returns : goal.returns
returns c = λ given stations six.
    packets_continued c.packet_tells_its_pdu.ensures.heard c.a_pdu_is_understood.ensures.says c.connections_are_taken.ensures.taken c.searches_give_each_valid_address.ensures.valid
    c.searches_give_each_valid_address.ensures.distinct given stations six
