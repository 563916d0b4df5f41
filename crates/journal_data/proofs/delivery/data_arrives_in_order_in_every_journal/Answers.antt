-- Proof of `delivery::data_arrives_in_order_in_every_journal`.
use Rattle.std.proofs.Common.{refl}
use Rattle.journal_acks.specs.run_model.Pair.{given_of}
use Rattle.journal_acks.proofs.run_model.LinkEnds.{pair_addresses}
use Rattle.journal_acks.proofs.run_model.Ordered.{pair_distinct}
use Rattle.journal_data.proofs.Followed.{agree_unmixed}
use Rattle.journal_data.proofs.Law.{data_arrives}
use Rattle.journal_data.proofs.delivery.data_arrives_in_order_in_every_journal.Goals as goal

pub returns : goal.returns
returns c = λ a b script mixed six six_too follows front rest at side link unmixed.
    data_arrives c.packet_tells_its_pdu.ensures.heard c.a_pdu_is_understood.ensures.says c.connections_are_taken.ensures.taken c.searches_give_each_valid_address.ensures.valid
    c.searches_give_each_valid_address.ensures.distinct a b script
    (agree_unmixed (given_of a b script) refl (pair_distinct a b script) (pair_addresses a b script six six_too)
    c.both_ends_hear_each_other_in_turns.ensures.hear c.ends_that_last_are_sound.ensures.agreement)
    mixed follows front rest side link six six_too at unmixed
