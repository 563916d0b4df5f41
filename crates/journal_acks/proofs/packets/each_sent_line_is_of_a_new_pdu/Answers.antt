-- Proof of `packets::each_sent_line_is_of_a_new_pdu`.
use Rattle.std.proofs.Common.{refl}
use Rattle.link_calls.specs.run_model.Pair.{given_of}
use Rattle.link_calls.proofs.run_model.LinkEnds.{pair_addresses}
use Rattle.journal_acks.proofs.packets.each_sent_line_is_of_a_new_pdu.Goals as goal

pub returns : goal.returns
returns c = λ a b script front rest side number count llid body six six_too at.
    c.links_of_two_stations_keep_to_the_journal.ensures.new_pdus (given_of a b script) front rest side number count llid body refl (pair_addresses a b script six six_too) at
